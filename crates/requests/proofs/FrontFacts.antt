-- The front of a connection's bytes, from what was read of it.
use Rattle.std.proofs.Common.{◌≡◌, inl, inr, ℕ, ◌+◌, ◌-◌, ◌<◌, ◌≤◌, ◌==◌, Bool, true, false, List, [], ◌++◌, length, take, nat_le, Option, Some, None, IfErr, IfSome, Result, Ok, Err, if◌then◌else◌, refl, sym, ap, ◌∙◌, subst, arith, append-nil, append_assoc, length-append}
use Rattle.std.proofs.Math.Seq.{take-append-add}
use Rattle.std.proofs.lemmas.Bool.Decides.{nat_tests}
use Rattle.std.proofs.lemmas.List.{nil_from_length, take-append-le, take_all}
use Rattle.std.specs.Io.KnownBytes.{Consumes, IsAtEnd, Keeps, prepend_known}
use Rattle.std.specs.Result.{result_ok}
use Rattle.lemmas.proofs.TestFacts.{either_order}
use Rattle.requests.specs.HeadEnd.{IsAtHand, empty_lines_len, front_of, front_with, head_limit, whole_len}
use Rattle.requests.specs.Search.{ended, ends_clean, resumed, search}
use Rattle.requests.specs.declared.front.Front.TheVariants.{Head, CleanEnd, EndInside, TooLarge}
use Rattle.requests.specs.declared.head_end.Ending.{Ending}
use Rattle.requests.specs.declared.head_end.Ending.TheVariants.{EmptyLines, EmptyLinesReturn, Line, Feed, FeedReturn}
use Rattle.requests.proofs.HeadEndFacts.{search_clean, search_finds}
use Rattle.requests.proofs.SearchFacts.{search_append}

pub limit_is : 16384 ≡ head_limit
unfolding head_limit
limit_is = refl

-- a front of bytes that is at hand is a front of more bytes
front_and_more : (limit : ℕ) (held more : List ℕ) → (rest : List ℕ) × (take limit (held ++ more) ≡ take limit held ++ rest)
front_and_more limit held more = elim (either_order (nat_le limit (length held)) limit (length held) refl) [
  | inl h ↦ ([], take-append-le limit held more h ∙ sym (append-nil (take limit held)))
  | inr h ↦
      let count : limit ≡ length held + (limit - length held) = omega arith in
      let whole : held ≡ take limit held = sym (take_all limit held h) in (
        take (limit - length held) more,
        ap (λ n. take n (held ++ more)) count ∙ take-append-add held more (limit - length held)
            ∙ ap (λ l. l ++ take (limit - length held) more) whole,
      )
]

-- ---- what the search in the front decides

settled : (n : ℕ) (first : Result ℕ Ending) (m : ℕ) (more : List ℕ) → first ≡ Ok m → resumed n first more ≡ Ok m
settled n (Ok k) m more e = e
settled n (Err ending) m more e = cc

-- the end of a head was found
pub found : (limit n : ℕ) (held more : List ℕ) → search EmptyLines (take limit held) ≡ Ok n → Head n ≡ front_of limit (held ++ more)
found limit n held more e =
    let whole : search EmptyLines (take limit (held ++ more)) ≡ Ok n =
    let split = front_and_more limit held more in
    ap (search EmptyLines) split.1 ∙ search_append EmptyLines (take limit held) split.0
    ∙ settled (length (take limit held)) (search EmptyLines (take limit held)) n split.0 e in
    let len : Some n ≡ whole_len (take limit (held ++ more)) =
    sym (ap result_ok whole) ∙ search_finds (take limit (held ++ more)) EmptyLines in
    ap (λ o. front_with o limit (held ++ more)) len

-- as many bytes as a head may have are there, without its end
pub too_large : (limit : ℕ) (held more : List ℕ) (ending : Ending) → search EmptyLines (take limit held) ≡ Err ending → limit ≤ length held
    → TooLarge ≡ front_of limit (held ++ more)
too_large limit held more ending e full =
    let same : take limit held ≡ take limit (held ++ more) = sym (take-append-le limit held more full) in
    let len : None ≡ whole_len (take limit (held ++ more)) =
    sym (ap result_ok e) ∙ search_finds (take limit held) EmptyLines ∙ ap whole_len same in
    let count : length (held ++ more) ≡ length held + length more = length-append held more in
    let over : true ≡ nat_le limit (length (held ++ more)) = grind (arith, nat_tests) in
    ap (λ t. if t then TooLarge else if empty_lines_len (held ++ more) == length (held ++ more) then CleanEnd else EndInside) over
    ∙ ap (λ o. front_with o limit (held ++ more)) len

clean_or : (ending : Ending) → ended ending ≡ (if ends_clean (Err ending) then CleanEnd else EndInside)
clean_or EmptyLines = refl
clean_or EmptyLinesReturn = refl
clean_or Line = refl
clean_or Feed = refl
clean_or FeedReturn = refl

-- the input ended before
pub at_end : (limit : ℕ) (held : List ℕ) (ending : Ending) → search EmptyLines held ≡ Err ending → length held < limit
    → ended ending ≡ front_of limit held
at_end limit held ending e short =
    let all : held ≡ take limit held = sym (take_all limit held (omega arith)) in
    let len : None ≡ whole_len (take limit held) = sym (ap result_ok e) ∙ search_finds held EmptyLines ∙ ap whole_len all in
    let clean : ends_clean (Err ending) ≡ (empty_lines_len held == length held) = sym (ap ends_clean e) ∙ search_clean held EmptyLines in
    let under : false ≡ nat_le limit (length held) = grind (arith, nat_tests) in
    clean_or ending ∙ ap (λ t. if t then CleanEnd else EndInside) clean
    ∙ ap (λ t. if t then TooLarge else if empty_lines_len held == length held then CleanEnd else EndInside) under
    ∙ ap (λ o. front_with o limit held) len

none_at_end : (ending : Ending) → IsAtHand (ended ending) → ⊥
none_at_end EmptyLines at = at
none_at_end EmptyLinesReturn at = at
none_at_end Line at = at
none_at_end Feed at = at
none_at_end FeedReturn at = at

-- bytes in which the search found no end, fewer than a head may have
pub record HasNoEnd (shown held : List ℕ) (next : Ending) : Type 0 where
  pub whole : shown ≡ held
  pub count : length shown ≡ length held
  pub short : length held < head_limit
  pub none : search EmptyLines held ≡ Err next

-- where fewer bytes than a head may have are shown, they are all that are held
pub no_end : (shown bytes held : List ℕ) (next : Ending) → (length shown < 16384 → shown ≡ bytes) → bytes ≡ held → length shown < 16384
    → search EmptyLines shown ≡ Err next → HasNoEnd shown held next
no_end shown bytes held next all same less none =
    let whole : shown ≡ held = all less ∙ same in
    record {
      whole = whole;
      count = ap length whole;
      short = subst (λ m. length held < m) limit_is (subst (λ l. length l < 16384) whole less);
      none = ap (search EmptyLines) (sym whole) ∙ none;
    }

-- where fewer bytes than a head may have show no head's end, no head was at hand
pub not_at_hand : (limit : ℕ) (held first : List ℕ) (ending : Ending) → search EmptyLines held ≡ Err ending → length held < limit → held ≡ first
    → IsAtHand (front_of limit first) → ⊥
not_at_hand limit held first ending e short same at =
    none_at_end ending (subst IsAtHand (sym (at_end limit held ending e short ∙ ap (front_of limit) same)) at)

-- ---- the bytes that are held and those that are left to read

pub told : (P : List ℕ → Type 0) (all left : Option (List ℕ)) (held : List ℕ) → Keeps all (prepend_known held left)
    → ((more : List ℕ) → P (held ++ more)) → IfSome all P
told P None left held kept h = tt
told P (Some x) None held kept h = absurd kept
told P (Some x) (Some y) held kept h = subst P kept (h y)

pub told_at_end : (P : List ℕ → Type 0) (all left : Option (List ℕ)) (held : List ℕ) → Keeps all (prepend_known held left)
    → IsAtEnd left → P held → IfSome all P
told_at_end P None left held kept end h = tt
told_at_end P (Some x) None held kept end h = absurd kept
told_at_end P (Some x) (Some y) held kept end h = subst P (sym (append-nil held) ∙ ap (λ l. held ++ l) (sym end) ∙ kept) h

-- a read moves bytes from what is left to what is held
pub taken : (all before after : Option (List ℕ)) (old new bytes : List ℕ) → Keeps all (prepend_known old before) → new ≡ old ++ bytes
    → Consumes before after bytes → Keeps all (prepend_known new after)
taken None before after old new bytes kept grown read = tt
taken (Some x) None after old new bytes kept grown read = absurd kept
taken (Some x) (Some b) None old new bytes kept grown read = absurd read
taken (Some x) (Some b) (Some a) old new bytes kept grown read =
    ap (λ l. l ++ a) grown ∙ append_assoc old bytes a ∙ ap (λ l. old ++ l) (sym read) ∙ kept

pub untaken : (all before after : Option (List ℕ)) (old new : List ℕ) → Keeps all (prepend_known old before) → new ≡ old
    → Keeps before after → Keeps all (prepend_known new after)
untaken None before after old new kept same unread = tt
untaken (Some x) None after old new kept same unread = absurd kept
untaken (Some x) (Some b) None old new kept same unread = absurd unread
untaken (Some x) (Some b) (Some a) old new kept same unread = ap (λ l. new ++ l) unread ∙ ap (λ l. l ++ b) same ∙ kept

-- a read that gave nothing at the end was made at the end
pub ended_before : (before after : Option (List ℕ)) (bytes : List ℕ) → Consumes before after bytes → length bytes ≡ 0 → IsAtEnd after
    → IsAtEnd before
ended_before None after bytes read none end = tt
ended_before (Some b) None bytes read none end = absurd read
ended_before (Some b) (Some a) bytes read none end = read ∙ ap (λ l. l ++ a) (nil_from_length bytes none) ∙ end

-- ---- the front of the bytes that came

pub found_so_far : (limit n : ℕ) (held : List ℕ) → search EmptyLines (take limit held) ≡ Ok n → Head n ≡ front_of limit held
found_so_far limit n held e = subst (λ bytes. Head n ≡ front_of limit bytes) (append-nil held) (found limit n held [] e)

pub too_large_so_far : (limit : ℕ) (held : List ℕ) (ending : Ending) → search EmptyLines (take limit held) ≡ Err ending → limit ≤ length held
    → TooLarge ≡ front_of limit held
too_large_so_far limit held ending e full = subst (λ bytes. TooLarge ≡ front_of limit bytes) (append-nil held) (too_large limit held [] ending e full)

never_without : (t u : Bool) (n : ℕ) → (if t then TooLarge else if u then CleanEnd else EndInside) ≡ Head n → ⊥
never_without true u n e = absurd (cc)
never_without false true n e = absurd (cc)
never_without false false n e = absurd (cc)

pub ends_at : (end : Option ℕ) (limit n : ℕ) (held : List ℕ) → front_with end limit held ≡ Head n → end ≡ Some n
ends_at None limit n held e =
    absurd (never_without (nat_le limit (length held)) (empty_lines_len held == length held) n e)
ends_at (Some m) limit n held e = let same : m ≡ n = cc in ap (λ k. Some k) same

pub found_by : (first : Result ℕ Ending) (n : ℕ) → result_ok first ≡ Some n → first ≡ Ok n
found_by (Ok m) n e = let same : m ≡ n = cc in ap (λ k. Ok k) same
found_by (Err ending) n e = absurd (cc)

-- a head's end stays where it is when more bytes come
pub head_stays : (limit n : ℕ) (held more : List ℕ) → front_of limit held ≡ Head n → front_of limit (held ++ more) ≡ Head n
head_stays limit n held more e =
    let end : whole_len (take limit held) ≡ Some n = ends_at (whole_len (take limit held)) limit n held e in
    sym (found limit n held more (found_by (search EmptyLines (take limit held)) n (search_finds (take limit held) EmptyLines ∙ end)))

-- a read that gave nothing leaves the bytes as they were
pub none_read : (old new bytes : List ℕ) → new ≡ old ++ bytes → length bytes ≡ 0 → new ≡ old
none_read old new bytes grown none = grown ∙ ap (λ l. old ++ l) (nil_from_length bytes none) ∙ append-nil old

-- what holds whatever the fault is
pub any_err : {A E : Type 0} {P : Type 0} (r : Result A E) → P → IfErr r (λ fault. P)
any_err (Ok a) p = tt
any_err (Err fault) p = p
