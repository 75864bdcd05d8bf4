-- What bytes that come later leave as it is.
use Rattle.std.proofs.Common.{◌≡◌, ℕ, ◌+◌, ◌≤◌, Bool, true, false, List, [], ◌∷◌, ◌++◌, length, take, drop, nat_le, Option, Some, None, Result, Ok, Err, if◌then◌else◌, refl, sym, ap, ◌∙◌, subst, arith, length-append}
use Rattle.std.proofs.lemmas.Bool.Decides.{nat_tests}
use Rattle.std.proofs.lemmas.List.{drop-append-le, length-take, take-append-le}
use Rattle.requests.specs.HeadEnd.{front_of, head_limit, whole_len}
use Rattle.requests.specs.NextRequest.{IsNext, IsNextBy, after_head, end_inside, whole, with_body}
use Rattle.requests.specs.Order.{Decision, IsDecided}
use Rattle.requests.specs.Request.{Parts}
use Rattle.requests.specs.Search.{after, counted, go_on, search}
use Rattle.requests.specs.declared.front.Front.{Front}
use Rattle.requests.specs.declared.front.Front.TheVariants.{Head, CleanEnd, EndInside, TooLarge}
use Rattle.requests.specs.declared.head_end.Ending.{Ending}
use Rattle.requests.specs.declared.head_end.Ending.TheVariants.{EmptyLines}
use Rattle.requests.proofs.FrontFacts.{ends_at, found_by, head_stays}
use Rattle.requests.proofs.HeadEndFacts.{search_finds}

-- ---- a head's end is found among the bytes

counted_within : (found : Result ℕ Ending) (n m : ℕ) → ((k : ℕ) → found ≡ Ok k → k ≤ m) → counted found ≡ Ok n → n ≤ 1 + m
counted_within (Ok k) n m within e = let low = within k refl in let same : k + 1 ≡ n = cc in omega arith
counted_within (Err ending) n m within e = absurd (cc)

go_on_within : (next : Option Ending) (bytes : List ℕ) (n : ℕ) → ((ending : Ending) (k : ℕ) → search ending bytes ≡ Ok k → k ≤ length bytes)
    → go_on next (λ ending. search ending bytes) ≡ Ok n → n ≤ 1 + length bytes
go_on_within None bytes n within e = let same : 1 ≡ n = cc in omega arith
go_on_within (Some ending) bytes n within e = counted_within (search ending bytes) n (length bytes) (within ending) e

found_within : (ending : Ending) (bytes : List ℕ) (n : ℕ) → search ending bytes ≡ Ok n → n ≤ length bytes
unfolding search
found_within ending [] n e = absurd (cc)
found_within ending (b ∷ bytes) n e =
    let low = go_on_within (after ending b) bytes n (λ next k found. found_within next bytes k found) e in omega arith

head_within : (limit n : ℕ) (held : List ℕ) → front_of limit held ≡ Head n → n ≤ length held
head_within limit n held e =
    let end : whole_len (take limit held) ≡ Some n = ends_at (whole_len (take limit held)) limit n held e in
    let low = found_within EmptyLines (take limit held) n (found_by (search EmptyLines (take limit held)) n (search_finds (take limit held) EmptyLines ∙ end)) in
    let short = length-take limit held in
    omega arith

-- ---- a whole request

body_by : (t : Bool) (own parts : Parts) (n : ℕ) (rest more body following : List ℕ) → nat_le n (length rest) ≡ t
    → whole parts body following ≡ (if t then whole own (take n rest) (drop n rest) else end_inside)
    → whole parts body (following ++ more) ≡ with_body own n (rest ++ more)
body_by true own parts n rest more body following low e =
    let count = length-append rest more in
    let test : nat_le n (length (rest ++ more)) ≡ true = grind (arith, nat_tests) in
    let short : n ≤ length rest = grind (arith, nat_tests) in
    let is : parts ≡ own = cc in
    let front : body ≡ take n rest = cc in
    let back : following ≡ drop n rest = cc in
    rw test (ap (λ p. whole p body (following ++ more)) is
    ∙ ap (λ b. whole own b (following ++ more)) (front ∙ sym (take-append-le n rest more short))
    ∙ ap (λ l. whole own (take n (rest ++ more)) l) (ap (λ l. l ++ more) back ∙ sym (drop-append-le n rest more short)))
body_by false own parts n rest more body following low e = absurd (cc)

pub body_test : (t : Bool) (own : Parts) (n : ℕ) (rest : List ℕ) → nat_le n (length rest) ≡ t
    → with_body own n rest ≡ (if t then whole own (take n rest) (drop n rest) else end_inside)
body_test t own n rest e = rw e refl

decided_later : (decision : Decision) (parts : Parts) (rest more body following : List ℕ) → whole parts body following ≡ after_head rest decision
    → whole parts body (following ++ more) ≡ after_head (rest ++ more) decision
decided_later (Err refusal) parts rest more body following e = absurd (cc)
decided_later (Ok ready) parts rest more body following e =
    body_by (nat_le ready.1 (length rest)) ready.0 parts ready.1 rest more body following refl
    (e ∙ body_test (nat_le ready.1 (length rest)) ready.0 ready.1 rest refl)

stays_by : (front : Front) (parts : Parts) (bytes more body following : List ℕ) → front_of head_limit bytes ≡ front → IsNextBy front bytes (whole parts body following)
    → IsNext (bytes ++ more) (whole parts body (following ++ more))
stays_by (Head n) parts bytes more body following e is =
    let low = head_within head_limit n bytes e in
    subst (λ front. IsNextBy front (bytes ++ more) (whole parts body (following ++ more))) (sym (head_stays head_limit n bytes more e)) (
      is.0,
      subst (λ head. IsDecided head is.0) (sym (take-append-le n bytes more low)) is.1,
      decided_later is.0 parts (drop n bytes) more body following is.2
          ∙ ap (λ rest. after_head rest is.0) (sym (drop-append-le n bytes more low)),
    )
stays_by CleanEnd parts bytes more body following e is = absurd (cc)
stays_by EndInside parts bytes more body following e is = absurd (cc)
stays_by TooLarge parts bytes more body following e is = absurd (cc)

pub whole_stays : (bytes more : List ℕ) (parts : Parts) (body following : List ℕ) → IsNext bytes (whole parts body following)
    → IsNext (bytes ++ more) (whole parts body (following ++ more))
whole_stays bytes more parts body following is = stays_by (front_of head_limit bytes) parts bytes more body following refl is
