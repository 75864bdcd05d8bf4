-- Bytes that were looked through for a request, and those that come after them.
use Rattle.std.proofs.Common.{◌≡◌, inl, inr, ℕ, zero, suc, ◌+◌, ◌<◌, ◌≤◌, false, List, [], ◌∷◌, ◌++◌, length, take, drop, refl, sym, ap, ◌∙◌, subst, arith, append-nil, length-append, Ok, Err}
use Rattle.std.proofs.lemmas.List.{take-append-le, take-take}
use Rattle.requests.specs.HeadEnd.{front_of, head_limit}
use Rattle.requests.specs.NextRequest.{IsNext, IsNextBy, IsUnfinished, Next, clean_end, end_inside, refused, whole, with_body}
use Rattle.requests.specs.Order.{IsDecided}
use Rattle.requests.specs.Progress.{AsksFor, HasSeen, IsRefused, Sees}
use Rattle.requests.specs.Request.{Parts}
use Rattle.requests.specs.Search.{search}
use Rattle.requests.specs.declared.front.Front.TheVariants.{Head}
use Rattle.requests.specs.declared.head_end.Ending.{Ending}
use Rattle.requests.specs.declared.head_end.Ending.TheVariants.{EmptyLines}
use Rattle.requests.specs.declared.progress.Progress.{Progress}
use Rattle.requests.specs.declared.refusal.Refusal.TheVariants.{HeadTooLarge}
use Rattle.requests.proofs.FrontFacts.{found, found_so_far, limit_is, no_end, not_at_hand, too_large_so_far}
use Rattle.requests.proofs.NextRequestFacts.{missing_body, unfinished_by, whole_body}
use Rattle.requests.proofs.ReadingFacts.{one_next}
use Rattle.requests.proofs.SearchFacts.{search_nil}

-- ---- what is unfinished

-- where something else stands next, it is not unfinished
not_next : (bytes : List ℕ) (next : Next) → IsNext bytes next → (next ≡ clean_end → ⊥) → (next ≡ end_inside → ⊥) → IsUnfinished bytes → ⊥
not_next bytes next is clean inside (inl end) = clean (one_next bytes next clean_end is end)
not_next bytes next is clean inside (inr end) = inside (one_next bytes next end_inside is end)

-- ---- a head of n bytes, which asks for a body of k

module _ (bytes : List ℕ) (n k : ℕ) (parts : Parts) (front : Head n ≡ front_of head_limit bytes) (low : n ≤ length bytes)
    (decided : IsDecided (take n bytes) (Ok (parts, k))) where
  by_head : (next : Next) → next ≡ with_body parts k (drop n bytes) → IsNext bytes next
  by_head next is = subst (λ f. IsNextBy f bytes next) front (Ok (parts, k), decided, is)

  fewer_than : length bytes < n + k → IsUnfinished bytes
  fewer_than short = inr (by_head end_inside (missing_body parts n k bytes low short))

  enough_of : n + k ≤ length bytes → IsUnfinished bytes → ⊥
  enough_of enough =
      let rest = drop (n + k) bytes ++ [] in
      let stands : whole parts (take k (drop n bytes)) rest ≡ with_body parts k (drop n bytes) =
      whole_body parts n k bytes [] enough ∙ ap (λ l. with_body parts k (drop n l)) (append-nil bytes) in
      not_next bytes (whole parts (take k (drop n bytes)) rest) (by_head (whole parts (take k (drop n bytes)) rest) stands) (λ e. absurd (cc)) (λ e. absurd (cc))

-- ---- what is known of bytes as they are

seen_now : (bytes : List ℕ) (progress : Progress) → Sees bytes progress → HasSeen bytes progress
seen_now bytes progress sees = subst (λ l. HasSeen l progress) (append-nil bytes) (sees [])

pub none_seen : (bytes : List ℕ) → Sees bytes (record { seen = 0; ending = EmptyLines; wanted = 0 })
none_seen bytes more = record {
  within = omega arith;
  short = omega arith;
  none = search_nil EmptyLines;
  fewer = λ some less. absurd (omega arith);
  enough = λ some less unfinished. omega arith;
}

-- once the head has come
pub fewer_now : (bytes : List ℕ) (progress : Progress) → Sees bytes progress → 0 < progress.wanted → length bytes < progress.wanted → IsUnfinished bytes
fewer_now bytes progress sees = (seen_now bytes progress sees).fewer

pub enough_now : (bytes : List ℕ) (progress : Progress) → Sees bytes progress → 0 < progress.wanted → progress.wanted ≤ length bytes → IsUnfinished bytes → ⊥
enough_now bytes progress sees = (seen_now bytes progress sees).enough

-- ---- a look at those that came since

take_short : (n : ℕ) (xs : List ℕ) → take (length (take n xs)) xs ≡ take n xs
take_short zero xs = refl
take_short (suc n) [] = refl
take_short (suc n) (x ∷ xs) = ap (λ l. x ∷ l) (take_short n xs)

-- the first bytes of a list are its first bytes
front_twice : (n : ℕ) (xs shown : List ℕ) → shown ≡ take n xs → take (length shown) xs ≡ shown
front_twice n xs shown is = ap (λ l. take (length l) xs) is ∙ take_short n xs ∙ sym is

module _ (bytes shown : List ℕ) (progress : Progress) (sees : Sees bytes progress) (is : shown ≡ take head_limit bytes) where
  pub shown_within : ((n : ℕ) → n ≤ length bytes → n ≤ 16384 → n ≤ length shown) → progress.seen ≤ length shown
  shown_within most = let now = seen_now bytes progress sees in most progress.seen now.within now.short

  pub shown_seen : search EmptyLines (take progress.seen shown) ≡ Err progress.ending
  shown_seen =
      let now = seen_now bytes progress sees in
      let low : progress.seen ≤ head_limit = subst (λ m. progress.seen ≤ m) limit_is now.short in
      ap (λ l. search EmptyLines (take progress.seen l)) is ∙ ap (search EmptyLines) (take-take progress.seen head_limit bytes low) ∙ now.none

  found_here : (n : ℕ) (more : List ℕ) → search EmptyLines shown ≡ Ok n → Head n ≡ front_of head_limit (bytes ++ more)
  found_here n more e = found head_limit n bytes more (ap (search EmptyLines) (sym is) ∙ e)

  -- the head of a request that has so many bytes
  pub sees_head : (n len : ℕ) → search EmptyLines shown ≡ Ok n → n ≤ length bytes → AsksFor bytes n len
      → Sees bytes (record { seen = progress.seen; ending = progress.ending; wanted = len })
  sees_head n len e low asks more =
      let before = sees more in
      let count = length-append bytes more in
      let long : n ≤ length (bytes ++ more) = omega arith in
      let decided : IsDecided (take n (bytes ++ more)) (Ok (asks.0, asks.1)) = subst (λ l. IsDecided l (Ok (asks.0, asks.1))) (sym (take-append-le n bytes more low)) asks.2 in
      record {
        within = before.within;
        short = before.short;
        none = before.none;
        fewer = λ some less. fewer_than (bytes ++ more) n asks.1 asks.0 (found_here n more e) long decided (subst (λ m. length (bytes ++ more) < m) asks.3 less);
        enough = λ some less. enough_of (bytes ++ more) n asks.1 asks.0 (found_here n more e) long decided (subst (λ m. m ≤ length (bytes ++ more)) asks.3 less);
      }

  pub fewer_head : (n len : ℕ) → search EmptyLines shown ≡ Ok n → n ≤ length bytes → AsksFor bytes n len → length bytes < len → IsUnfinished bytes
  fewer_head n len e low asks less =
      fewer_than bytes n asks.1 asks.0 (found_so_far head_limit n bytes (ap (search EmptyLines) (sym is) ∙ e)) low asks.2 (subst (λ m. length bytes < m) asks.3 less)

  pub enough_head : (n len : ℕ) → search EmptyLines shown ≡ Ok n → n ≤ length bytes → AsksFor bytes n len → len ≤ length bytes → IsUnfinished bytes → ⊥
  enough_head n len e low asks less =
      enough_of bytes n asks.1 asks.0 (found_so_far head_limit n bytes (ap (search EmptyLines) (sym is) ∙ e)) low asks.2 (subst (λ m. m ≤ length bytes) asks.3 less)

  -- a head that is refused
  pub refused_head : (n : ℕ) → search EmptyLines shown ≡ Ok n → IsRefused bytes n → IsUnfinished bytes → ⊥
  refused_head n e refusal =
      let next = refused refusal.0.0 refusal.0.1 in
      not_next bytes next
      (subst (λ f. IsNextBy f bytes next) (found_so_far head_limit n bytes (ap (search EmptyLines) (sym is) ∙ e)) (Err refusal.0, refusal.1, refl))
      (λ e. absurd (cc)) (λ e. absurd (cc))

  -- no head's end
  pub sees_on : (ending : Ending) → search EmptyLines shown ≡ Err ending → length shown ≤ 16384 → length shown ≤ length bytes
      → progress.wanted ≡ 0 → Sees bytes (record { seen = length shown; ending = ending; wanted = progress.wanted })
  sees_on ending e short low none more =
      let count = length-append bytes more in
      let within : length shown ≤ length (bytes ++ more) = omega arith in
      let same : take (length shown) (bytes ++ more) ≡ shown =
      take-append-le (length shown) bytes more low ∙ front_twice head_limit bytes shown is in
      record {
        within = within;
        short = short;
        none = ap (search EmptyLines) same ∙ e;
        fewer = λ some less. absurd (omega arith);
        enough = λ some less unfinished. omega arith;
      }

  pub fewer_without : (ending : Ending) → search EmptyLines shown ≡ Err ending → (length shown < 16384 → shown ≡ bytes) → length shown < 16384 → IsUnfinished bytes
  fewer_without ending e all less =
      let held = no_end shown bytes bytes ending all refl less e in
      unfinished_by (front_of head_limit bytes) bytes (not_at_hand head_limit bytes bytes ending held.none held.short refl)

  pub full_without : (ending : Ending) → search EmptyLines shown ≡ Err ending → 16384 ≤ length bytes → IsUnfinished bytes → ⊥
  full_without ending e full =
      let next = refused HeadTooLarge false in
      not_next bytes next
      (subst (λ f. IsNextBy f bytes next) (too_large_so_far head_limit bytes ending (ap (search EmptyLines) (sym is) ∙ e) (subst (λ m. m ≤ length bytes) limit_is full)) refl)
      (λ e. absurd (cc)) (λ e. absurd (cc))
