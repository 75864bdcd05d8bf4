-- Ids are ordered as the numbers that their bytes spell.
use Rattle.std.proofs.Common.{◌≡◌, ℕ, zero, suc, ◌+◌, ◌-◌, ◌*◌, ◌<◌, true, List, [], ◌∷◌, ◌++◌, length, replicate, refl, sym, ◌∙◌, ap, subst, arith}
use Rattle.std.specs.List.{list_all, AllByRecursion}
use Rattle.std.specs.declared.cmp.Ordering.{Ordering}
use Rattle.std.specs.declared.cmp.Ordering.TheVariants.{Less, Equal, Greater}
use Rattle.std.specs.Ordering.{nat_cmp, ordering_then, MatchOrdering}
use Rattle.std.specs.Cmp.{nat_cmp_is, ranks}
use Rattle.std.specs.Cmp.Lexicographic.{slice_cmp}
use Rattle.std.proofs.lemmas.Bool.{and_parts}
use Rattle.mcs_reader.specs.Id.{is_id_byte, is_id_text, number, padded, text_of, IsId}
use Rattle.mcs_reader.proofs.IdFacts.{id_bytes, id_byte_below, id_len}

then_again : (a b c : Ordering) → ordering_then (ordering_then a b) c ≡ ordering_then a (ordering_then b c)
then_again Less b c = refl
then_again Equal b c = refl
then_again Greater b c = refl

then_equal : (o : Ordering) → ordering_then o Equal ≡ o
then_equal Less = refl
then_equal Equal = refl
then_equal Greater = refl

-- one more digit after x and y
more_digits : (x y a b : ℕ) → a < 256 → b < 256 → ordering_then (nat_cmp x y) (nat_cmp a b) ≡ nat_cmp (x * 256 + a) (y * 256 + b)
more_digits x y a b p q = nat_cmp_is (x * 256 + a) (y * 256 + b) _ (by (nat_cmp x y) (nat_cmp a b) (ranks x y) (ranks a b))
  where
    by : (o r : Ordering) → MatchOrdering o (x < y) (x ≡ y) (y < x) → MatchOrdering r (a < b) (a ≡ b) (b < a)
        → MatchOrdering (ordering_then o r) (x * 256 + a < y * 256 + b) (x * 256 + a ≡ y * 256 + b) (y * 256 + b < x * 256 + a)
    by Less r h k = let e : x < y = h in omega arith
    by Greater r h k = let e : y < x = h in omega arith
    by Equal Less h k = let e : x ≡ y = h in let f : a < b = k in omega arith
    by Equal Equal h k = let e : x ≡ y = h in let f : a ≡ b = k in omega arith
    by Equal Greater h k = let e : x ≡ y = h in let f : b < a = k in omega arith

-- texts of one length are ordered as their numbers
numbers_order : (m n : ℕ) (xs ys : List ℕ) → length xs ≡ length ys → AllByRecursion (λ b. b < 256) xs → AllByRecursion (λ b. b < 256) ys
    → nat_cmp (number m xs) (number n ys) ≡ ordering_then (nat_cmp m n) (slice_cmp nat_cmp xs ys)
numbers_order m n [] [] e p q = sym (then_equal (nat_cmp m n))
numbers_order m n [] (y ∷ ys) e p q = absurd (omega arith)
numbers_order m n (x ∷ xs) [] e p q = absurd (omega arith)
numbers_order m n (x ∷ xs) (y ∷ ys) e p q =
    numbers_order (m * 256 + x) (n * 256 + y) xs ys (omega arith) p.1 q.1
    ∙ ap (λ o. ordering_then o (slice_cmp nat_cmp xs ys)) (sym (more_digits m n x y p.0 q.0))
    ∙ then_again (nat_cmp m n) (nat_cmp x y) (slice_cmp nat_cmp xs ys)

below : (bs : List ℕ) → list_all is_id_byte bs ≡ true → AllByRecursion (λ b. b < 256) bs
below [] h = tt
below (b ∷ bs) h = let parts = and_parts (is_id_byte b) (list_all is_id_byte bs) h in (id_byte_below b parts.0, below bs parts.1)

blanks_below : (n : ℕ) → AllByRecursion (λ b. b < 256) (replicate n 32)
blanks_below zero = tt
blanks_below (suc n) = (omega arith, blanks_below n)

both_below : (xs ys : List ℕ) → AllByRecursion (λ b. b < 256) xs → AllByRecursion (λ b. b < 256) ys → AllByRecursion (λ b. b < 256) (xs ++ ys)
both_below [] ys p q = q
both_below (x ∷ xs) ys p q = (p.0, both_below xs ys p.1 q)

padded_below : (t : List ℕ) → is_id_text t ≡ true → AllByRecursion (λ b. b < 256) (padded t)
padded_below t h = both_below t (replicate (7 - length t) 32) (below t (id_bytes t h)) (blanks_below (7 - length t))

pub as_numbers : (xs ys : List ℕ) → IsId xs → IsId ys → nat_cmp (number 0 xs) (number 0 ys) ≡ slice_cmp nat_cmp xs ys
as_numbers xs ys p q =
    numbers_order 0 0 xs ys (id_len xs p ∙ sym (id_len ys q))
    (subst (AllByRecursion (λ b. b < 256)) (sym p.1) (padded_below (text_of xs) p.0))
    (subst (AllByRecursion (λ b. b < 256)) (sym q.1) (padded_below (text_of ys) q.0))
