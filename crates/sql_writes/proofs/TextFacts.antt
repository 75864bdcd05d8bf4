-- The texts that insert one row, two, and so on up to eight.
use Rattle.std.proofs.Common.{◌≡◌, ◌≤◌, ◌<◌, ◌+◌, ◌-◌, ◌*◌, ℕ, zero, suc, List, [], ◌∷◌, get_or, length, subst, arith}
use Rattle.std.specs.Borrow.{Bor}
use Rattle.sql_texts.specs.Schema.{bureau}
use Rattle.sql_writes.specs.Many.{MeansBy, insert_alike, parameters_to}

module _ (table shared own : ℕ) where
  -- the text inserts so many rows into the table at this index
  abbrev pub Inserts : ℕ → List ℕ → Type 0
  Inserts count text = MeansBy bureau text (insert_alike table shared own count) (parameters_to (shared + own * count))

  -- the first text inserts so many, and each one more than the text before it
  abbrev pub InsertEach : ℕ → List (Bor (List ℕ)) → Type 0
  InsertEach count [] = Unit {0}
  InsertEach count (text ∷ texts) = Inserts count text.now × InsertEach (suc count) texts

  at_place : (first : ℕ) (texts : List (Bor (List ℕ))) → InsertEach first texts → (none : Bor (List ℕ)) (i : ℕ) → i < length texts → Inserts (first + i) (get_or texts i none).now
  at_place first [] each none i low = absurd (omega (arith, low))
  at_place first (text ∷ texts) each none zero low = let same : first ≡ first + 0 = omega arith in subst (λ n. Inserts n text.now) same each.0
  at_place first (text ∷ texts) each none (suc i) low =
      let same : suc first + i ≡ first + suc i = omega arith in
      subst (λ n. Inserts n (get_or texts i none).now) same (at_place (suc first) texts each.1 none i (omega (arith, low)))

  nth : (texts : List (Bor (List ℕ))) → InsertEach 1 texts → (none : Bor (List ℕ)) (count : ℕ) → 0 < count → count ≤ length texts → Inserts count (get_or texts (count - 1) none).now
  nth texts each none count some few =
      let same : 1 + (count - 1) ≡ count = omega (arith, some) in
      subst (λ n. Inserts n (get_or texts (count - 1) none).now) same (at_place 1 texts each none (count - 1) (omega (arith, some, few)))

  -- the text for so many, among those for one, two and so on up to eight
  pub one_of_eight : (a b c d e f g h none : Bor (List ℕ)) (count : ℕ) → 0 < count → count ≤ 8 → Inserts 1 a.now → Inserts 2 b.now → Inserts 3 c.now → Inserts 4 d.now
      → Inserts 5 e.now → Inserts 6 f.now → Inserts 7 g.now → Inserts 8 h.now → Inserts count (get_or (a ∷ b ∷ c ∷ d ∷ e ∷ f ∷ g ∷ h ∷ []) (count - 1) none).now
  one_of_eight a b c d e f g h none count some few one two three four five six seven eight =
      nth (a ∷ b ∷ c ∷ d ∷ e ∷ f ∷ g ∷ h ∷ []) (one, (two, (three, (four, (five, (six, (seven, (eight, tt)))))))) none count some few
