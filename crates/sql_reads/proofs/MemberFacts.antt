-- Members of lists that are filtered, read and joined.
use Rattle.std.proofs.Common.{◌≡◌, ◌≢◌, ◌⊎◌, ◌||◌, ℕ, Bool, true, false, cond, List, [], ◌∷◌, refl, sym, ◌∙◌, ap, subst, inl, inr, Some, None}
use Rattle.std.specs.Prelude.{filter, flat_map, map, take, Option}
use Rattle.std.specs.List.{AllByRecursion, Contains, cons_option, filter_map, list_any}
use Rattle.std.proofs.lemmas.List.Elements.{Contains-append_cases}
use Rattle.sqlite_value.specs.Order.{Row}
use Rattle.lemmas.proofs.ListFacts.{first_inside, inside_cases, none_inside, rest_inside}
use Rattle.sql_tables.specs.Whole.{HaveOwnKeys}

module _ {A : Type 0} (test : A → Bool) where
  pub filtered : (xs : List A) (x : A) → Contains (filter test xs) x → Contains xs x × (test x ≡ true)
  filtered [] x inside = absurd (none_inside x inside)
  filtered (y ∷ ys) x inside = by (test y) refl inside (filtered ys x)
    where
      by : (b : Bool) → test y ≡ b → Contains (cond b (y ∷ filter test ys) (filter test ys)) x → (Contains (filter test ys) x → Contains ys x × (test x ≡ true)) → Contains (y ∷ ys) x × (test x ≡ true)
      by true at here rest = elim (inside_cases y x (filter test ys) here) [
        | inl same ↦ (subst (Contains (y ∷ ys)) same (first_inside y ys), ap test (sym same) ∙ at)
        | inr later ↦ (let it = rest later in (rest_inside y x ys it.0, it.1))
      ]
      by false at here rest = (let it = rest here in (rest_inside y x ys it.0, it.1))

module _ {A B : Type 0} (f : A → Option B) where
  pub read_from : (xs : List A) (b : B) → Contains (filter_map f xs) b → (x : A) × Contains xs x × (f x ≡ Some b)
  read_from [] b inside = absurd (none_inside b inside)
  read_from (y ∷ ys) b inside = by (f y) refl inside (read_from ys b)
    where
      by : (o : Option B) → f y ≡ o → Contains (cons_option o (filter_map f ys)) b → (Contains (filter_map f ys) b → (x : A) × Contains ys x × (f x ≡ Some b)) → (x : A) × Contains (y ∷ ys) x × (f x ≡ Some b)
      by None at here rest = (let it = rest here in (it.0, rest_inside y it.0 ys it.1, it.2))
      by (Some c) at here rest = elim (inside_cases c b (filter_map f ys) here) [
        | inl same ↦ (y, first_inside y ys, at ∙ ap Some same)
        | inr later ↦ (let it = rest later in (it.0, rest_inside y it.0 ys it.1, it.2))
      ]

module _ {A B : Type 0} (f : A → B) where
  pub made_from : (xs : List A) (b : B) → Contains (map f xs) b → (x : A) × Contains xs x × (f x ≡ b)
  made_from [] b inside = absurd (none_inside b inside)
  made_from (y ∷ ys) b inside = elim (inside_cases (f y) b (map f ys) inside) [
    | inl same ↦ (y, first_inside y ys, same)
    | inr later ↦ (let it = made_from ys b later in (it.0, rest_inside y it.0 ys it.1, it.2))
  ]

module _ {A B : Type 0} (f : A → List B) where
  pub joined_from : (xs : List A) (b : B) → Contains (flat_map f xs) b → (x : A) × Contains xs x × Contains (f x) b
  joined_from [] b inside = absurd (none_inside b inside)
  joined_from (y ∷ ys) b inside = elim (Contains-append_cases (f y) (flat_map f ys) b inside) [
    | inl here ↦ (y, first_inside y ys, here)
    | inr later ↦ (let it = joined_from ys b later in (it.0, rest_inside y it.0 ys it.1, it.2))
  ]

module _ {A : Type 0} (test : A → Bool) where
  pub any_from : (xs : List A) → list_any test xs ≡ true → (x : A) × Contains xs x × (test x ≡ true)
  any_from [] h = cc
  any_from (y ∷ ys) h = by (test y) refl h (any_from ys)
    where
      by : (b : Bool) → test y ≡ b → (b || list_any test ys) ≡ true → (list_any test ys ≡ true → (x : A) × Contains ys x × (test x ≡ true)) → (x : A) × Contains (y ∷ ys) x × (test x ≡ true)
      by true at e rest = (y, first_inside y ys, at)
      by false at e rest = (let it = rest e in (it.0, rest_inside y it.0 ys it.1, it.2))

pub all_of : {A : Type 0} (P : A → Type 0) (xs : List A) (x : A) → AllByRecursion P xs → Contains xs x → P x
all_of P [] x all inside = absurd (none_inside x inside)
all_of P (y ∷ ys) x all inside = elim (inside_cases y x ys inside) [
  | inl same ↦ subst P same all.0
  | inr later ↦ all_of P ys x all.1 later
]

-- of rows with keys of their own, two with one key are one
pub one_key : (columns : ℕ) (rows : List Row) (a b : Row) → HaveOwnKeys columns rows → Contains rows a → Contains rows b → take columns a ≡ take columns b → a ≡ b
one_key columns [] a b own first second same = absurd (none_inside a first)
one_key columns (row ∷ rows) a b own first second same = by (inside_cases row a rows first) (inside_cases row b rows second) (one_key columns rows a b own.1)
  where
    by : (row ≡ a) ⊎ Contains rows a → (row ≡ b) ⊎ Contains rows b → (Contains rows a → Contains rows b → take columns a ≡ take columns b → a ≡ b) → a ≡ b
    by (inl x) (inl y) rest = sym x ∙ y
    by (inl x) (inr y) rest = absurd (all_of (λ other. take columns row ≢ take columns other) rows b own.0 y (ap (take columns) x ∙ same))
    by (inr x) (inl y) rest = absurd (all_of (λ other. take columns row ≢ take columns other) rows a own.0 x (ap (take columns) y ∙ sym same))
    by (inr x) (inr y) rest = rest x y same
