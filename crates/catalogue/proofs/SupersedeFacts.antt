-- The superseders of an id are the catalogued ids whose SUP names it.
use Rattle.std.proofs.Common.{◌≡◌, ℕ, Bool, true, false, ◌||◌, cond, List, [], ◌∷◌, refl, sym, ◌∙◌, ap}
use Rattle.std.specs.Prelude.{filter, Contains, IsSomeAnd, Option, Some, None, ◌↔◌}
use Rattle.std.specs.Cmp.Lexicographic.{nat_list_eq_equiv}
use Rattle.std.specs.List.{list_any, AllByRecursion}
use Rattle.std.specs.List.Sorted.{IsStrictlySortedBy}
use Rattle.std.specs.declared.cmp.Ordering.TheVariants.{Less}
use Rattle.std.proofs.lemmas.Map.Views.{Contains-from_any, list_any-from_Contains}
use Rattle.catalogue.specs.declared.sysmod.Sysmod.{Sysmod}
use Rattle.catalogue.specs.Content.{Content, IsCatalogued, IsInOrder, Supersedes, ids_in, ids_of, superseders, sup_names}
use Rattle.catalogue.specs.Ids.{id_cmp, same_id, Ascend}
use Rattle.catalogue.proofs.IdFacts.{one_id, same_back, apart}
use Rattle.catalogue.proofs.RecordFacts.{found}

has : (ids : List (List ℕ)) (id : List ℕ) → list_any (same_id id) ids ≡ true → Contains ids id
has ids id h = Contains-from_any {eq = same_id} one_id id ids h

any_has : (ids : List (List ℕ)) (id : List ℕ) → Contains ids id → list_any (same_id id) ids ≡ true
any_has ids id h = list_any-from_Contains {eq = same_id} nat_list_eq_equiv id ids h

-- whether there is a record, and it passes
unfoldable pub passes : (Sysmod → Bool) → Option Sysmod → Bool
passes test None = false
passes test (Some x) = test x

none_named : (test : Sysmod → Bool) (id : List ℕ) (xs : List Sysmod) → AllByRecursion (λ y. id_cmp id y ≡ Less) (ids_in xs) → list_any (same_id id) (ids_in (filter test xs)) ≡ false
none_named test id [] h = refl
none_named test id (x ∷ xs) h = by (none_named test id xs h.1) (test x)
  where
    by : list_any (same_id id) (ids_in (filter test xs)) ≡ false → (b : Bool) → list_any (same_id id) (ids_in (cond b (x ∷ filter test xs) (filter test xs))) ≡ false
    by rest true = ap (λ b. b || list_any (same_id id) (ids_in (filter test xs))) (apart id x.id h.0) ∙ rest
    by rest false = rest

-- an id is among the records that pass just if its record passes
pub any_passes : (test : Sysmod → Bool) (id : List ℕ) (xs : List Sysmod) → Ascend (ids_in xs) → list_any (same_id id) (ids_in (filter test xs)) ≡ passes test (found xs id)
unfolding passes IsStrictlySortedBy
any_passes test id [] h = refl
any_passes test id (x ∷ xs) h = by (any_passes test id xs h.1) (test x) refl (same_id x.id id) refl
  where
    by : list_any (same_id id) (ids_in (filter test xs)) ≡ passes test (found xs id) → (t : Bool) → test x ≡ t → (b : Bool) → same_id x.id id ≡ b
        → list_any (same_id id) (ids_in (cond t (x ∷ filter test xs) (filter test xs))) ≡ passes test (cond b (Some x) (found xs id))
    by rest true is true at = ap (λ b. b || list_any (same_id id) (ids_in (filter test xs))) (same_back id x.id ∙ at) ∙ sym is
    by rest false is true at =
        ap (λ i. list_any (same_id i) (ids_in (filter test xs))) (sym (one_id x.id id at)) ∙ none_named test x.id xs h.0 ∙ sym is
    by rest true is false at = ap (λ b. b || list_any (same_id id) (ids_in (filter test xs))) (same_back id x.id ∙ at) ∙ rest
    by rest false is false at = rest

-- a record that passes is there, and its SUP names the id
sup_from : (id : List ℕ) (o : Option Sysmod) → passes (sup_names id) o ≡ true → IsSomeAnd o (λ sysmod. Contains sysmod.sup id)
unfolding passes
sup_from id None h = let f : false ≡ true = h in cc
sup_from id (Some x) h = has x.sup id h

sup_passes : (id : List ℕ) (o : Option Sysmod) → IsSomeAnd o (λ sysmod. Contains sysmod.sup id) → passes (sup_names id) o ≡ true
unfolding passes
sup_passes id None h = absurd h
sup_passes id (Some x) h = any_has x.sup id h

-- the superseders of an id are those that supersede it
pub superseder_is : (content : Content) (id superseder : List ℕ) → IsInOrder content → Contains (superseders content id) superseder ↔ Supersedes content superseder id
superseder_is content id superseder ordered =
    let passing = any_passes (sup_names id) superseder content.sysmods ordered.sysmods in (
      λ h. sup_from id (found content.sysmods superseder) (sym passing ∙ any_has (superseders content id) superseder h),
      λ h. has (superseders content id) superseder (passing ∙ sup_passes id (found content.sysmods superseder) h),
    )

named_among : (test : Sysmod → Bool) (id : List ℕ) (xs : List Sysmod) → list_any (same_id id) (ids_in (filter test xs)) ≡ true → list_any (same_id id) (ids_in xs) ≡ true
named_among test id [] h = h
named_among test id (x ∷ xs) h = by (named_among test id xs) (test x) (same_id id x.id) refl h
  where
    by : (list_any (same_id id) (ids_in (filter test xs)) ≡ true → list_any (same_id id) (ids_in xs) ≡ true) → (t b : Bool) → same_id id x.id ≡ b
        → list_any (same_id id) (ids_in (cond t (x ∷ filter test xs) (filter test xs))) ≡ true → (b || list_any (same_id id) (ids_in xs)) ≡ true
    by rest t true is h = refl
    by rest true false is h = rest (ap (λ b. b || list_any (same_id id) (ids_in (filter test xs))) (sym is) ∙ h)
    by rest false false is h = rest h

-- a superseder is catalogued
pub superseder_catalogued : (content : Content) (id superseder : List ℕ) → Contains (superseders content id) superseder → IsCatalogued content superseder
superseder_catalogued content id superseder h =
    has (ids_of content) superseder (named_among (sup_names id) superseder content.sysmods (any_has (superseders content id) superseder h))
