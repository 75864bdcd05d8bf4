-- The catalogue that records leave is determined, and `catalogue_of` computes it.
use Rattle.std.proofs.Common.{◌≡◌, ℕ, Bool, true, false, ◌||◌, cond, List, [], ◌∷◌, ◌++◌, refl, sym, ◌∙◌, ap}
use Rattle.std.specs.Prelude.{filter, find, reverse, Option, Some, None}
use Rattle.std.specs.List.{list_any}
use Rattle.std.specs.List.Sorted.{IsStrictlySortedBy}
use Rattle.std.specs.Option.{option_or}
use Rattle.std.proofs.lemmas.List.{reverse-append}
use Rattle.std.proofs.lemmas.List.Folds.{find-append}
use Rattle.holddata.proofs.FoundFacts as keyed
use Rattle.catalogue.specs.declared.sysmod.Sysmod.{Sysmod}
use Rattle.catalogue.specs.Content.{ids_in, is_of}
use Rattle.catalogue.specs.Ids.{same_id, Ascend, in_order}
use Rattle.catalogue.specs.Publication.{last_of, catalogue_of}
use Rattle.catalogue.proofs.IdFacts.{id_order, one_id, in_order_ascends, in_order_any}

-- the record of an id among records
abbrev pub found : List Sysmod → List ℕ → Option Sysmod
found sysmods id = find (is_of id) sysmods

-- ---- records in order

abbrev by_id : Sysmod → List ℕ
by_id sysmod = sysmod.id

-- ---- the last record of an id

pub last_append : (xs ys : List Sysmod) (id : List ℕ) → last_of (xs ++ ys) id ≡ option_or (last_of ys id) (last_of xs id)
last_append xs ys id = ap (find (is_of id)) (reverse-append xs ys) ∙ find-append (is_of id) (reverse ys) (reverse xs)

-- among records in order the last record of an id is the one that is found
pub last_in_order : (xs : List Sysmod) (id : List ℕ) → Ascend (ids_in xs) → last_of xs id ≡ found xs id
unfolding IsStrictlySortedBy
last_in_order [] id h = refl
last_in_order (x ∷ xs) id h = last_append (x ∷ []) xs id ∙ ap (λ o. option_or o (last_of (x ∷ []) id)) (last_in_order xs id h.1) ∙ by (same_id x.id id) refl
  where
    none : (o : Option Sysmod) → option_or o None ≡ o
    none None = refl
    none (Some y) = refl

    by : (b : Bool) → same_id x.id id ≡ b → option_or (found xs id) (cond (same_id x.id id) (Some x) None) ≡ cond (same_id x.id id) (Some x) (found xs id)
    by true at =
        ap (λ b. option_or (found xs id) (cond b (Some x) None)) at
        ∙ ap (λ o. option_or o (Some x)) (ap (found xs) (sym (one_id x.id id at)) ∙ keyed.none_found by_id id_order x.id xs h.0)
        ∙ sym (ap (λ b. cond b (Some x) (found xs id)) at)
    by false at =
        ap (λ b. option_or (found xs id) (cond b (Some x) None)) at
        ∙ none (found xs id)
        ∙ sym (ap (λ b. cond b (Some x) (found xs id)) at)

-- ---- the catalogue that records leave

-- for each id the last record, in order
pub record IsCatalogue (xs ys : List Sysmod) : Type 0 where
  pub ascend : Ascend (ids_in ys)
  pub finds : (id : List ℕ) → found ys id ≡ last_of xs id

-- each record that f has stands under its id
abbrev IsOwn : (List ℕ → Option Sysmod) → Type 0
IsOwn f = (id : List ℕ) (x : Sysmod) → f id ≡ Some x → x.id ≡ id

last_own : (xs : List Sysmod) → IsOwn (last_of xs)
last_own xs id x h = keyed.found_own by_id id_order (reverse xs) id x h

any_named : (xs : List Sysmod) (id : List ℕ) → list_any (λ k. same_id k id) (ids_in xs) ≡ list_any (is_of id) xs
any_named [] id = refl
any_named (x ∷ xs) id = ap (λ b. same_id x.id id || b) (any_named xs id)

pub none_last : (xs : List Sysmod) (id : List ℕ) → list_any (is_of id) xs ≡ false → last_of xs id ≡ None
none_last xs id h = keyed.none_last (is_of id) xs h

pub catalogue_is : (xs : List Sysmod) → IsCatalogue xs (catalogue_of xs)
catalogue_is xs =
    record {
      ascend = keyed.kept_ascend by_id id_order (last_of xs) (last_own xs) (in_order (ids_in xs)) (in_order_ascends (ids_in xs));
      finds = λ id.
          keyed.kept_found by_id id_order (last_of xs) (last_own xs) (in_order (ids_in xs)) id
          ∙ ap (λ b. cond b (last_of xs id) None) (in_order_any (λ k. same_id k id) (ids_in xs) ∙ any_named xs id)
          ∙ by id (list_any (is_of id) xs) refl;
    }
  where
    by : (id : List ℕ) (b : Bool) → list_any (is_of id) xs ≡ b → cond b (last_of xs id) None ≡ last_of xs id
    by id true h = refl
    by id false h = sym (none_last xs id h)

pub catalogue_only : (xs ys : List Sysmod) → IsCatalogue xs ys → ys ≡ catalogue_of xs
catalogue_only xs ys is =
    let computed = catalogue_is xs in
    keyed.same_by_key by_id id_order ys (catalogue_of xs) is.ascend computed.ascend (λ id. is.finds id ∙ sym (computed.finds id))

-- records in order are their own catalogue
pub own_catalogue : (xs : List Sysmod) → Ascend (ids_in xs) → IsCatalogue xs xs
own_catalogue xs h = record { ascend = h; finds = λ id. sym (last_in_order xs id h) }

-- a catalogue says as much as the records that it was made of
pub catalogue_joined : (xs ys : List Sysmod) → catalogue_of (catalogue_of xs ++ ys) ≡ catalogue_of (xs ++ ys)
catalogue_joined xs ys =
    let first = catalogue_is xs in
    let both = catalogue_is (catalogue_of xs ++ ys) in
    catalogue_only (xs ++ ys) (catalogue_of (catalogue_of xs ++ ys)) (record {
      ascend = both.ascend;
      finds = λ id.
          both.finds id
          ∙ last_append (catalogue_of xs) ys id
          ∙ ap (option_or (last_of ys id)) (last_in_order (catalogue_of xs) id first.ascend ∙ first.finds id)
          ∙ sym (last_append xs ys id);
    })

-- one more record
pub catalogue_more : (xs old new : List Sysmod) (x : Sysmod) → IsCatalogue xs old → Ascend (ids_in new)
    → ((id : List ℕ) → found new id ≡ cond (same_id x.id id) (Some x) (found old id)) → IsCatalogue (xs ++ x ∷ []) new
catalogue_more xs old new x was ascend finds = record {
  ascend = ascend;
  finds = λ id.
      finds id
      ∙ ap (cond (same_id x.id id) (Some x)) (was.finds id)
      ∙ by id (same_id x.id id)
      ∙ sym (last_append xs (x ∷ []) id);
}
  where
    by : (id : List ℕ) (b : Bool) → cond b (Some x) (last_of xs id) ≡ option_or (cond b (Some x) None) (last_of xs id)
    by id true = refl
    by id false = refl

-- ---- some of the records

pub filtered_ascend : (test : Sysmod → Bool) (xs : List Sysmod) → Ascend (ids_in xs) → Ascend (ids_in (filter test xs))
filtered_ascend = keyed.filtered_ascend by_id id_order
