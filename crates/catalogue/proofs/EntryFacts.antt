-- The entries of the catalogue's map, each under the id of its record, and changes one at a time.
use Rattle.std.proofs.Common.{◌≡◌, ℕ, ◌+◌, ◌<◌, cond, List, [], ◌∷◌, ◌++◌, length, take, get_or, refl, sym, ◌∙◌, ap, subst}
use Rattle.std.specs.Prelude.{Some, if◌then◌else◌}
use Rattle.std.specs.BTreeMap.{BTreeMap, get, insert_entry, is_at, values}
use Rattle.std.specs.List.Sorted.{IsStrictlySortedBy}
use Rattle.std.specs.Map.{keys_of, lookup, values_of}
use Rattle.std.specs.Ordering.{match_ordering}
use Rattle.std.specs.declared.cmp.Ordering.{Ordering}
use Rattle.std.specs.declared.cmp.Ordering.TheVariants.{Less, Equal, Greater}
use Rattle.std.proofs.lemmas.List.{take_more}
use Rattle.catalogue.specs.declared.sysmod.Sysmod.{Sysmod}
use Rattle.catalogue.specs.declared.change.Change.{Change}
use Rattle.catalogue.specs.Changes.{records_in, hold_changes_in}
use Rattle.catalogue.specs.Content.{ids_in}
use Rattle.catalogue.specs.Ids.{id_cmp, same_id, Ascend}
use Rattle.catalogue.specs.ListPublished.{IsKeyed}
use Rattle.catalogue.proofs.IdFacts.{exact_ids, same_is, same_back}
use Rattle.catalogue.proofs.PublicationFacts.{records_append, hold_changes_append}
use Rattle.catalogue.proofs.RecordFacts.{found}

abbrev pub Records : Type 0
Records = BTreeMap (List ℕ) Sysmod

keyed_tail : (e : List ℕ × Sysmod) (es : List (List ℕ × Sysmod)) → IsKeyed (e ∷ es) → IsKeyed es
keyed_tail e es h = cc

keyed_head : (e : List ℕ × Sysmod) (es : List (List ℕ × Sysmod)) → IsKeyed (e ∷ es) → e.1.id ≡ e.0
keyed_head e es h = cc

keyed_cons : (e : List ℕ × Sysmod) (es : List (List ℕ × Sysmod)) → e.1.id ≡ e.0 → IsKeyed es → IsKeyed (e ∷ es)
keyed_cons e es h g = cc

-- what the map has under an id is the record that is found
pub found_is : (es : List (List ℕ × Sysmod)) (id : List ℕ) → IsKeyed es → found (values_of es) id ≡ lookup (is_at (id_cmp id)) es
found_is [] id h = refl
found_is (e ∷ es) id h =
    ap (λ b. cond b (Some e.1) (found (values_of es) id)) (ap (λ i. same_id i id) (keyed_head e es h) ∙ same_back e.0 id ∙ same_is id e.0)
    ∙ ap (cond (is_at (id_cmp id) e.0) (Some e.1)) (found_is es id (keyed_tail e es h))

-- a record that is put stands under its id
pub keyed_insert : (es : List (List ℕ × Sysmod)) (x : Sysmod) → IsKeyed es → IsKeyed (insert_entry id_cmp es x.id x)
keyed_insert [] x h = refl
keyed_insert (e ∷ es) x h = by (keyed_insert es x (keyed_tail e es h)) (id_cmp x.id e.0) refl
  where
    by : IsKeyed (insert_entry id_cmp es x.id x) → (o : Ordering) → id_cmp x.id e.0 ≡ o → IsKeyed (match_ordering o ((x.id, x) ∷ e ∷ es) ((e.0, x) ∷ es) (e ∷ insert_entry id_cmp es x.id x))
    by rest Less is = keyed_cons (x.id, x) (e ∷ es) refl h
    by rest Equal is = keyed_cons (e.0, x) es (exact_ids x.id e.0 is) (keyed_tail e es h)
    by rest Greater is = keyed_cons e (insert_entry id_cmp es x.id x) (keyed_head e es h) rest

-- the records of a map are in order
pub records_ascend : (es : List (List ℕ × Sysmod)) → IsKeyed es → IsStrictlySortedBy id_cmp (keys_of es) → Ascend (ids_in (values_of es))
records_ascend es keyed ordered = subst (IsStrictlySortedBy id_cmp) (sym keyed) ordered

-- from what the map has under an id to what is found
pub found_changed : (old new : Records) (x : Sysmod) → IsKeyed old.entries → IsKeyed new.entries
    → ((id : List ℕ) → get id_cmp new id ≡ cond (is_at (id_cmp x.id) id) (Some x) (get id_cmp old id))
    → (id : List ℕ) → found (values new) id ≡ (if same_id x.id id then Some x else found (values old) id)
found_changed old new x was is updates id =
    found_is new.entries id is
    ∙ updates id
    ∙ ap (λ b. cond b (Some x) (get id_cmp old id)) (sym (same_is x.id id))
    ∙ ap (cond (same_id x.id id) (Some x)) (sym (found_is old.entries id was))

-- ---- the changes up to an index

pub records_more : (changes : List Change) (i : ℕ) (change : Change) → i < length changes → change ≡ get_or changes i change
    → records_in (take (i + 1) changes) ≡ records_in (take i changes) ++ records_in (change ∷ [])
records_more changes i change below at =
    ap records_in (take_more changes i change below ∙ ap (λ c. take i changes ++ c ∷ []) (sym at))
    ∙ records_append (take i changes) (change ∷ [])

pub hold_changes_more : (changes : List Change) (i : ℕ) (change : Change) → i < length changes → change ≡ get_or changes i change
    → hold_changes_in (take (i + 1) changes) ≡ hold_changes_in (take i changes) ++ hold_changes_in (change ∷ [])
hold_changes_more changes i change below at =
    ap hold_changes_in (take_more changes i change below ∙ ap (λ c. take i changes ++ c ∷ []) (sym at))
    ∙ hold_changes_append (take i changes) (change ∷ [])
