-- What a read of records, of ids or of what an id supersedes finds is what the tables say.
use Rattle.std.proofs.Common.{◌≡◌, ℕ, Bool, true, false, cond, ◌||◌, List, [], ◌∷◌, refl, sym, ◌∙◌, ap}
use Rattle.std.specs.Prelude.{filter, find, reverse, is_some, Some, None, option_map, unwrap_or}
use Rattle.std.specs.List.{Contains, cons_option, filter_map, list_any}
use Rattle.std.specs.List.Sorted.{IsPermutation}
use Rattle.std.proofs.lemmas.List.Sorted.{IsPermutation-reverse, list_any-IsPermutation}
use Rattle.catalogue.specs.Conditional.{CondsAscend}
use Rattle.catalogue.specs.Content as content
use Rattle.catalogue.specs.Content.{ids_of, record_of}
use Rattle.catalogue.specs.Ids.{Ascend, in_order, same_id}
use Rattle.catalogue.specs.Publication.{catalogue_of, last_of}
use Rattle.catalogue.specs.declared.conditional.CondNeed.{CondNeed}
use Rattle.catalogue.specs.declared.sysmod.Sysmod.{Sysmod}
use Rattle.catalogue.proofs.IdFacts.{conds_total, exact_ids, ids_total, in_order_any, in_order_ascends}
use Rattle.catalogue.proofs.RecordFacts.{catalogue_is}
use Rattle.sqlite_value.specs.Order.{Row, column}
use Rattle.sql_tables.specs.Rows.{cond_found, sysmod_found}
use Rattle.sql_tables.specs.Stored.{Stored, beside_of, conds_of, content_of, is_of, shown, sup_of, sysmods_of}
use Rattle.sql_tables.specs.Values.{id_in}
use Rattle.sql_tables.proofs.ContentFacts.{record_by, records_by}
use Rattle.sql_tables.proofs.RowFacts.{sysmod_own}
use Rattle.sql_tables.proofs.MemberFacts.{same_members}
use Rattle.sql_tables.proofs.OrderFacts.{ids_found, map_same, same_by_key}
use Rattle.sql_tables.proofs.SetFacts.{exact_conds, set_read}

-- ---- a record

-- no row of an id, no record
pub no_record : (stored : Stored) (id : List ℕ) → filter (is_of id) stored.sysmods ≡ [] → record_of (content_of stored) id ≡ None
no_record stored id none = record_by stored id ∙ ap (λ rows. last_of (records_by (beside_of stored) id rows) id) none

-- the one row of an id is its record
pub one_record : (stored : Stored) (id : List ℕ) (row : Row) (sysmod : Sysmod) → filter (is_of id) stored.sysmods ≡ row ∷ [] → is_of id row ≡ true
    → sysmod_found (beside_of stored id) row ≡ Some sysmod → record_of (content_of stored) id ≡ Some sysmod
one_record stored id row sysmod one is read =
    record_by stored id
    ∙ ap (λ rows. last_of (records_by (beside_of stored) id rows) id) one
    ∙ ap (λ o. last_of (cons_option o []) id) read
    ∙ ap (λ b. cond b (Some sysmod) None) (sym (ap (λ o. unwrap_or (option_map (λ found. same_id found id) o) false) (sysmod_own (beside_of stored id) row sysmod read)) ∙ is)

-- ---- lists of ids

-- ids that ascend and are just these are these in order
pub ids_read : (ids found : List (List ℕ)) → Ascend found → ((id : List ℕ) → Contains ids id → Contains found id) → ((id : List ℕ) → Contains found id → Contains ids id)
    → found ≡ in_order ids
ids_read ids found ascend there back =
    same_by_key (λ k. k) found (in_order ids) (rw (map_same found) ascend) (rw (map_same (in_order ids)) (in_order_ascends ids)) (λ id.
    sym (same_members (λ k. k) ids found (rw (map_same found) ascend) there back id)
    ∙ ids_found ids id ∙ ap (λ b. cond b (Some id) None) (sym (in_order_any (λ k. same_id k id) ids)) ∙ sym (ids_found (in_order ids) id))

-- what an id supersedes
pub superseded_read : (sups : List Row) (id : List ℕ) (found : List (List ℕ)) → Ascend found
    → IsPermutation (filter_map (λ row. id_in (column row 1)) (filter (is_of id) sups)) found → found ≡ sup_of sups id
superseded_read sups id found = set_read ids_total exact_ids (filter_map (λ row. id_in (column row 1)) (filter (is_of id) sups)) found

-- what an id requires under a condition
pub conditional_read : (conds : List Row) (id : List ℕ) (found : List CondNeed) → CondsAscend found
    → IsPermutation (filter_map (λ row. cond_found (shown (1 ∷ 2 ∷ []) row)) (filter (is_of id) conds)) found → found ≡ conds_of conds id
conditional_read conds id found = set_read conds_total exact_conds (filter_map (λ row. cond_found (shown (1 ∷ 2 ∷ []) row)) (filter (is_of id) conds)) found

any_named : (xs : List Sysmod) (id : List ℕ) → list_any (λ k. same_id k id) (content.ids_in xs) ≡ list_any (content.is_of id) xs
any_named [] id = refl
any_named (x ∷ xs) id = ap (λ b. same_id x.id id || b) (any_named xs id)

any_found : (test : Sysmod → Bool) (xs : List Sysmod) → list_any test xs ≡ is_some (find test xs)
any_found test [] = refl
any_found test (x ∷ xs) = by (test x) (any_found test xs)
  where
    by : (b : Bool) → list_any test xs ≡ is_some (find test xs) → (b || list_any test xs) ≡ is_some (cond b (Some x) (find test xs))
    by true rest = refl
    by false rest = rest

any_last : (test : Sysmod → Bool) (xs : List Sysmod) → list_any test xs ≡ is_some (find test (reverse xs))
any_last test xs = list_any-IsPermutation test xs (reverse xs) (IsPermutation-reverse xs) ∙ any_found test (reverse xs)

-- the ids of a catalogue are those of its records, in order
pub catalogue_ids : (xs : List Sysmod) → content.ids_in (catalogue_of xs) ≡ in_order (content.ids_in xs)
catalogue_ids xs =
    let ids = content.ids_in (catalogue_of xs) in
    same_by_key (λ k. k) ids (in_order (content.ids_in xs)) (rw (map_same ids) (catalogue_is xs).ascend)
    (rw (map_same (in_order (content.ids_in xs))) (in_order_ascends (content.ids_in xs))) (λ id.
    ids_found ids id
    ∙ ap (λ b. cond b (Some id) None) (
    any_named (catalogue_of xs) id ∙ any_found (content.is_of id) (catalogue_of xs) ∙ ap is_some ((catalogue_is xs).finds id)
    ∙ sym (any_last (content.is_of id) xs) ∙ sym (any_named xs id) ∙ sym (in_order_any (λ k. same_id k id) (content.ids_in xs))
    )
    ∙ sym (ids_found (in_order (content.ids_in xs)) id))

-- the ids that are catalogued
pub all_ids_read : (stored : Stored) (found : List (List ℕ)) → Ascend found
    → ((id : List ℕ) → Contains (content.ids_in (sysmods_of (beside_of stored) stored.sysmods)) id → Contains found id)
    → ((id : List ℕ) → Contains found id → Contains (content.ids_in (sysmods_of (beside_of stored) stored.sysmods)) id)
    → found ≡ ids_of (content_of stored)
all_ids_read stored found ascend there back =
    ids_read (content.ids_in (sysmods_of (beside_of stored) stored.sysmods)) found ascend there back ∙ sym (catalogue_ids (sysmods_of (beside_of stored) stored.sysmods))
