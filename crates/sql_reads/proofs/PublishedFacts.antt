-- What is found of records and holds.
use Rattle.std.proofs.Common.{◌≡◌, ℕ, true, false, List, [], ◌∷◌, refl, sym, ◌∙◌, ap, subst, inl, inr, Some, None}
use Rattle.std.specs.Prelude.{filter, map, Option, option_map, option_and_then, unwrap_or}
use Rattle.std.specs.List.{Contains, cons_option, filter_map}
use Rattle.std.specs.List.Sorted.{IsPermutation}
use Rattle.std.proofs.lemmas.List.Sorted.{Contains-permutation, IsPermutation-sym}
use Rattle.lemmas.proofs.ListFacts.{kept_inside, map_found}
use Rattle.holddata.specs.HoldBook.{IsInKeyOrder}
use Rattle.holddata.specs.declared.hold.Hold.{Hold}
use Rattle.holddata.specs.declared.key.HoldKey.{HoldKey}
use Rattle.holddata.specs.declared.key.Kind.{Kind}
use Rattle.catalogue.specs.Content as content
use Rattle.catalogue.specs.Content.{holds_on, ids_of, record_of}
use Rattle.catalogue.specs.Ids.{Ascend, same_id}
use Rattle.catalogue.specs.declared.sysmod.Sysmod.{Sysmod}
use Rattle.catalogue.proofs.IdFacts.{same_back}
use Rattle.sqlite_value.specs.Order.{Row, column}
use Rattle.sql_tables.specs.Fit.{IsRecord}
use Rattle.sql_tables.specs.Rows.{Beside, hold_found, sysmod_found, sysmod_row, with}
use Rattle.sql_tables.specs.Stored.{Stored, beside_of, is_of, sysmods_of, tables_of}
use Rattle.sql_tables.specs.Values.{hold_kind_in, id_in}
use Rattle.sql_tables.specs.Whole.{AreRowsOf, IsWhole}
use Rattle.sql_tables.proofs.ReadFacts.{holds_read}
use Rattle.sql_tables.proofs.RecordFacts.{all_ids_read, no_record, one_record}
use Rattle.sql_tables.proofs.RowFacts.{hold_own, sysmod_again}
use Rattle.sql_tables.proofs.ValueFacts.{id_again}
use Rattle.sql_texts.specs.Found.{shown}
use Rattle.sql_texts.specs.Schema as schema
use Rattle.sql_reads.specs.Answering.{one_of}
use Rattle.sql_reads.specs.Columns.{indices_of}
use Rattle.sql_reads.proofs.ClientFacts.{table_said}
use Rattle.sql_reads.proofs.MemberFacts.{filtered, read_from}
use Rattle.sql_reads.proofs.TableFacts.{filter_true, one_case, one_passes}

-- ---- records

pub sysmods_ids : (beside : List ℕ → Beside) (rows : List Row) → AreRowsOf sysmod_row IsRecord rows → content.ids_in (sysmods_of beside rows) ≡ filter_map (λ row. id_in (column row 0)) rows
sysmods_ids beside [] all = refl
sysmods_ids beside (row ∷ rows) all =
    ap (λ o. content.ids_in (cons_option o (sysmods_of beside rows))) (said all.0)
    ∙ ap (λ others. all.0.0.id ∷ others) (sysmods_ids beside rows all.1)
    ∙ sym (ap (λ o. cons_option o (filter_map (λ r. id_in (column r 0)) rows)) (ap (λ r. id_in (column r 0)) all.0.2 ∙ id_again all.0.0.id all.0.1.id))
  where
    said : (it : (x : Sysmod) × IsRecord x × (row ≡ sysmod_row x)) → option_and_then (λ id. sysmod_found (beside id) row) (id_in (column row 0)) ≡ Some (record it.0 { conds = (beside it.0.id).conds; sup = (beside it.0.id).sup })
    said it =
        ap (λ r. option_and_then (λ id. sysmod_found (beside id) r) (id_in (column r 0))) it.2
        ∙ ap (option_and_then (λ id. sysmod_found (beside id) (sysmod_row it.0))) (id_again it.0.id it.1.id)
        ∙ sysmod_again (beside it.0.id) it.0 it.1

-- the rows that are shown of an id say its record
pub sysmod_shown : (stored : Stored) (id : List ℕ) (rows : List Row) → IsPermutation (map (shown (indices_of schema.sysmod)) (filter (is_of id) stored.sysmods)) rows → (found : Option Sysmod)
    → one_of (sysmod_found (beside_of stored id)) rows ≡ Some found → found ≡ record_of (tables_of stored).content id
sysmod_shown stored id rows permuted found said =
    elim (one_case (sysmod_found (beside_of stored id)) (shown (indices_of schema.sysmod)) (filter (is_of id) stored.sysmods) rows found permuted said) [
      | inl none ↦ none.1 ∙ sym (no_record stored id none.0)
      | inr its ↦ its.4 ∙ sym (one_record stored id its.0 its.2 its.1 (one_passes (is_of id) stored.sysmods its.0 its.1) its.3)
    ]

-- the ids of all records
pub ids_shown : (stored : Stored) (rows : List Row) (found : List (List ℕ)) → IsWhole stored → Ascend found → IsPermutation (map (shown (0 ∷ [])) (filter (λ row. true) stored.sysmods)) rows
    → map Some found ≡ map (λ row. id_in (column row 0)) rows → found ≡ ids_of (tables_of stored).content
ids_shown stored rows found whole ascend shows said =
    let read_ids = filter_map (λ row. id_in (column row 0)) stored.sysmods in
    let permuted : IsPermutation read_ids found =
    subst (λ kept. IsPermutation (filter_map (λ row. id_in (column row 0)) kept) found) (filter_true stored.sysmods)
    (table_said (λ row. id_in (column row 0)) (shown (0 ∷ [])) (filter (λ row. true) stored.sysmods) rows found shows said) in
    let same = sysmods_ids (beside_of stored) stored.sysmods whole.sysmods in
    all_ids_read stored found ascend
    (λ id inside. Contains-permutation read_ids found id permuted (subst (λ ids. Contains ids id) same inside))
    (λ id inside. subst (λ ids. Contains ids id) (sym same) (Contains-permutation found read_ids id (IsPermutation-sym read_ids found permuted) inside))

-- ---- holds

-- a hold that is read has the SYSMOD and the kind of its row
pub key_parts : (row : Row) (hold : Hold) → hold_found row ≡ Some hold → (id_in (column row 0) ≡ Some hold.key.sysmod) × (hold_kind_in (column row 1) ≡ Some hold.key.kind)
key_parts row hold h = by (id_in (column row 0)) (hold_kind_in (column row 1)) (id_in (column row 2)) (hold_own row hold h)
  where
    by : (a : Option (List ℕ)) (b : Option Kind) (c : Option (List ℕ))
        → with a (λ sysmod. with b (λ kind. option_map (λ reason. record { sysmod = sysmod; kind = kind; reason = reason }) c)) ≡ Some hold.key
        → (a ≡ Some hold.key.sysmod) × (b ≡ Some hold.key.kind)
    by None b c e = cc
    by (Some a) None c e = cc
    by (Some a) (Some b) None e = cc
    by (Some a) (Some b) (Some c) e = (ap (option_map (λ (k : HoldKey). k.sysmod)) e, ap (option_map (λ (k : HoldKey). k.kind)) e)

pub hold_of : (id : List ℕ) (row : Row) (hold : Hold) → hold_found row ≡ Some hold → is_of id row ≡ same_id id hold.key.sysmod
hold_of id row hold h =
    ap (λ o. unwrap_or (option_map (λ found. same_id found id) o) false) (key_parts row hold h).0 ∙ same_back hold.key.sysmod id

-- the rows that are shown of an id say the holds on it
pub holds_shown : (stored : Stored) (id : List ℕ) (rows : List Row) (found : List Hold) → IsInKeyOrder found
    → IsPermutation (map (shown (indices_of schema.hold_row)) (filter (is_of id) stored.holds)) rows → map Some found ≡ map hold_found rows → found ≡ holds_on (tables_of stored).content id
holds_shown stored id rows found ordered shows said =
    holds_read (filter_map hold_found stored.holds) found (λ key. same_id id key.sysmod) ordered there back
  where
    permuted : IsPermutation (filter_map hold_found (filter (is_of id) stored.holds)) found
    permuted = table_said hold_found (shown (indices_of schema.hold_row)) (filter (is_of id) stored.holds) rows found shows said

    there : (hold : Hold) → Contains found hold → Contains (filter_map hold_found stored.holds) hold × (same_id id hold.key.sysmod ≡ true)
    there hold inside =
        let it = read_from hold_found (filter (is_of id) stored.holds) hold
        (Contains-permutation found (filter_map hold_found (filter (is_of id) stored.holds)) hold (IsPermutation-sym (filter_map hold_found (filter (is_of id) stored.holds)) found permuted) inside) in
        let row = filtered (is_of id) stored.holds it.0 it.1 in
        (map_found hold_found stored.holds it.0 hold row.0 it.2, sym (hold_of id it.0 hold it.2) ∙ row.1)

    back : (hold : Hold) → Contains (filter_map hold_found stored.holds) hold → same_id id hold.key.sysmod ≡ true → Contains found hold
    back hold inside at =
        let it = read_from hold_found stored.holds hold inside in
        Contains-permutation (filter_map hold_found (filter (is_of id) stored.holds)) found hold permuted
        (map_found hold_found (filter (is_of id) stored.holds) it.0 hold (kept_inside (is_of id) stored.holds it.0 it.1 (hold_of id it.0 hold it.2 ∙ at)) it.2)

-- the rows that are shown of all say all holds
pub all_holds_shown : (stored : Stored) (rows : List Row) (found : List Hold) → IsInKeyOrder found
    → IsPermutation (map (shown (indices_of schema.hold_row)) (filter (λ row. true) stored.holds)) rows → map Some found ≡ map hold_found rows → found ≡ (tables_of stored).content.holds
all_holds_shown stored rows found ordered shows said =
    holds_read (filter_map hold_found stored.holds) found (λ key. true) ordered
    (λ hold inside. (Contains-permutation found (filter_map hold_found stored.holds) hold (IsPermutation-sym (filter_map hold_found stored.holds) found permuted) inside, refl))
    (λ hold inside at. Contains-permutation (filter_map hold_found stored.holds) found hold permuted inside)
    ∙ filter_true (tables_of stored).content.holds
  where
    permuted : IsPermutation (filter_map hold_found stored.holds) found
    permuted =
        subst (λ kept. IsPermutation (filter_map hold_found kept) found) (filter_true stored.holds)
        (table_said hold_found (shown (indices_of schema.hold_row)) (filter (λ row. true) stored.holds) rows found shows said)
