-- What many SYSMODs are seen as, by the rows of each.
use Rattle.std.proofs.Common.{◌≡◌, ◌+◌, ◌<◌, ℕ, List, [], ◌∷◌, sym, ◌∙◌, ap, ap₂, Some, get_or, length, take, ◌++◌}
use Rattle.std.specs.Prelude.{filter, map}
use Rattle.std.proofs.lemmas.List.{map-append, take_more}
use Rattle.holddata.specs.HoldBook.{IsInKeyOrder}
use Rattle.catalogue.specs.Conditional.{CondsAscend}
use Rattle.catalogue.specs.Ids.{Ascend}
use Rattle.catalogue.specs.Seen.{SeenLists, seen_in}
use Rattle.sqlite_value.specs.Order.{Row, column}
use Rattle.sql_tables.specs.Rows.{Beside, cond_found, hold_found, sysmod_found}
use Rattle.sql_tables.specs.Stored.{Stored, beside_of, is_of, shown, tables_of}
use Rattle.sql_tables.specs.Values.{id_in}
use Rattle.sql_tables.proofs.RecordFacts.{conditional_read, superseded_read}
use Rattle.sql_texts.specs.Schema as schema
use Rattle.sql_reads.specs.Answering.{one_of}
use Rattle.sql_reads.specs.Columns.{indices_of}
use Rattle.sql_reads.specs.Scans.{AreOf}
use Rattle.sql_reads.proofs.ClientFacts.{table_said}
use Rattle.sql_reads.proofs.PublishedFacts.{holds_shown, sysmod_shown}

-- what the rows of an id say is what the content has of it
pub seen_so : (stored : Stored) (id : List ℕ) (records sups conds holds : List Row) (beside : Beside) (seen : SeenLists)
    → AreOf (indices_of schema.sysmod) stored.sysmods id records → AreOf (1 ∷ 0 ∷ []) stored.sups id sups → AreOf (1 ∷ 2 ∷ 0 ∷ []) stored.conds id conds → AreOf (indices_of schema.hold_row) stored.holds id holds
    → one_of (sysmod_found beside) records ≡ Some seen.sysmod → map Some beside.sup ≡ map (λ row. id_in (column row 0)) sups → Ascend beside.sup
    → map Some beside.conds ≡ map cond_found conds → CondsAscend beside.conds → map Some seen.holds ≡ map hold_found holds → IsInKeyOrder seen.holds → seen ≡ seen_in (tables_of stored).content id
seen_so stored id records sups conds holds beside seen of_records of_sups of_conds of_holds in_records in_sups sup_ascends in_conds conds_ascend in_holds holds_ascend =
    let same_sup = superseded_read stored.sups id beside.sup sup_ascends (table_said (λ row. id_in (column row 0)) (shown (1 ∷ 0 ∷ [])) (filter (is_of id) stored.sups) sups beside.sup of_sups in_sups) in
    let same_conds = conditional_read stored.conds id beside.conds conds_ascend (table_said cond_found (shown (1 ∷ 2 ∷ 0 ∷ [])) (filter (is_of id) stored.conds) conds beside.conds of_conds in_conds) in
    let same : beside ≡ beside_of stored id = λ i. record { conds = same_conds i; sup = same_sup i } in
    let sysmod = sysmod_shown stored id records of_records seen.sysmod (ap (λ it. one_of (sysmod_found it) records) (sym same) ∙ in_records) in
    let on_it = holds_shown stored id holds seen.holds holds_ascend of_holds in_holds in
    λ i. record { sysmod = sysmod i; holds = on_it i }

-- one more is seen
pub more_seen : (f : List ℕ → SeenLists) (ids : List (List ℕ)) (i : ℕ) (id : List ℕ) (seen : List SeenLists) (one : SeenLists) → i < length ids → get_or ids i id ≡ id
    → seen ≡ map f (take i ids) → one ≡ f id → seen ++ one ∷ [] ≡ map f (take (i + 1) ids)
more_seen f ids i id seen one within is so_far this =
    ap₂ (λ xs x. xs ++ x ∷ []) so_far (this ∙ ap f (sym is)) ∙ sym (map-append f (take i ids) (get_or ids i id ∷ [])) ∙ ap (map f) (sym (take_more ids i id within))
