use Rattle.std.proofs.Common.{◌≡◌, [], ◌∷◌, ap₂, refl, subst, sym}
use Rattle.sqlite.specs.Held.{state}
use Rattle.sqlite.specs.Values.{bound_value}
use Rattle.sqlite_value.specs.Value.{owned}
use Rattle.sqlite_value.specs.declared.value.Value.TheVariants.{Text}
use Rattle.mcs_reader.specs.Id.{text_of}
use Rattle.sql_tables.specs.Ours.{held_by}
use Rattle.sql_reads.specs.Scans.{HaveEach, KeysRise, scan_of}
use Rattle.sql_reads.proofs.ScanFacts.{scan_has}
use Rattle.sql_reads.proofs.TableFacts.{finds_of_two}
use Rattle.sql_reads.proofs.scan.scan.Goals as goal

pub returns-clause-finds : goal.returns-clause-finds
returns-clause-finds g c =
    let t = g.T.Scanned in
    let tree = g.T.Table.table.tree in
    let rows_in = g.T.Table.rows in
    let old = state g.S.Store c.args.conn.now in
    let ids = c.args.ids.now in
    let first = c.index-ids-0.result in
    let last = c.index-ids-ids.result in
    let found = c.in_ok-rows.rows.items in
    finds_of_two c.scan_text.result.now (bound_value (owned c.id_of.result) ∷ bound_value (owned c.id_of-2.result) ∷ []) (Text (text_of first) ∷ Text (text_of last) ∷ [])
    (ap₂ (λ v w. bound_value v ∷ bound_value w ∷ []) c.id_of.ensures.value c.id_of-2.ensures.value) old (state g.S.Store c.rows_of.new.conn)
    (scan_of tree t.scan_shown t.scan_order) t.scan_names 2 c.scan_text.ensures
    c.in_ok-rows.rows found refl c.in_ok-rows.ensures.answers c.in_order.result (λ same. same.items ≡ found) (λ same. KeysRise c.place.result same.items) c.in_order.ensures.rows c.in_order.ensures.rise
    (λ stored rows. HaveEach t.scan_shown t.at (rows_in stored) ids rows.items)
    (λ ours answer rows same rise. subst (HaveEach t.scan_shown t.at (rows_in (held_by old.committed)) ids) (sym same)
    (scan_has tree t.scan_shown t.scan_order t.at rows_in g.T.Table.stands.here g.met.T.Scanned.placed ids first last c.requires.run (sym c.index-ids-0.is) (sym c.index-ids-ids.is) old.committed.trees found answer
    (subst (λ p. KeysRise p found) c.place.ensures (subst (KeysRise c.place.result) same rise))))
