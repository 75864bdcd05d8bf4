use Rattle.std.proofs.Common.{◌≡◌, [], Some, None, ap, sym, ◌∙◌}
use Rattle.sqlite.specs.Held.{state}
use Rattle.catalogue.specs.Content.{record_of}
use Rattle.sql_tables.specs.Rows.{sysmod_found}
use Rattle.sql_tables.specs.Stored.{beside_of, tables_of}
use Rattle.sql_tables.proofs.ZoneFacts.{nothing_first}
use Rattle.sql_reads.specs.Answering.{one_of}
use Rattle.sql_reads.proofs.PublishedFacts.{sysmod_shown}
use Rattle.sql_reads.proofs.TableFacts.{finds_both, finds_so}
use Rattle.sql_reads.proofs.table.sysmod.sysmod.Goals as goal

pub returns-then-not-any-clause-finds : goal.returns-then-not-any-clause-finds
returns-then-not-any-clause-finds g c =
    let id = c.args.id.now in
    finds_so (state g.S.Store c.args.conn.now) (state g.S.Store c.select.new.conn) c.in_ok-rows.rows None _ _ c.in_ok-rows.ensures.finds
    (λ stored shows. sysmod_shown stored id c.in_ok-rows.rows.items shows None
    (ap (one_of (sysmod_found (beside_of stored id))) {y = []} (sym c.as_slice.ensures.value ∙ nothing_first c.as_slice.result.now (sym c.any.ensures ∙ c.if-not-any.true))))

pub returns-clause-finds : goal.returns-clause-finds
returns-clause-finds g c =
    finds_both (state g.S.Store c.args.conn.now) (state g.S.Store c.select.new.conn) (state g.S.Store c.beside.new.conn) c.in_ok-rows.rows (c.in_ok-conds.conds, c.in_ok-conds.sup) c.record_in.result _ _
    (λ stored found. found ≡ record_of (tables_of stored).content c.args.id.now) c.in_ok-rows.ensures.finds c.in_ok-conds.ensures.finds
    (λ found. one_of (sysmod_found (record { conds = c.in_ok-conds.conds; sup = c.in_ok-conds.sup })) c.as_slice-2.result.now ≡ Some found) c.record_in.ensures
    (λ stored found shows lists is. sysmod_shown stored c.args.id.now c.in_ok-rows.rows.items shows found
    (ap (λ beside. one_of (sysmod_found beside) c.in_ok-rows.rows.items) lists
    ∙ ap (one_of (sysmod_found (record { conds = c.in_ok-conds.conds; sup = c.in_ok-conds.sup }))) (sym c.as_slice-2.ensures.value) ∙ is))
