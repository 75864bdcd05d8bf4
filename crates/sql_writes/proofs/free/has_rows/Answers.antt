use Rattle.std.proofs.Common.{List, Ok, Err, ap, inl, inr, refl, sym, ◌∙◌, []}
use Rattle.sqlite.specs.Order.{Row}
use Rattle.sqlite.specs.Held.{state}
use Rattle.sql_tables.specs.InTrees.{columns_of}
use Rattle.sql_rows.proofs.ChangeFacts.{refused}
use Rattle.sql_rows.proofs.TurnFacts.{told}
use Rattle.sql_writes.specs.Asking.{first_in}
use Rattle.sql_writes.proofs.AskFacts.{asked, asked_same, asked_stopped, asked_takes}
use Rattle.sql_writes.proofs.FirstFacts.{denied, first_read, first_taken}
use Rattle.sql_writes.proofs.free.has_rows.Goals as goal

pub returns-in_err-rows-clause-asks : goal.returns-in_err-rows-clause-asks
returns-in_err-rows-clause-asks g c =
    let t = g.T.Table in
    record {
      changes = refused _ _ _ _ (λ stored. stored) _ c.from_residual.ensures.0
          (asked {A = List Row} (λ rows. rows) _ _ _ _ _ _ 0 (Err c.in_err-rows.field-0.0) c.first.ensures (λ clean. tt) c.in_err-rows.ensures.err c.query_all.ensures.survives);
      takes = asked_stopped _ _ _ (first_in t.table.tree) _ 0 [] [] refl c.first.ensures
          c.in_err-rows.field-0.0 _ refl (first_taken t.index t.table t.stands.placed) (λ trees overflows. elim overflows [ inl none ↦ none | inr some ↦ some.4 ]) c.from_residual.ensures.1 c.in_err-rows.ensures.err;
    }

pub returns-clause-asks : goal.returns-clause-asks
returns-clause-asks g c = record {
  changes = told _ _ _ _ _ (asked {A = List Row} (λ rows. rows) _ _ _ _ _ _ 0 (Ok c.in_ok-rows.rows.items) c.first.ensures c.in_ok-rows.ensures.ok (λ clean. tt) c.query_all.ensures.survives);
  takes = asked_takes _ _ _ _ _ 0 [] [] refl c.first.ensures _ c.in_ok-rows.rows.items c.in_ok-rows.ensures.ok;
}

pub returns-clause-found : goal.returns-clause-found
returns-clause-found g c clean known =
    let rows = c.in_ok-rows.rows.items in
    let here = c.in_ok-rows.ensures.ok clean in
    let old = state g.S.Store c.args.tx.now.conn.now in (
      asked_same _ _ _ _ _ _ 0 rows c.first.ensures known.schema here,
      λ none. g.T.Table.stands.here old.now.trees
          ∙ ap columns_of (first_read _ g.T.Table.table.tree _ old _ rows c.first.ensures known.schema here (sym c.as_slice-found.ensures.value ∙ denied c.as_slice-found.result.now _ c.is_empty.ensures none)),
    )
