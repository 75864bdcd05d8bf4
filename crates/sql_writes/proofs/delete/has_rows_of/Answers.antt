use Rattle.std.proofs.Common.{List, Ok, Err, ap, inl, inr, sym, ◌∙◌, ◌∷◌, [], take}
use Rattle.std.specs.Prelude.{codes, length, not}
use Rattle.sqlite.specs.Order.{Row}
use Rattle.sqlite.specs.Values.{bound}
use Rattle.sql_texts.specs.Reads.{from_table}
use Rattle.sql_rows.proofs.ChangeFacts.{refused}
use Rattle.sql_rows.proofs.RowidFacts.{is_some_of}
use Rattle.sql_rows.proofs.TurnFacts.{told}
use Rattle.sql_writes.proofs.AskFacts.{asked, asked_stopped, asked_takes}
use Rattle.sql_writes.proofs.FindFacts.{found_so, some_there}
use Rattle.sql_writes.proofs.delete.has_rows_of.Goals as goal

pub returns-in_err-rows-clause-asks : goal.returns-in_err-rows-clause-asks
returns-in_err-rows-clause-asks g c =
    let k = g.K.Key in
    let key = c.args.key.now in
    record {
      changes = refused _ _ _ _ (λ stored. stored) _ c.from_residual.ensures.0
          (asked {A = List Row} (λ rows. rows) _ _ _ _ _ _ k.parameters (Err c.in_err-rows.field-0.0) c.question.ensures (λ clean. tt) c.in_err-rows.ensures.err c.query_all.ensures.survives);
      takes = asked_stopped _ _ _ (from_table g.T.Table.table.tree k.tests (0 ∷ []) []) _ k.parameters (take c.count.result c.params-params.result) (k.values key)
          (ap (λ n. bound (take n c.params-params.result)) c.count.ensures.count ∙ c.params-params.ensures.bound) c.question.ensures
          c.in_err-rows.field-0.0 _ (g.met.K.Key.counted key) (g.met.T.Deletes.accepts key) (λ trees overflows. elim overflows [ inl none ↦ none | inr some ↦ some.4 ]) c.from_residual.ensures.1 c.in_err-rows.ensures.err;
    }

pub returns-clause-asks : goal.returns-clause-asks
returns-clause-asks g c =
    let k = g.K.Key in
    record {
      changes = told _ _ _ _ _ (asked {A = List Row} (λ rows. rows) _ _ _ _ _ _ k.parameters (Ok c.in_ok-rows.rows.items) c.question.ensures c.in_ok-rows.ensures.ok (λ clean. tt) c.query_all.ensures.survives);
      takes = asked_takes _ _ _ _ _ k.parameters (take c.count.result c.params-params.result) (k.values c.args.key.now)
          (ap (λ n. bound (take n c.params-params.result)) c.count.ensures.count ∙ c.params-params.ensures.bound) c.question.ensures _ c.in_ok-rows.rows.items c.in_ok-rows.ensures.ok;
    }

pub returns-clause-found : goal.returns-clause-found
returns-clause-found g c clean known =
    let t = g.T.Table in
    let k = g.K.Key in
    let key = c.args.key.now in
    sym (found_so t.index t.table t.rows t.with_rows t.stands _ k.tests (codes "rowid") k.parameters (k.values key) (take c.count.result c.params-params.result) (k.has key) _ _ c.in_ok-rows.rows.items
    (g.met.K.Key.given key c.params-params.ensures.fit) (ap (λ n. bound (take n c.params-params.result)) c.count.ensures.count ∙ c.params-params.ensures.bound) c.question.ensures known (c.in_ok-rows.ensures.ok clean))
    ∙ ap is_some_of (ap length (sym c.as_slice-found.ensures.value))
    ∙ some_there _
    ∙ ap not (sym c.is_empty.ensures)
