use Rattle.std.proofs.Common.{◌≡◌, [], ◌∷◌, ap}
use Rattle.std.specs.Prelude.{codes}
use Rattle.bureau_store.specs.Caller.{caller_named}
use Rattle.mcs_reader.specs.Id.{text_of}
use Rattle.sqlite.specs.Held.{state}
use Rattle.sqlite.specs.Values.{bound_value}
use Rattle.sqlite_value.specs.Value.{owned}
use Rattle.sqlite_value.specs.declared.value.Value.TheVariants.{Text}
use Rattle.sql_tables.specs.Stored.{tables_of}
use Rattle.sql_texts.specs.Reads as read
use Rattle.sql_reads.proofs.TableFacts.{finds}
use Rattle.sql_checks.specs.Refused.{SaysLast, of_last}
use Rattle.sql_checks.proofs.CauseFacts.{rows_unsaid, text_unsaid}
use Rattle.sql_checks.proofs.SayFacts.{last_number}
use Rattle.sql_checks.proofs.asked.last.Goals as goal

pub returns-in-Ok-clause-finds : goal.returns-in-Ok-clause-finds
returns-in-Ok-clause-finds g c =
    let old = state g.S.Store c.args.conn.now in
    let rows = c.as_slice.result.now in
    let name = c.args.name.now in
    finds c.last_change.result.now (bound_value (owned c.id_of.result) ∷ []) (Text (text_of name) ∷ []) (ap (λ v. bound_value v ∷ []) c.id_of.ensures.value) old (state g.S.Store c.rows_of.new.conn)
    read.last_change (codes "number" ∷ codes "body" ∷ []) 1 c.last_change.ensures.reads c.in-Ok.rows rows c.as_slice.ensures.value c.in-Ok.ensures.answers c.last.result (SaysLast rows) c.last.ensures.said
    (λ stored last. last ≡ ((tables_of stored).last (caller_named name)).number)
    (λ ours answer number said. last_number old.committed.trees name rows number c.id_of.ensures.is_id answer said)

pub returns-in-Ok-clause-cause : goal.returns-in-Ok-clause-cause
returns-in-Ok-clause-cause g c =
    rows_unsaid (of_last c.args.name.now) SaysLast c.last_change.result.now c.last_change.ensures.reads (bound_value (owned c.id_of.result) ∷ []) (ap (λ v. bound_value v ∷ []) c.id_of.ensures.value)
    (state g.S.Store c.args.conn.now) (state g.S.Store c.rows_of.new.conn) c.in-Ok.rows c.as_slice.result.now c.as_slice.ensures.value c.in-Ok.ensures.answers c.last.result c.last.ensures.unsaid

pub returns-in-Err-clause-cause : goal.returns-in-Err-clause-cause
returns-in-Err-clause-cause g c =
    text_unsaid (of_last c.args.name.now) SaysLast c.last_change.result.now c.last_change.ensures.reads (bound_value (owned c.id_of.result) ∷ []) (ap (λ v. bound_value v ∷ []) c.id_of.ensures.value)
    (state g.S.Store c.args.conn.now) (state g.S.Store c.rows_of.new.conn) c.in-Err.fault c.in-Err.ensures.cause
