use Rattle.std.proofs.Common.{◌∙◌, ap}
use Rattle.std.specs.Prelude.{not}
use Rattle.sqlite.specs.Held.{state}
use Rattle.sqlite.specs.Values.{bound}
use Rattle.sql_reads.proofs.AnsweringFacts.{answers_fault, answers_rows, refused_for}
use Rattle.sql_reads.proofs.rows.rows_of.Goals as goal

pub returns-in-Ok-clause-answers : goal.returns-in-Ok-clause-answers
returns-in-Ok-clause-answers g c =
    answers_rows c.args.text.now (bound c.args.params.now) (state g.S.Store c.args.conn.now) (state g.S.Store c.query_all.new.self) c.requires.read c.in-Ok.ensures.survives c.in-Ok.rows
    (c.is_autocommit-at_rest.ensures.settled (c.is_autocommit-at_rest.ensures.value ∙ ap not c.requires.rest)) c.in-Ok.ensures.ok

pub returns-in-Err-clause-answers : goal.returns-in-Err-clause-answers
returns-in-Err-clause-answers g c =
    answers_fault c.args.text.now (bound c.args.params.now) (state g.S.Store c.args.conn.now) (state g.S.Store c.query_all.new.self) c.requires.read c.in-Err.ensures.survives c.in-Err.error
    c.from.result c.in-Err.ensures.err

pub returns-in-Err-clause-cause : goal.returns-in-Err-clause-cause
returns-in-Err-clause-cause g c clean device =
    refused_for c.args.text.now (bound c.args.params.now) (state g.S.Store c.args.conn.now) (state g.S.Store c.query_all.new.self) c.requires.read
    (c.is_autocommit-at_rest.ensures.settled (c.is_autocommit-at_rest.ensures.value ∙ ap not c.requires.rest)) c.in-Err.error (c.in-Err.ensures.err clean)
    (λ memory. c.from.ensures device memory)
