use Rattle.sqlite.specs.Held.{state}
use Rattle.sqlite.specs.Values.{bound}
use Rattle.sql_reads.proofs.CountFacts.{count_found}
use Rattle.sql_reads.proofs.counted.count.Goals as goal

pub returns-clause-finds : goal.returns-clause-finds
returns-clause-finds g c query parameters given many reads same law =
    count_found c.args.text.now (bound c.args.params.now) given same (state g.S.Store c.args.conn.now) (state g.S.Store c.rows_of.new.conn) query parameters reads
    c.in_ok-rows.rows c.as_slice.result.now c.as_slice.ensures.value c.in_ok-rows.ensures.answers c.number.result c.number.ensures.count c.number.ensures.below many law
