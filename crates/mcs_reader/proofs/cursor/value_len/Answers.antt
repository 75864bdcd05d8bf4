use Rattle.std.proofs.Common.{sym, ◌∙◌, arith}
use Rattle.mcs_reader.proofs.PassFacts.{value_grows, after_value_stays}
use Rattle.mcs_reader.proofs.cursor.value_len.Goals as goal

pub bytes-preserved : goal.bytes-preserved
bytes-preserved c =
    let columns = c.args.columns.now in
    let len = c.bytes.len in
    let goes_on = sym c.goes_on.ensures ∙ c.if-goes_on.true in
    record {
      within = omega arith;
      value = value_grows columns len c.bytes-test.true goes_on c.bytes.invariant.value;
      rest = c.bytes.invariant.rest ∙ after_value_stays columns len c.bytes-test.true goes_on;
    }
