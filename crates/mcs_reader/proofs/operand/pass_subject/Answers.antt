use Rattle.std.proofs.Common.{Some, ◌∙◌}
use Rattle.mcs_reader.proofs.operand.pass_subject.Goals as goal

pub returns-in_ok-value-clause-ok : goal.returns-in_ok-value-clause-ok
returns-in_ok-value-clause-ok c =
    let list = c.in_ok-value.ensures.ok in
    record {
      values = Some list.values;
      found = (c.in_ok-enter_list.ensures.list c.if-branch.true).of_name ∙ list.found;
      subject_is = c.subject_by.ensures list.values list.value_is;
    }
