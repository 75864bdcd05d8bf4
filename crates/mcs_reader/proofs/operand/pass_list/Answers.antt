use Rattle.std.proofs.Common.{◌≡◌, cond, false, Some, [], sym, ◌∙◌, ap}
use Rattle.mcs_reader.specs.Lists.{after_raw_list}
use Rattle.mcs_reader.specs.Pieces.{a_name, named_before, name_comment}
use Rattle.mcs_reader.specs.Scan.{scan}
use Rattle.mcs_reader.proofs.operand.pass_list.Goals as goal

pub returns-in_ok-pass_raw_list-clause-ok : goal.returns-in_ok-pass_raw_list-clause-ok
returns-in_ok-pass_raw_list-clause-ok c =
    let comment : named_before c.args.name.now ≡ name_comment = ap (λ t. cond t name_comment a_name) (sym c.is_comment.ensures ∙ c.if-is_comment.true) in
    record {
      list = Some [];
      found =
          ap (λ before. scan c.args.line 0 before false c.args.cursor.now.text) comment
          ∙ (c.in_ok-enter_list.ensures.list c.if-not-branch.false).of_comment
          ∙ ap (after_raw_list c.args.line) c.in_ok-pass_raw_list.ensures.ok;
    }

pub returns-in_ok-take_sole_value-clause-ok : goal.returns-in_ok-take_sole_value-clause-ok
returns-in_ok-take_sole_value-clause-ok c =
    let named : named_before c.args.name.now ≡ a_name = ap (λ t. cond t name_comment a_name) (sym c.is_comment.ensures ∙ c.if-is_comment.false) in
    let list = c.in_ok-take_sole_value.ensures.ok in
    record {
      list = Some list.values;
      found =
          ap (λ before. scan c.args.line 0 before false c.args.cursor.now.text) named
          ∙ (c.in_ok-enter_list.ensures.list c.if-not-branch.false).of_name
          ∙ list.found;
    }
