use Rattle.std.proofs.Common.{Some, ◌∙◌, ap}
use Rattle.mcs_reader.proofs.OutsideFacts.{list_opened, outside_no_list}
use Rattle.mcs_reader.proofs.operand.enter_list.Goals as goal

pub returns-in-Open-clause-list : goal.returns-in-Open-clause-list
returns-in-Open-clause-list c = λ opened.
    list_opened c.args.line c.args.cursor.now.text c.skip_gap.new.cursor.text c.advance.new.self.text c.in_ok-skip_gap.ensures.ok
    (c.in_ok-skip_gap.ensures.role ∙ ap (λ k. Some k) c.in-Open.is) c.advance.ensures.text

pub returns-in_default : goal.returns-in_default
returns-in_default c =
    let position = c.in_ok-skip_gap.ensures in
    record {
      list = λ opened. absurd (cc);
      none = λ closed before.
          position.ok before
          ∙ outside_no_list c.args.line before c.skip_gap.new.cursor.text c.in_ok-skip_gap.field-0 position.role position.no_gap position.no_comment c.in_default.not-Open;
      depth_headroom = λ opened. absurd (cc);
      fault = tt;
      after = position.after;
    }
