use Rattle.std.proofs.lemmas.Result.{err_from_is_err_and}
use Rattle.std.proofs.Common.{ℕ, ◌<◌, List, false, Some, Err, length, sym, ◌∙◌, ap, subst}
use Rattle.mcs_reader.specs.Scan.{scan}
use Rattle.mcs_reader.specs.Line.{begins_statement}
use Rattle.mcs_reader.proofs.ScanPositionFacts.{IsAfter-trans, outside_blanks, outside_gap, outside_comment, outside_open_comment, outside_line, outside_statement, outside_last}
use Rattle.mcs_reader.proofs.operand.skip_gap.Goals as goal
use Rattle.mcs_reader.proofs.operand.skip_gap.Goals.{then-not-next_line-via-then-not-next_line, then-not-next_line-via-else-not-next_line+then-begins_statement}

pub returns-then-not-next_line-clause-fault : goal.returns-then-not-next_line-clause-fault
returns-then-not-next_line-clause-fault c = λ before.
    c.gap.invariant.found before
    ∙ elim c.then-not-next_line.branch [
      | then-not-next_line-via-then-not-next_line w ↦ outside_last c.args.line before c.gap.cursor.text c.in_default.ensures w.if-not-next_line.ensures.end
      | then-not-next_line-via-else-not-next_line+then-begins_statement w ↦
          let moved = w.if-not-next_line.ensures in
          let P : List ℕ → Type 0 = λ t. 0 < length t in
          outside_statement c.args.line before c.gap.cursor.text c.in_default.ensures (subst P moved.text moved.more)
          (ap begins_statement (sym moved.text) ∙ sym w.if-begins_statement.ensures)
    ]

pub gap-preserved-in_default : goal.gap-preserved-in_default
gap-preserved-in_default c =
    let loop = c.gap in
    let moved = c.if-not-next_line.ensures in
    let P : List ℕ → Type 0 = λ t. 0 < length t in
    record {
      found = λ before.
          loop.invariant.found before
          ∙ outside_line c.args.line before loop.cursor.text c.in_default.ensures (subst P moved.text moved.more)
          (ap begins_statement (sym moved.text) ∙ sym c.if-begins_statement.ensures)
          ∙ ap (scan c.args.line 0 before false) (sym moved.text);
      after = IsAfter-trans c.next_line.new.self loop.cursor c.args.cursor.now moved.after loop.invariant.after;
    }

pub gap-preserved-in-Gap : goal.gap-preserved-in-Gap
gap-preserved-in-Gap c =
    let loop = c.gap in
    record {
      found = λ before.
          loop.invariant.found before
          ∙ outside_gap c.args.line before loop.cursor.text (ap (λ k. Some k) (sym c.in-Gap.is) ∙ c.in-Some.ensures)
          ∙ ap (scan c.args.line 0 before false) (sym c.advance.ensures.text)
          ∙ outside_blanks c.args.line before c.advance.new.self.text
          ∙ ap (scan c.args.line 0 before false) (sym c.pass_blanks.ensures.text);
      after =
          IsAfter-trans c.pass_blanks.new.self loop.cursor c.args.cursor.now
          (IsAfter-trans c.pass_blanks.new.self c.advance.new.self loop.cursor c.pass_blanks.ensures.after c.advance.ensures.after) loop.invariant.after;
    }

pub gap-preserved : goal.gap-preserved
gap-preserved c =
    let loop = c.gap in
    let passed = c.in_ok-pass_comment-in-Comment.ensures in
    record {
      found = λ before.
          loop.invariant.found before
          ∙ outside_comment c.args.line before loop.cursor.text c.pass_comment.new.cursor.text (sym (ap (λ k. Some k) (sym c.in-Comment.is) ∙ c.in-Some.ensures)) passed.ok;
      after = IsAfter-trans c.pass_comment.new.cursor loop.cursor c.args.cursor.now passed.after loop.invariant.after;
    }

pub returns-in_err-pass_comment-in-Comment-clause-fault : goal.returns-in_err-pass_comment-in-Comment-clause-fault
returns-in_err-pass_comment-in-Comment-clause-fault c =
    let loop = c.gap in
    let p = err_from_is_err_and c.from_residual.result c.from_residual.ensures.1 in
    let unclosed = c.in_err-pass_comment-in-Comment.ensures.fault in
    rw (p.1, p.2) (λ before.
    loop.invariant.found before
    ∙ outside_open_comment c.args.line before loop.cursor.text (sym (ap (λ k. Some k) (sym c.in-Comment.is) ∙ c.in-Some.ensures)) unclosed.1
    ∙ ap (λ f. Err f) (sym unclosed.0))
