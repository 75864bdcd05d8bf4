use Rattle.std.proofs.lemmas.Result.{err_from_is_err_and}
use Rattle.std.proofs.Common.{◌+◌, ◌-◌, [], ◌∷◌, false, Some, Err, length, sym, ◌∙◌, ap, arith}
use Rattle.mcs_reader.specs.Pieces.{no_name}
use Rattle.mcs_reader.specs.Run.{after_value}
use Rattle.mcs_reader.specs.Scan.{on_found, scan, with_list, with_values}
use Rattle.mcs_reader.proofs.ScanPositionFacts.{inside_blanks, inside_end, inside_last, inside_gap, inside_comment, inside_open_comment, inside_open, inside_close_last, inside_close, inside_value, shorter_at, IsAfter-trans, else_value}
use Rattle.mcs_reader.proofs.list.next_value.Goals as goal

pub bytes-preserved-then-next_line : goal.bytes-preserved-then-next_line
bytes-preserved-then-next_line c =
    let loop = c.bytes in
    let moved = c.if-next_line.ensures in
    record {
      found =
          loop.invariant.found
          ∙ inside_end c.args.line loop.depth loop.cursor.text loop.invariant.still_open c.in_default.ensures
          ∙ ap (scan c.args.line loop.depth no_name false) (sym moved.text);
      still_open = loop.invariant.still_open;
      no_deeper = omega (arith, loop.invariant.no_deeper, c.next_line.ensures.after.text);
      after = IsAfter-trans c.next_line.new.self loop.cursor c.args.cursor.now c.next_line.ensures.after loop.invariant.after;
    }

pub returns-in_default-clause-fault : goal.returns-in_default-clause-fault
returns-in_default-clause-fault c =
    c.bytes.invariant.found
    ∙ inside_last c.args.line c.bytes.depth c.bytes.cursor.text c.bytes.invariant.still_open c.in_default.ensures c.if-next_line.ensures.end

pub bytes-preserved-in-Gap : goal.bytes-preserved-in-Gap
bytes-preserved-in-Gap c =
    let loop = c.bytes in
    record {
      found =
          loop.invariant.found
          ∙ inside_gap c.args.line loop.depth loop.cursor.text loop.invariant.still_open (ap (λ k. Some k) (sym c.in-Gap.is) ∙ c.in-Some.ensures)
          ∙ ap (scan c.args.line loop.depth no_name false) (sym c.advance.ensures.text)
          ∙ inside_blanks c.args.line loop.depth c.advance.new.self.text loop.invariant.still_open
          ∙ ap (scan c.args.line loop.depth no_name false) (sym c.pass_blanks.ensures.text);
      still_open = loop.invariant.still_open;
      no_deeper = omega (arith, loop.invariant.no_deeper, c.advance.ensures.after.text, c.pass_blanks.ensures.after.text);
      after =
          IsAfter-trans c.pass_blanks.new.self loop.cursor c.args.cursor.now
          (IsAfter-trans c.pass_blanks.new.self c.advance.new.self loop.cursor c.pass_blanks.ensures.after c.advance.ensures.after) loop.invariant.after;
    }

pub bytes-preserved-in-Open : goal.bytes-preserved-in-Open
bytes-preserved-in-Open c =
    let loop = c.bytes in
    let now = c.advance-in-Open in
    let less = shorter_at loop.cursor.text c.in-Some.role c.in-Some.ensures in
    let size = ap length now.ensures.text in
    record {
      found =
          loop.invariant.found
          ∙ inside_open c.args.line loop.depth loop.cursor.text loop.invariant.still_open (ap (λ k. Some k) (sym c.in-Open.is) ∙ c.in-Some.ensures)
          ∙ ap (scan c.args.line (loop.depth + 1) no_name false) (sym now.ensures.text);
      still_open = omega arith;
      no_deeper = omega (arith, loop.invariant.no_deeper, less, size);
      after = IsAfter-trans now.new.self loop.cursor c.args.cursor.now now.ensures.after loop.invariant.after;
    }

pub returns-then-depth-eq0-clause-ok : goal.returns-then-depth-eq0-clause-ok
returns-then-depth-eq0-clause-ok c =
    c.bytes.invariant.found
    ∙ inside_close_last c.args.line c.bytes.depth c.bytes.cursor.text c.bytes.invariant.still_open (ap (λ k. Some k) (sym c.in-Close.is) ∙ c.in-Some.ensures) c.if-depth-eq0.true
    ∙ ap (λ t. on_found (with_list []) (scan c.args.line 0 no_name false t)) (sym c.advance-in-Close.ensures.text)

pub bytes-preserved : goal.bytes-preserved
bytes-preserved c =
    let loop = c.bytes in
    let now = c.advance-in-Close in
    record {
      found =
          loop.invariant.found
          ∙ inside_close c.args.line loop.depth loop.cursor.text loop.invariant.still_open (ap (λ k. Some k) (sym c.in-Close.is) ∙ c.in-Some.ensures) c.if-depth-eq0.false
          ∙ ap (scan c.args.line (loop.depth - 1) no_name false) (sym now.ensures.text);
      still_open = omega (arith, c.if-depth-eq0.false);
      no_deeper = omega (arith, loop.invariant.no_deeper, now.ensures.after.text);
      after = IsAfter-trans now.new.self loop.cursor c.args.cursor.now now.ensures.after loop.invariant.after;
    }

pub returns-in_default-role-clause-ok : goal.returns-in_default-role-clause-ok
returns-in_default-role-clause-ok c =
    let loop = c.bytes in
    let here = c.in_default-role in
    let value =
    inside_value c.args.line loop.depth loop.cursor.text c.in-Some.role loop.invariant.still_open c.in-Some.ensures
    (else_value c.in-Some.role here.not-Gap here.not-Comment here.not-Open here.not-Close) in
    let size = ap length c.take_value.ensures.text in
    record {
      found =
          loop.invariant.found
          ∙ value.0
          ∙ ap (λ w. on_found (with_values (w ∷ [])) (scan c.args.line loop.depth no_name false (after_value loop.cursor.text))) (sym c.take_value.ensures.value)
          ∙ ap (λ t. on_found (with_values (c.take_value.result.now ∷ [])) (scan c.args.line loop.depth no_name false t)) (sym c.take_value.ensures.text);
      still_open = loop.invariant.still_open;
      no_deeper = omega (arith, loop.invariant.no_deeper, c.take_value.ensures.after.text);
      shorter = omega (arith, value.1, size, loop.invariant.after.text);
    }

pub bytes-preserved-in-Continue-1 : goal.bytes-preserved-in-Continue-1
bytes-preserved-in-Continue-1 c =
    let loop = c.bytes in
    let passed = c.in_ok-pass_comment-in-Comment.ensures in
    record {
      found =
          loop.invariant.found
          ∙ inside_comment c.args.line loop.depth loop.cursor.text c.pass_comment.new.cursor.text loop.invariant.still_open
          (sym (ap (λ k. Some k) (sym c.in-Comment.is) ∙ c.in-Some.ensures)) passed.ok;
      still_open = loop.invariant.still_open;
      no_deeper = omega (arith, loop.invariant.no_deeper, passed.after.text);
      after = IsAfter-trans c.pass_comment.new.cursor loop.cursor c.args.cursor.now passed.after loop.invariant.after;
    }

pub returns-in_err-pass_comment-in-Comment-clause-fault : goal.returns-in_err-pass_comment-in-Comment-clause-fault
returns-in_err-pass_comment-in-Comment-clause-fault c =
    let loop = c.bytes in
    let p = err_from_is_err_and c.from_residual.result c.from_residual.ensures.1 in
    let unclosed = c.in_err-pass_comment-in-Comment.ensures.fault in
    rw (p.1, p.2)
    (loop.invariant.found
    ∙ inside_open_comment c.args.line loop.depth loop.cursor.text loop.invariant.still_open (sym (ap (λ k. Some k) (sym c.in-Comment.is) ∙ c.in-Some.ensures)) unclosed.1
    ∙ ap (λ f. Err f) (sym unclosed.0))
