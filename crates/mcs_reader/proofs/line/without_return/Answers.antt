use Rattle.std.proofs.Common.{sym, ◌∙◌, arith}
use Rattle.mcs_reader.proofs.LineFacts.{without_return-return, without_return-none, without_return-empty}
use Rattle.mcs_reader.proofs.line.without_return.Goals as goal
use Rattle.mcs_reader.proofs.line.without_return.Goals.{else-len-gt0-via-then-len-gt0+else-line-len-eq13, else-len-gt0-via-else-len-gt0}

pub returns-then-line-len-eq13 : goal.returns-then-line-len-eq13
returns-then-line-len-eq13 c =
    let line = c.args.line.now in
    c.split_at.ensures.front ∙ sym (without_return-return line (omega arith) c.if-line-len-eq13.true)

pub returns-else-len-gt0 : goal.returns-else-len-gt0
returns-else-len-gt0 c =
    elim c.else-len-gt0.branch [
      | else-len-gt0-via-then-len-gt0+else-line-len-eq13 w ↦ sym (without_return-none c.args.line.now w.if-len-gt0.true w.if-line-len-eq13.false)
      | else-len-gt0-via-else-len-gt0 w ↦ sym (without_return-empty c.args.line.now w.if-len-gt0.false)
    ]
