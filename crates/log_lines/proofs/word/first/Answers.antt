use Rattle.std.proofs.Common.{sym}
use Rattle.std.proofs.lemmas.List.{take_all}
use Rattle.log_lines.proofs.word.first.Goals as goal

pub returns-then-text-le-MOST-clause-first : goal.returns-then-text-le-MOST-clause-first
returns-then-text-le-MOST-clause-first c = sym (take_all 64 c.args.text.now c.if-text-le-MOST.true)
