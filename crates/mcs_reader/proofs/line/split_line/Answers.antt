use Rattle.std.proofs.Common.{◌∷◌, drop, sym, ◌∙◌, ap}
use Rattle.mcs_reader.specs.Line.{lines}
use Rattle.mcs_reader.proofs.LineFacts.{lines-at, lines-whole}
use Rattle.mcs_reader.proofs.line.split_line.Goals as goal

pub returns-in-Some-clause-line : goal.returns-in-Some-clause-line
returns-in-Some-clause-line c =
    let s = c.args.source.now in
    let here = lines-at s c.in-Some.end c.in-Some.ensures.0.high c.in-Some.ensures.0.before c.in-Some.ensures.1 in
    here.0
    ∙ ap (λ line. line ∷ lines (drop 1 (drop c.in-Some.end s))) (sym c.split_at.ensures.front)
    ∙ ap (λ after. c.split_at.result.0.now ∷ lines after) (sym (c.split_at-in-Some.ensures.back ∙ ap (drop 1) c.split_at.ensures.back))

pub returns-in-Some-clause-one_line : goal.returns-in-Some-clause-one_line
returns-in-Some-clause-one_line c =
    let s = c.args.source.now in
    let here = lines-at s c.in-Some.end c.in-Some.ensures.0.high c.in-Some.ensures.0.before c.in-Some.ensures.1 in
    rw c.split_at.ensures.front here.1

pub returns-in-None-clause-line : goal.returns-in-None-clause-line
returns-in-None-clause-line c = (lines-whole c.args.source.now c.requires c.in-None.ensures).0

pub returns-in-None-clause-one_line : goal.returns-in-None-clause-one_line
returns-in-None-clause-one_line c = (lines-whole c.args.source.now c.requires c.in-None.ensures).1
