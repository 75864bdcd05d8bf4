use Rattle.std.proofs.Common.{take, ◌∙◌, ap}
use Rattle.std.proofs.lemmas.List.{take_min}
use Rattle.mcs_reader.proofs.line.columns_of.Goals as goal

pub returns : goal.returns
returns c =
    let line = c.without_return-line.result.now in
    c.split_at.ensures.front ∙ ap (λ n. take n line) c.min.ensures ∙ take_min 72 line ∙ ap (take 72) c.without_return-line.ensures
