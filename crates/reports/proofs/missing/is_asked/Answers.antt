use Rattle.std.proofs.Common.{◌∙◌, ap}
use Rattle.std.specs.List.{list_any}
use Rattle.mcs_reader.specs.Bytes.{bytes_of_each}
use Rattle.reports.proofs.MissingFacts.{any_lent, matched}
use Rattle.reports.proofs.missing.is_asked.Goals as goal

pub returns : goal.returns
returns c =
    let matches = matched c.args.patterns.now in
    c.any_matched.ensures ∙ any_lent matches c.deref.result.now ∙ ap (list_any matches) (ap bytes_of_each c.deref.ensures.value ∙ c.in_ok-categories.ensures.texts)
