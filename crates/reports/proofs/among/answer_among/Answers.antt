use Rattle.std.proofs.Common.{◌∙◌, Option, ap, option_map}
use Rattle.std.specs.Global.{Vec}
use Rattle.std.specs.List.{slice_get}
use Rattle.mcs_reader.specs.declared.id.Id.{Id}
use Rattle.reports.proofs.ResolverFacts.{get_mapped, get_unmapped}
use Rattle.reports.proofs.among.answer_among.Goals as goal

pub returns-in-Some : goal.returns-in-Some
returns-in-Some c = λ f are among.
    let items = λ (answer : Option (Vec Id)). option_map (λ ids. ids.items) answer in
    let at = get_mapped f c.args.asked.now c.in-Some.at c.args.id.now c.in-Some.ensures.index in
    let found = get_unmapped items c.args.answers.now c.in-Some.at (f c.args.id.now) (ap (λ answers. slice_get answers c.in-Some.at) are ∙ at) in
    ap items (c.answer_at.ensures found.0 found.1) ∙ found.2
