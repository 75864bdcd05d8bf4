use Rattle.std.proofs.Common.{◌∙◌, List, ℕ, ap}
use Rattle.std.specs.Global.{Vec}
use Rattle.std.specs.List.{slice_get}
use Rattle.mcs_reader.specs.declared.id.Id.{Id}
use Rattle.reports.proofs.ResolverFacts.{get_unmapped, get_mapped}
use Rattle.reports.proofs.among.list_among.Goals as goal

pub returns-in-Some : goal.returns-in-Some
returns-in-Some c = λ f are among.
    let items = λ (list : Vec Id). list.items in
    let at = get_mapped f c.args.asked.now c.in-Some.at c.args.id.now c.in-Some.ensures.index in
    let found = get_unmapped items c.args.lists.now c.in-Some.at (f c.args.id.now) (ap (λ (lists : List (List (List ℕ))). slice_get lists c.in-Some.at) are ∙ at) in
    ap items (c.list_at.ensures found.0 found.1) ∙ found.2
