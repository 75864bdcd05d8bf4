use Rattle.std.proofs.Common.{◌∙◌, sym, ap, subst}
use Rattle.catalogue.specs.Ids.{Ascend}
use Rattle.zone_plans.specs.Findings.{FindingLists, known_givers}
use Rattle.zone_plans.specs.Graphs.{lists_of}
use Rattle.zone_plans.proofs.FindingFacts.{looked_up}
use Rattle.zone_plans.proofs.findings.Findings.givers.Goals as goal

pub list_among-requires : goal.list_among-requires
list_among-requires c = subst Ascend (sym c.deref.ensures.value) c.self.invariant.ids

pub returns : goal.returns
returns c = λ content rows are inside.
    looked_up c.deref.result.now c.args.self.now.ids c.args.id.now (known_givers content rows) c.list_among.ensures (c.deref.ensures.value ∙ ap (λ (f : FindingLists). f.ids) c.self.view_is)
    (ap lists_of c.deref-2.ensures.value ∙ ap (λ (f : FindingLists). f.givers) (c.self.view_is ∙ are)) inside
