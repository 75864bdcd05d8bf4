use Rattle.std.proofs.Common.{◌∙◌, sym, ap, subst}
use Rattle.catalogue.specs.Ids.{Ascend}
use Rattle.zone_plans.specs.Findings.{FindingLists}
use Rattle.zone_plans.specs.Readings.{reading_of}
use Rattle.zone_plans.proofs.FindingFacts.{looked_up}
use Rattle.zone_plans.proofs.findings.Findings.reading.Goals as goal

pub reading_among-requires : goal.reading_among-requires
reading_among-requires c = subst Ascend (sym c.deref.ensures.value) c.self.invariant.ids

pub returns : goal.returns
returns c = λ content rows are inside.
    looked_up c.deref.result.now c.args.self.now.ids c.args.id.now (reading_of content rows) c.reading_among.ensures (c.deref.ensures.value ∙ ap (λ (f : FindingLists). f.ids) c.self.view_is)
    (c.deref-2.ensures.value ∙ ap (λ (f : FindingLists). f.readings) (c.self.view_is ∙ are)) inside
