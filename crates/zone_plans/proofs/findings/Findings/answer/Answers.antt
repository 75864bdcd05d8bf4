use Rattle.std.proofs.Common.{◌∙◌, map, option_map, sym, ap, subst}
use Rattle.std.specs.Global.{Vec}
use Rattle.mcs_reader.specs.declared.id.Id.{Id}
use Rattle.catalogue.specs.Ids.{Ascend}
use Rattle.verdicts.specs.Candidates.{candidates_unless_there}
use Rattle.zone_plans.specs.Findings.{FindingLists}
use Rattle.zone_plans.proofs.FindingFacts.{looked_up}
use Rattle.zone_plans.proofs.findings.Findings.answer.Goals as goal

pub answer_among-requires : goal.answer_among-requires
answer_among-requires c = subst Ascend (sym c.deref.ensures.value) c.self.invariant.asked

pub returns : goal.returns
returns c = λ content rows are inside.
    looked_up c.deref.result.now c.args.self.now.asked c.args.need.now (candidates_unless_there content rows) c.answer_among.ensures (c.deref.ensures.value ∙ ap (λ (f : FindingLists). f.asked) c.self.view_is)
    (ap (map (option_map (λ (ids : Vec Id). ids.items))) c.deref-2.ensures.value ∙ ap (λ (f : FindingLists). f.answers) (c.self.view_is ∙ are) ∙ ap (map (candidates_unless_there content rows)) (sym (ap (λ (f : FindingLists). f.asked) are))) inside
