use Rattle.std.proofs.Common.{◌≡◌, ◌∙◌, List, ℕ, map, option_map, sym, ap, subst}
use Rattle.std.specs.Global.{Vec}
use Rattle.mcs_reader.specs.declared.id.Id.{Id}
use Rattle.catalogue.specs.Ids.{Ascend}
use Rattle.verdicts.specs.Candidates.{candidates_unless_there}
use Rattle.verdicts.specs.United.{united}
use Rattle.zone_plans.specs.Findings.{FindingLists, known_givers}
use Rattle.zone_plans.specs.Graphs.{AreWithin, ids_of_steps, lists_of}
use Rattle.zone_plans.specs.Members.{AreZoneSteps}
use Rattle.zone_plans.specs.Readings.{all_needs, reading_of}
use Rattle.zone_plans.proofs.steps.zone_steps.Goals as goal

pub step_rows-requires-clause-ascend : goal.step_rows-requires-clause-ascend
step_rows-requires-clause-ascend c = subst Ascend (sym c.deref.ensures.value) c.findings.invariant.ids

pub step_rows-requires-clause-asked : goal.step_rows-requires-clause-asked
step_rows-requires-clause-asked c = subst Ascend (sym c.deref-4.ensures.value) c.findings.invariant.asked

pub invariant_of-result : goal.invariant_of-result
invariant_of-result c =
    let P : List (List ℕ) → Type 0 = λ l. AreWithin l c.in_ok-rows.rows in
    subst P (c.deref.ensures.value ∙ sym c.in_ok-ids.ensures) c.in_ok-rows.ensures.within

pub returns : goal.returns
returns c = λ content rows are good.
    let chosen = c.args.chosen.now in
    let all = united content rows chosen in
    let so = c.findings.view_is ∙ are in
    let ids : c.deref.result.now ≡ united content rows c.args.chosen.now = c.deref.ensures.value ∙ ap (λ (f : FindingLists). f.ids) so in
    let read : c.deref-3.result.now ≡ map (reading_of content rows) all = c.deref-3.ensures.value ∙ ap (λ (f : FindingLists). f.readings) so in
    let asked : c.deref-4.result.now ≡ all_needs (map (reading_of content rows) all) = c.deref-4.ensures.value ∙ ap (λ (f : FindingLists). f.asked) so in
    let P : List (List ℕ) → Type 0 = λ l. AreZoneSteps content rows chosen (ids_of_steps l c.in_ok-rows.rows) in
    subst P (c.deref.ensures.value ∙ sym c.in_ok-ids.ensures)
    (c.in_ok-rows.ensures.steps content rows ids
    (ap lists_of c.deref-2.ensures.value ∙ ap (λ (f : FindingLists). f.givers) so ∙ ap (map (known_givers content rows)) (sym ids))
    (read ∙ ap (map (reading_of content rows)) (sym ids))
    (asked ∙ ap all_needs (sym read))
    (ap (map (option_map (λ (ids : Vec Id). ids.items))) c.deref-5.ensures.value ∙ ap (λ (f : FindingLists). f.answers) so ∙ ap (map (candidates_unless_there content rows)) (sym asked))
    good)
