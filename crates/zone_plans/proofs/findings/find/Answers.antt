use Rattle.std.proofs.Common.{◌∙◌, List, Option, ℕ, map, option_map, ap}
use Rattle.std.specs.Global.{Vec}
use Rattle.mcs_reader.specs.declared.id.Id.{Id}
use Rattle.catalogue.proofs.SourceFacts.{told_both, told_later, told_sooner}
use Rattle.catalogue.proofs.TellingFacts.{told_by_two}
use Rattle.verdicts.specs.Candidates.{candidates_unless_there}
use Rattle.zone_plans.specs.Findings.{known_givers}
use Rattle.zone_plans.specs.Graphs.{lists_of}
use Rattle.zone_plans.specs.Readings.{all_needs, reading_of}
use Rattle.zone_plans.proofs.FindingFacts.{found_so}
use Rattle.zone_plans.proofs.findings.find.Goals as goal

pub invariant_of-result : goal.invariant_of-result
invariant_of-result g c = record { ids = c.in_ok-ids.ensures.ascend; asked = c.in_ok-asked.ensures.ascend }

pub returns-clause-findings : goal.returns-clause-findings
returns-clause-findings g c =
    let law = g.met.P.Published.lawful in
    let first = law.keeps _ _ c.in_ok-ids.ensures.asks.keeps in
    let second = law.keeps _ _ c.in_ok-readings.ensures.asks.keeps in
    let both = law.keeps _ _ (law.on _ _ _ c.in_ok-ids.ensures.asks.keeps c.in_ok-readings.ensures.asks.keeps) in
    let third = law.keeps _ _ c.in_ok-answers.ensures.asks.keeps in
    let three = law.keeps _ _ (law.on _ _ _ (law.on _ _ _ c.in_ok-ids.ensures.asks.keeps c.in_ok-readings.ensures.asks.keeps) c.in_ok-answers.ensures.asks.keeps) in
    let fourth = law.keeps _ _ c.in_ok-givers.ensures.asks.keeps in
    let rows = c.args.zone.now in
    let items : Option (Vec Id) → Option (List (List ℕ)) = option_map (λ (ids : Vec Id). ids.items) in
    let read = told_both (told_sooner (told_both c.in_ok-ids.ensures.united c.in_ok-ids.ensures.right) second) (told_later first second c.in_ok-readings.ensures.readings) in
    told_by_two three fourth (told_both (told_sooner read third) (told_later both third (told_both c.in_ok-answers.ensures.candidates c.in_ok-answers.ensures.right))) c.in_ok-givers.ensures.givers (λ content facts givers. λ right.
    let on = facts.0.0.1 right in
    found_so content rows c.args.chosen.now c.in_ok-ids.ids.items c.in_ok-readings.readings.items (lists_of c.in_ok-givers.givers.items) c.in_ok-asked.asked.items (map items c.in_ok-answers.answers.items)
    (facts.0.0.0 right)
    (facts.0.1 ∙ ap (map (reading_of content rows)) c.deref.ensures.value)
    (givers (facts.1.1 on) ∙ ap (map (known_givers content rows)) c.deref-4.ensures.value)
    (c.in_ok-asked.ensures.needs ∙ ap all_needs c.deref-2.ensures.value)
    (facts.1.0 on ∙ ap (map (candidates_unless_there content rows)) c.deref-3.ensures.value))

pub returns-clause-right : goal.returns-clause-right
returns-clause-right g c =
    let law = g.met.P.Published.lawful in
    let second = law.keeps _ _ c.in_ok-readings.ensures.asks.keeps in
    let both = law.keeps _ _ (law.on _ _ _ c.in_ok-ids.ensures.asks.keeps c.in_ok-readings.ensures.asks.keeps) in
    let third = law.keeps _ _ c.in_ok-answers.ensures.asks.keeps in
    let three = law.keeps _ _ (law.on _ _ _ (law.on _ _ _ c.in_ok-ids.ensures.asks.keeps c.in_ok-readings.ensures.asks.keeps) c.in_ok-answers.ensures.asks.keeps) in
    told_by_two three (law.keeps _ _ c.in_ok-givers.ensures.asks.keeps) (told_both (told_sooner (told_sooner c.in_ok-ids.ensures.right second) third) (told_later both third c.in_ok-answers.ensures.right)) c.in_ok-givers.ensures.right (λ content facts givers. λ right. givers (facts.1 (facts.0 right)))
