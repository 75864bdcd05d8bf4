use Rattle.std.proofs.Common.{◌∙◌, ap, map, option_map}
use Rattle.std.specs.Global.{Vec}
use Rattle.lemmas.proofs.ResultFacts.{ok_so}
use Rattle.mcs_reader.specs.declared.id.Id.{Id}
use Rattle.catalogue.proofs.TellingFacts.{told_by_two}
use Rattle.verdicts.specs.Candidates.{candidates_unless_there}
use Rattle.zone_plans.proofs.giving.givers_of_all.Goals as goal

pub returns-clause-givers : goal.returns-clause-givers
returns-clause-givers g c =
    let law = g.met.P.Published.lawful in
    let first = law.keeps _ _ c.in_ok-answers.ensures.asks.keeps in
    let second = law.keeps _ _ c.givers_by.ensures.asks.keeps in
    ok_so c.givers_by.result c.givers_by.ensures.givers (λ lists by.
    told_by_two first second c.in_ok-answers.ensures.candidates by (λ content said by right.
    by (candidates_unless_there content c.args.zone.now) (ap (map (option_map (λ (ids : Vec Id). ids.items))) c.deref.ensures.value ∙ said right)))
