use Rattle.std.proofs.Common.{◌∙◌, [], ◌∷◌, ap}
use Rattle.std.proofs.lemmas.List.{map-append}
use Rattle.std.specs.Global.{Vec}
use Rattle.mcs_reader.specs.declared.id.Id.{Id}
use Rattle.catalogue.proofs.SourceFacts.{no_fault}
use Rattle.supersede.specs.Giving.{givers_of}
use Rattle.catalogue.proofs.TellingFacts.{tells_on}
use Rattle.supersede.proofs.ReachFacts.{has_from}
use Rattle.zone_plans.specs.Findings.{givers_or}
use Rattle.zone_plans.specs.Graphs.{lists_of}
use Rattle.zone_plans.proofs.ChoiceFacts.{map_more}
use Rattle.zone_plans.proofs.GraphFacts.{item_inside}
use Rattle.zone_plans.proofs.giving.givers_by.Goals as goal

pub loop-id-preserved : goal.loop-id-preserved
loop-id-preserved g c =
    tells_on g.met.P.Published.lawful c.loop-id.invariant c.in_ok-givers_at.ensures.asks.keeps (λ standing. c.in_ok-givers_at.ensures.asks.stays_open (no_fault _) standing) c.in_ok-givers_at.ensures.givers (λ content so_far is. λ f said.
    let ids = c.args.ids.now in
    let id = c.id-item.result in
    let listed = has_from ids id (item_inside ids c.loop-id.id-index id c.loop-id-test.true c.id-item.is) in
    map_more (λ id. givers_or (f id) (givers_of content id)) ids c.loop-id.id-index id c.in_ok-givers_at.field-0.items (lists_of c.loop-id.lists.items) (lists_of c.push.new.self.items)
    c.loop-id-test.true c.id-item.is (so_far f said)
    (is ∙ ap (λ answer. givers_or answer (givers_of content id)) (c.answer_among-answer.ensures f said listed))
    (ap lists_of c.in_ok-push.ensures.items ∙ map-append (λ (l : Vec Id). l.items) c.loop-id.lists.items (c.in_ok-givers_at.field-0 ∷ [])))
