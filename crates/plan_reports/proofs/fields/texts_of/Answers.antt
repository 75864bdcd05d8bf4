use Rattle.std.proofs.Common.{◌∙◌, List, ℕ, [], ◌∷◌, Bor, ap}
use Rattle.std.proofs.lemmas.List.{map-append}
use Rattle.mcs_reader.specs.Bytes.{bytes_of_each}
use Rattle.mcs_reader.specs.Id.{text_of}
use Rattle.zone_plans.proofs.ChoiceFacts.{map_more}
use Rattle.plan_reports.proofs.fields.texts_of.Goals as goal

pub loop-id-preserved : goal.loop-id-preserved
loop-id-preserved c =
    let text = c.as_bytes.result in
    map_more text_of c.args.ids.now c.loop-id.id-index c.id-item.result text.now (bytes_of_each c.loop-id.texts.items) (bytes_of_each c.push.new.self.items)
    c.loop-id-test.true c.id-item.is c.loop-id.invariant c.as_bytes.ensures.value
    (ap bytes_of_each c.in_ok-push.ensures.items ∙ map-append (λ (slice : Bor (List ℕ)). slice.now) c.loop-id.texts.items (text ∷ []))
