use Rattle.std.proofs.Common.{◌∙◌, List, ℕ, sym, ap, subst}
use Rattle.std.specs.List.{Contains}
use Rattle.std.proofs.lemmas.List.{append-nil}
use Rattle.verdicts.specs.Indices.{IsAt}
use Rattle.zone_plans.proofs.GraphFacts.{item_inside}
use Rattle.plan_reports.specs.Found.{FoundLists}
use Rattle.plan_reports.proofs.PlaceFacts.{appended_more}
use Rattle.plan_reports.proofs.telling.push_step.Goals as goal

pub place_of-index-requires-clause-listed : goal.place_of-index-requires-clause-listed
place_of-index-requires-clause-listed c =
    let P : List (List ℕ) → Type 0 = λ l. Contains l c.id-item.result in
    let ids = c.deref.ensures.value ∙ ap (λ (f : FoundLists). f.ids) c.found.view_is in
    subst P (sym ids) (c.requires.listed c.id-item.result (item_inside c.args.step.now c.loop-id.id-index c.id-item.result c.loop-id-test.true c.id-item.is))

pub loop-id-init : goal.loop-id-init
loop-id-init c = λ content rows at told. sym (append-nil c.args.members.now.items)

pub loop-id-preserved : goal.loop-id-preserved
loop-id-preserved c = λ content rows at told.
    let index = c.place_of-index.result in
    let ids = c.deref.ensures.value ∙ ap (λ (f : FoundLists). f.ids) c.found.view_is in
    let A : List (List ℕ) → Type 0 = λ l. IsAt l c.id-item.result index in
    let stands = subst A ids c.place_of-index.ensures in
    appended_more (at c.args.number) c.args.members.now.items c.args.step.now c.loop-id.id-index c.id-item.result c.in_ok-told_at.field-0 c.loop-id.members.items c.push.new.self.items
    c.loop-id-test.true c.id-item.is (c.loop-id.invariant content rows at told)
    (c.in_ok-told_at.ensures content rows told.read ∙ sym (told.each c.args.number index stands.within) ∙ ap (at c.args.number) stands.is)
    c.in_ok-push.ensures.items

pub told_at-requires-clause-stands : goal.told_at-requires-clause-stands
told_at-requires-clause-stands c =
    let ids = c.deref.ensures.value ∙ ap (λ (f : FoundLists). f.ids) c.found.view_is in
    let A : List (List ℕ) → Type 0 = λ l. IsAt l c.id-item.result c.place_of-index.result in
    subst A ids c.place_of-index.ensures
