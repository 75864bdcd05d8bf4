use Rattle.std.proofs.Common.{◌∙◌, ◌<◌, List, [], ℕ, length, ap, arith}
use Rattle.lemmas.proofs.ListFacts.{get_any}
use Rattle.catalogue.specs.Ids.{put_among}
use Rattle.reports.proofs.ResolverFacts.{named_more}
use Rattle.plan_reports.proofs.listing.members_in.Goals as goal

pub loop-index-preserved : goal.loop-index-preserved
loop-index-preserved c =
    let steps = c.args.steps.now in
    let i = c.loop-index.index in
    let step = c.in_ok-step.step.items in
    let below : i < length steps = omega (arith, c.loop-index-test.true, c.len-index-end.ensures) in
    named_more (λ (s : List (List ℕ)). s) steps i step c.loop-index.found.keys c.put_all.new.found.keys below
    (c.in_ok-step.ensures ∙ get_any steps i [] step below) c.loop-index.invariant
    (c.in_ok-put_all.ensures ∙ ap (put_among c.loop-index.found.keys) c.deref.ensures.value)
