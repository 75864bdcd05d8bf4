use Rattle.std.proofs.Common.{◌∙◌, ap, slice_get, subst, sym}
use Rattle.lemmas.proofs.ResultFacts.{ok_so}
use Rattle.requisites.proofs.LeadsFacts.{leads_itself}
use Rattle.chains.specs.Frames.{FrameLists, IsFrame, StepsTo}
use Rattle.chain_cache.proofs.EntryFacts.{same_value}
use Rattle.chain_cache.proofs.cache.ChainCache.first_verdict.Goals as goal

pub returns : goal.returns
returns c = ok_so c.plan.result c.plan.ensures.verdict (λ verdict planned frame content first is.
    let id = c.args.id.now in
    let P : FrameLists → Type 0 = λ f. IsFrame content id f in
    let same = same_value (c.in-Some.field-0-0.now, c.in-Some.frame.now) (id, frame) (c.in-Some.ensures ∙ ap (λ cache. slice_get cache.entries 0) c.self.view_is ∙ first) in
    let here : IsFrame content id c.in-Some.frame.now = subst P (sym same) is in
    planned content id here ((here.reached id).1 (leads_itself (StepsTo content) id)))
