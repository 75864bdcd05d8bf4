use Rattle.std.proofs.Common.{◌∙◌, ap, subst, sym}
use Rattle.chain_cache.specs.Cache.{CacheLists, IsFilled, IsRightFor, after_hit, has}
use Rattle.chain_cache.proofs.FillFacts.{filled_hit, lists_of, right_hit, same_frames}
use Rattle.chain_cache.proofs.cache.ChainCache.use_kept.Goals as goal

pub returns-clause-kept : goal.returns-clause-kept
returns-clause-kept c = c.promote.ensures.value ∙ ap (λ cache. has cache.entries c.args.id.now) c.self.view_is

pub returns-clause-hit : goal.returns-clause-hit
returns-clause-hit c = λ is.
    ap (λ frames. lists_of frames c.self.inside.built c.self.inside.surveys) c.promote.ensures.entries ∙ ap (after_hit c.args.id.now) c.self.view_is

pub returns-clause-filled : goal.returns-clause-filled
returns-clause-filled c = λ is.
    let id = c.args.id.now in
    let old = c.args.self.now in
    let hit = filled_hit id old (ap (λ cache. has cache.entries id) (sym c.self.view_is) ∙ sym c.promote.ensures.value ∙ is) in
    let P : CacheLists → Type 0 = λ cache. IsFilled id hit.frame old cache in
    (hit.frame, subst P (sym (ap (λ frames. lists_of frames c.self.inside.built c.self.inside.surveys) c.promote.ensures.entries ∙ ap (after_hit id) c.self.view_is)) hit.filled)

pub returns-clause-same : goal.returns-clause-same
returns-clause-same c = λ is.
    let id = c.args.id.now in
    let absent = sym c.promote.ensures.value ∙ is in
    ap (λ frames. lists_of frames c.self.inside.built c.self.inside.surveys) (c.promote.ensures.entries ∙ same_frames id c.self.inside.frames absent) ∙ c.self.view_is

pub returns-clause-right : goal.returns-clause-right
returns-clause-right c = λ content right.
    let id = c.args.id.now in
    let P : CacheLists → Type 0 = λ cache. IsRightFor cache content in
    subst P (sym (ap (λ frames. lists_of frames c.self.inside.built c.self.inside.surveys) c.promote.ensures.entries ∙ ap (after_hit id) c.self.view_is)) (right_hit content id c.args.self.now right)
