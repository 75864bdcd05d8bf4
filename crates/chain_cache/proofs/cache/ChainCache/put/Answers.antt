use Rattle.std.proofs.Common.{◌∙◌, ap, subst, sym}
use Rattle.chain_cache.specs.Cache.{CacheLists, IsFilled, IsRightFor, after_miss, has}
use Rattle.chain_cache.proofs.FillFacts.{filled_miss, lists_of, on_err, put_is, right_miss}
use Rattle.chain_cache.proofs.cache.ChainCache.put.Goals as goal

pub returns-in_err-put-clause-err : goal.returns-in_err-put-clause-err
returns-in_err-put-clause-err c =
    on_err c.from_residual.result _ (ap (λ frames. lists_of frames c.self.inside.built c.self.inside.surveys) c.in_err-put.ensures.err ∙ c.self.view_is)

pub returns-clause-filled : goal.returns-clause-filled
returns-clause-filled c =
    let id = c.args.id.now in
    let old = c.args.self.now in
    let before = c.self.inside.frames in
    let absent = ap (λ cache. has cache.entries id) c.self.view_is ∙ c.requires in
    let after = put_is id c.args.built before c.put.new.self c.self.inside.built _ c.self.inside.surveys absent c.in_ok-put.ensures.entries c.saturating_add-self-inside.ensures ∙ ap (after_miss id c.args.built) c.self.view_is in
    let P : CacheLists → Type 0 = λ cache. IsFilled id c.args.built old cache in
    subst P (sym after) (filled_miss id c.args.built old c.requires)

pub returns-clause-right : goal.returns-clause-right
returns-clause-right c = λ content right is.
    let id = c.args.id.now in
    let before = c.self.inside.frames in
    let absent = ap (λ cache. has cache.entries id) c.self.view_is ∙ c.requires in
    let after = put_is id c.args.built before c.put.new.self c.self.inside.built _ c.self.inside.surveys absent c.in_ok-put.ensures.entries c.saturating_add-self-inside.ensures ∙ ap (after_miss id c.args.built) c.self.view_is in
    let P : CacheLists → Type 0 = λ cache. IsRightFor cache content in
    subst P (sym after) (right_miss content id c.args.built c.args.self.now right is)
