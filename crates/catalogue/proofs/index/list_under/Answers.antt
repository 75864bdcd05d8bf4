use Rattle.std.proofs.Common.{◌++◌, [], ◌∷◌, refl, cond, ◌∙◌, ap, subst, Some}
use Rattle.std.specs.BTreeMap.{get, is_at}
use Rattle.catalogue.specs.Ids.{id_cmp}
use Rattle.std.specs.Prelude.{IsSome}
use Rattle.catalogue.specs.ListPublished.{listed}
use Rattle.catalogue.proofs.IndexFacts.{Lists, put_under}
use Rattle.catalogue.proofs.index.list_under.Goals as goal

pub returns-in-Some : goal.returns-in-Some
returns-in-Some c =
    put_under c.args.index.now (c.get_mut.follows.lender c.push.new.self) c.args.under c.args.id c.push.new.self
    (c.in_ok-push.ensures.items ∙ ap (λ o. listed o ++ c.args.id ∷ []) c.in-Some.ensures.value)
    ((c.get_mut.follows.holds c.push.new.self).3 (subst (λ o. IsSome o) c.in-Some.ensures.value refl)).0

pub returns : goal.returns
returns c =
    let n = c.get_mut.follows.holds-at-none in
    put_under c.args.index.now c.insert.new.self c.args.under c.args.id c.push-2.new.self
    (c.in_ok-push-2.ensures.items ∙ ap (λ ids. ids ++ c.args.id ∷ []) (c.in_ok-ids.ensures.items ∙ ap listed c.in_default.ensures.value))
    (λ q. c.in_ok-insert.ensures.updates.0 q ∙ ap (λ (m : Lists). cond (is_at (id_cmp c.args.under) q) (Some c.push-2.new.self) (get id_cmp m q)) n)
