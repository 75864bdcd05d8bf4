use Rattle.std.proofs.Common.{◌≡◌, ◌∙◌, ℕ, List, Option, Some, cond, ap, sym, rules}
use Rattle.std.specs.BTreeMap.{BTreeMap, is_at}
use Rattle.std.specs.Cmp.Lexicographic.{slice_cmp}
use Rattle.std.specs.Map.{lookup}
use Rattle.std.specs.Option.{unwrap_or}
use Rattle.std.specs.Ordering.{nat_cmp}
use Rattle.bureau_store.specs.Effects.{effect_as}
use Rattle.bureau_store.specs.Lists.{ClientTable, client_after, nothing_sent}
use Rattle.bureau_store.proofs.TableFacts.{change_made, nothing_made, on_err, on_ok, order_kept}
use Rattle.bureau_store.proofs.clients.make_for.Goals as goal

pub returns-in-Some-clause-done : goal.returns-in-Some-clause-done
returns-in-Some-clause-done c =
    on_ok c.make.result c.make.ensures.done (
    change_made c.args.clients.now.entries (c.get_mut.follows.lender c.make.new.self).entries c.args.client.now c.in-Some.kept.now c.make.new.self (client_after (effect_as c.args.effect.now) c.args.last)
    (ap (λ (o : Option ClientTable). unwrap_or o nothing_sent) (sym c.in-Some.ensures.value)) (((c.get_mut.follows.holds c.make.new.self).3 (search rules)).0)
    )

pub returns-in-Some-clause-ordered : goal.returns-in-Some-clause-ordered
returns-in-Some-clause-ordered c =
    order_kept c.args.clients.now.entries (c.get_mut.follows.lender c.make.new.self).entries c.args.client.now c.make.new.self (((c.get_mut.follows.holds c.make.new.self).3 (search rules)).0) c.make.ensures.ascend

pub returns-in-Some-clause-err : goal.returns-in-Some-clause-err
returns-in-Some-clause-err c =
    on_err c.make.result c.make.ensures.err (
    nothing_made c.args.clients.now.entries (c.get_mut.follows.lender c.make.new.self).entries c.args.client.now c.in-Some.kept.now c.make.new.self
    (ap (λ (o : Option ClientTable). unwrap_or o nothing_sent) (sym c.in-Some.ensures.value)) (((c.get_mut.follows.holds c.make.new.self).3 (search rules)).0)
    )

pub returns-clause-done : goal.returns-clause-done
returns-clause-done c =
    let same : c.get_mut.follows.lender-at-none.entries ≡ c.args.clients.now.entries = ap (λ (m : BTreeMap (List ℕ) ClientTable). m.entries) c.get_mut.follows.holds-at-none in
    change_made c.args.clients.now.entries c.insert.new.self.entries c.args.client.now nothing_sent c.make-2.new.self (client_after (effect_as c.args.effect.now) c.args.last)
    (ap (λ (o : Option ClientTable). unwrap_or o nothing_sent) (sym c.in_default.ensures.value))
    (λ name. c.in_ok-insert.ensures.updates.0 name ∙ ap (λ (es : List (List ℕ × ClientTable)). cond (is_at (slice_cmp nat_cmp c.args.client.now) name) (Some c.make-2.new.self) (lookup (is_at (slice_cmp nat_cmp name)) es)) same)
    (c.in_ok-make.ensures.done ∙ ap (λ (t : ClientTable). client_after (effect_as c.args.effect.now) c.args.last t) c.new-kept.ensures)

pub returns-clause-ordered : goal.returns-clause-ordered
returns-clause-ordered c =
    let same : c.get_mut.follows.lender-at-none.entries ≡ c.args.clients.now.entries = ap (λ (m : BTreeMap (List ℕ) ClientTable). m.entries) c.get_mut.follows.holds-at-none in
    order_kept c.args.clients.now.entries c.insert.new.self.entries c.args.client.now c.make-2.new.self
    (λ name. c.in_ok-insert.ensures.updates.0 name ∙ ap (λ (es : List (List ℕ × ClientTable)). cond (is_at (slice_cmp nat_cmp c.args.client.now) name) (Some c.make-2.new.self) (lookup (is_at (slice_cmp nat_cmp name)) es)) same)
    c.make-2.ensures.ascend
