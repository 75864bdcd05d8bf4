use Rattle.std.proofs.Common.{◌≡◌, refl, subst, sym}
use Rattle.bureau_store.specs.Effect.{tables_after}
use Rattle.bureau_store.specs.Effects.{effect_as, maker_of}
use Rattle.bureau_store.specs.Lists.{Lists, tables_of}
use Rattle.bureau_store.specs.declared.caller.Caller.{Caller}
use Rattle.bureau_store.proofs.StoreFacts.{client_kept, client_made, client_ordered}
use Rattle.bureau_store.proofs.TableFacts.{client_private, on_err, on_ok}
use Rattle.bureau_store.proofs.list_store.ListStore.make_client.Goals as goal

pub returns-clause-done : goal.returns-clause-done
returns-clause-done c =
    let old : Lists = record { callers = c.self.inside.rows.items; content = c.self.inside.published; publisher = c.self.inside.published_last; clients = c.self.inside.by_name.entries } in
    let new : Lists = record { callers = c.self.inside.rows.items; content = c.self.inside.published; publisher = c.self.inside.published_last; clients = c.make_for.new.clients.entries } in
    on_ok c.make_for.result c.make_for.ensures.done (λ made.
    subst (λ (was : Lists). tables_of new ≡ tables_after (maker_of c.args.effect.now) (effect_as c.args.effect.now) c.args.last (tables_of was)) c.self.view_is (
    subst (λ (maker : Caller). tables_of new ≡ tables_after maker (effect_as c.args.effect.now) c.args.last (tables_of old)) (sym c.requires.client) (
    client_made c.args.client.now (effect_as c.args.effect.now) c.args.last old new (client_private c.args.effect.now c.args.client.now c.requires.client) refl refl refl made
    )))

pub returns-clause-err : goal.returns-clause-err
returns-clause-err c =
    let old : Lists = record { callers = c.self.inside.rows.items; content = c.self.inside.published; publisher = c.self.inside.published_last; clients = c.self.inside.by_name.entries } in
    let new : Lists = record { callers = c.self.inside.rows.items; content = c.self.inside.published; publisher = c.self.inside.published_last; clients = c.make_for.new.clients.entries } in
    on_err c.make_for.result c.make_for.ensures.err (λ same. subst (λ (was : Lists). tables_of new ≡ tables_of was) c.self.view_is (client_kept old new refl refl refl same))

pub invariant_of-self : goal.invariant_of-self
invariant_of-self c =
    let old : Lists = record { callers = c.self.inside.rows.items; content = c.self.inside.published; publisher = c.self.inside.published_last; clients = c.self.inside.by_name.entries } in
    let new : Lists = record { callers = c.self.inside.rows.items; content = c.self.inside.published; publisher = c.self.inside.published_last; clients = c.make_for.new.clients.entries } in
    record { tokens = c.self.invariant.tokens; ours = record { in_order = client_ordered old new refl c.make_for.ensures.ordered c.self.invariant.ours.in_order } }

pub returns-clause-ours : goal.returns-clause-ours
returns-clause-ours c =
    let old : Lists = record { callers = c.self.inside.rows.items; content = c.self.inside.published; publisher = c.self.inside.published_last; clients = c.self.inside.by_name.entries } in
    let new : Lists = record { callers = c.self.inside.rows.items; content = c.self.inside.published; publisher = c.self.inside.published_last; clients = c.make_for.new.clients.entries } in
    record { in_order = client_ordered old new refl c.make_for.ensures.ordered c.self.invariant.ours.in_order }
