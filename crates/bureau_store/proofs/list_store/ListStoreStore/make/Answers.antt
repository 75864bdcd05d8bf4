use Rattle.std.proofs.Common.{◌≡◌, ◌∙◌, ℕ, List, ap, subst, sym}
use Rattle.bureau_store.specs.Effect.{publication, tables_after}
use Rattle.bureau_store.specs.Effects.{effect_as, maker_of}
use Rattle.bureau_store.specs.Lists.{tables_of}
use Rattle.bureau_store.specs.Tables.{LastChange}
use Rattle.bureau_store.specs.declared.caller.Caller.TheVariants.{Publisher}
use Rattle.bureau_store.specs.declared.effect.Effect.{Effect}
use Rattle.bureau_store.proofs.TableFacts.{on_any_err}
use Rattle.bureau_store.proofs.list_store.ListStoreStore.make.Goals as goal

pub returns-in_ok-make_publication-in-Publication-clause-done : goal.returns-in_ok-make_publication-in-Publication-clause-done
returns-in_ok-make_publication-in-Publication-clause-done c =
    let said : List ℕ → LastChange = λ reply. record { number = c.args.number; reply = reply } in
    let last_is : c.new-last.result ≡ said c.args.reply.now = c.new-last.ensures ∙ ap said c.in_ok-from_slice.ensures.items in
    subst (λ (effect : Effect). tables_of c.make_publication.new.self ≡ tables_after (maker_of effect) (effect_as effect) (said c.args.reply.now) (tables_of c.args.self.now)) (sym c.in-Publication.is) (
    subst (λ (last : LastChange). tables_of c.make_publication.new.self ≡ tables_after Publisher (publication c.in-Publication.changes.now) last (tables_of c.args.self.now)) last_is
    c.in_ok-make_publication-in-Publication.ensures.done
    )

pub returns-in_ok-make_client-in-ZonePut-clause-done : goal.returns-in_ok-make_client-in-ZonePut-clause-done
returns-in_ok-make_client-in-ZonePut-clause-done c =
    let said : List ℕ → LastChange = λ reply. record { number = c.args.number; reply = reply } in
    let last_is : c.new-last.result ≡ said c.args.reply.now = c.new-last.ensures ∙ ap said c.in_ok-from_slice.ensures.items in
    subst (λ (last : LastChange). tables_of c.make_client.new.self ≡ tables_after (maker_of c.args.effect.now) (effect_as c.args.effect.now) last (tables_of c.args.self.now)) last_is
    c.in_ok-make_client-in-ZonePut.ensures.done

pub returns-in_err-make_publication-in-Publication-clause-err : goal.returns-in_err-make_publication-in-Publication-clause-err
returns-in_err-make_publication-in-Publication-clause-err c = on_any_err _ c.in_err-make_publication-in-Publication.ensures.err
