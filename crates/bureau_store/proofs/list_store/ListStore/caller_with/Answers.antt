use Rattle.std.proofs.Common.{◌∙◌, subst, sym}
use Rattle.std.specs.Prelude.{IfSome, Option}
use Rattle.bureau_store.specs.Caller.{IsProper}
use Rattle.bureau_store.specs.declared.caller.Caller.{Caller}
use Rattle.bureau_store.proofs.ProperFacts.{told_proper}
use Rattle.bureau_store.proofs.list_store.ListStore.caller_with.Goals as goal

pub returns-clause-proper : goal.returns-clause-proper
returns-clause-proper c =
    subst (λ (found : Option Caller). IfSome found IsProper)
    (sym (c.copied.ensures ∙ c.get.ensures.value ∙ c.self.invariant.tokens c.args.token.now))
    (told_proper c.self.inside.rows.items c.args.token.now)
