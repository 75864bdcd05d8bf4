use Rattle.std.proofs.Common.{ap, subst}
use Rattle.std.specs.Prelude.{is_err}
use Rattle.catalogue.proofs.SourceFacts.{told_so}
use Rattle.bureau.specs.Calls.{call_as}
use Rattle.bureau.specs.Outcomes.{IsOutcome}
use Rattle.bureau.proofs.AnswerFacts.{answer_decided, change_made, change_not_made, no_answer, none_decided}
use Rattle.bureau.proofs.bureau.reply_to.Goals as goal

pub returns-in_err-reply : goal.returns-in_err-reply
returns-in_err-reply g c =
    none_decided g.S.Store.tables_view g.J.Judge.is_right _ (no_answer c.from_residual.result c.from_residual.ensures.0) (g.met.S.Store.tables_lawful.keeps _ _ c.in_err-reply.ensures.keeps) c.in_err-reply.ensures.right

pub returns-in_err-commit-in-Accepted : goal.returns-in_err-commit-in-Accepted
returns-in_err-commit-in-Accepted g c =
    change_not_made g.S.Store.tables_view g.J.Judge.is_right c.decide.new.judge _ c.commit.result c.in-Accepted.change (g.met.S.Store.tables_lawful.keeps _ _ c.in_ok-reply.ensures.keeps)
    (told_so c.in_ok-reply.ensures.outcome (λ this so right. subst (IsOutcome c.args.caller.now (call_as c.args.call.now) this) c.in-Accepted.is (so right)))
    c.in_ok-reply.ensures.right c.commit.ensures.makes (ap is_err c.in_err-commit-in-Accepted.was)
    (no_answer c.from_residual-in_err-commit-in-Accepted.result c.from_residual-in_err-commit-in-Accepted.ensures.0) c.commit.ensures.right

pub returns-in-Answered : goal.returns-in-Answered
returns-in-Answered g c =
    answer_decided g.S.Store.tables_view g.J.Judge.is_right _ c.in-Answered.reply (g.met.S.Store.tables_lawful.keeps _ _ c.in_ok-reply.ensures.keeps)
    (told_so c.in_ok-reply.ensures.outcome (λ this so right. subst (IsOutcome c.args.caller.now (call_as c.args.call.now) this) c.in-Answered.is (so right)))
    c.in_ok-reply.ensures.right c.in_ok-reply.ensures.told

pub returns-in_ok-commit-in-Accepted : goal.returns-in_ok-commit-in-Accepted
returns-in_ok-commit-in-Accepted g c =
    change_made g.S.Store.tables_view g.J.Judge.is_right c.decide.new.judge _ c.commit.result c.in-Accepted.change (g.met.S.Store.tables_lawful.keeps _ _ c.in_ok-reply.ensures.keeps)
    (told_so c.in_ok-reply.ensures.outcome (λ this so right. subst (IsOutcome c.args.caller.now (call_as c.args.call.now) this) c.in-Accepted.is (so right)))
    c.in_ok-reply.ensures.right c.commit.ensures.makes _ c.text.result c.in_ok-commit-in-Accepted.was c.text.ensures g.met.S.Store.tables_in_order c.commit.ensures.ready
