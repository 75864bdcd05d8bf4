use Rattle.std.proofs.Common.{◌∙◌, List, ap}
use Rattle.lemmas.proofs.ResultFacts.{ok_so}
use Rattle.plan_reports.specs.Members.{MemberLists}
use Rattle.plan_reports.specs.Replies.{written_as}
use Rattle.plan_reports.proofs.told.told_as.Goals as goal

pub returns : goal.returns
returns c =
    ok_so c.written_as.result c.written_as.ensures (λ text is. λ content rows holds plan.
    is ∙ ap (λ (l : List MemberLists). written_as c.args.form c.args.report c.args.name.now l c.args.plan.now) (c.deref.ensures.value ∙ c.in_ok-members.ensures content rows holds plan))
