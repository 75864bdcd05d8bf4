use Rattle.std.proofs.Common.{refl}
use Rattle.requisites.proofs.LeadsFacts.{leads_itself}
use Rattle.chains.specs.Frames.{StepsTo}
use Rattle.file_reports.proofs.texts.verdict_in.Goals as goal

-- a frame has the SYSMOD from which it begins
pub returns-in_ok-plan-in-Some-clause-verdict : goal.returns-in_ok-plan-in-Some-clause-verdict
returns-in_ok-plan-in-Some-clause-verdict c =
    let content = c.args.content.now in
    let id = c.args.sysmod.now in
    let tells = rw c.in-Some.is at c.in_ok-frame.ensures.frame in
    let is = tells.told c.requires tt content refl in
    c.in_ok-plan-in-Some.ensures.verdict content id is ((is.reached id).1 (leads_itself (StepsTo content) id))
