use Rattle.bureau_program.specs.Served.{HasFailed}
use Rattle.bureau_program.proofs.BeginFacts.{asked_of}
use Rattle.bureau_program.proofs.law.which_calls.Goals as goal

pub returns : goal.returns
returns c rows before entries calls outcome = asked_of rows before entries calls (HasFailed outcome)
