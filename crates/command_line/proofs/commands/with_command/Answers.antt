use Rattle.std.proofs.Common.{ap, ◌∙◌}
use Rattle.std.proofs.lemmas.Result.{IfOk-weaker}
use Rattle.clap.specs.Words.{App, app_of, with_subcommand}
use Rattle.command_line.specs.Commands.{with_command}
use Rattle.command_line.proofs.commands.with_command.Goals as goal

pub returns : goal.returns
unfolding with_command
returns c =
    let below = c.in_ok-command_of.ensures in
    IfOk-weaker c.subcommand.result _ _ (λ more adds. adds.shape below.local ∙ ap (λ (app : App). with_subcommand (app_of c.args.program) app.top) below.app) c.subcommand.ensures
