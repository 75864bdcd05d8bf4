use Rattle.std.proofs.Common.{ap, fold, ◌∙◌}
use Rattle.std.proofs.lemmas.Result.{IfOk-weaker}
use Rattle.clap.specs.Words.{App}
use Rattle.command_line.specs.Commands.{with_command}
use Rattle.command_line.proofs.commands.command.Goals as goal

pub returns : goal.returns
returns c =
    let rows = c.subcommands.result.now in
    IfOk-weaker c.with_commands.result _ _ (λ command made. made ∙ ap (λ (above : App). fold with_command above rows) c.in_ok-program.ensures ∙ c.subcommands.ensures)
    c.with_commands.ensures
