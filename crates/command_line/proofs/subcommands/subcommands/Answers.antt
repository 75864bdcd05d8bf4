use Rattle.std.proofs.Common.{refl}
use Rattle.command_line.specs.Commands.{with_argument, with_command}
use Rattle.command_line.proofs.subcommands.subcommands.Goals as goal

pub returns : goal.returns
unfolding with_argument with_command
returns c = refl
