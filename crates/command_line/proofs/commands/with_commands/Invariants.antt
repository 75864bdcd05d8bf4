-- the program has the commands of the rows so far
use Rattle.std.proofs.Common.{◌≡◌, fold, take}
use Rattle.clap.specs.Words.{app_of}
use Rattle.command_line.specs.Commands.{with_command}
use Rattle.command_line.proofs.commands.with_commands.Given as goal

abbrev pub invariant-loop-row : goal.invariant-loop-row
invariant-loop-row l = app_of l.program ≡ fold with_command (app_of l.initial.program) (take l.row-index l.rows)
