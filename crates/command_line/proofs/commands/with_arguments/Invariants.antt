-- the command has the arguments so far
use Rattle.std.proofs.Common.{◌≡◌, fold, take}
use Rattle.clap.specs.Words.{app_of}
use Rattle.clap.specs.declared.builder.command.Command.TheViews.{out-Command as fields_of}
use Rattle.command_line.specs.Commands.{with_argument}
use Rattle.command_line.proofs.commands.with_arguments.Given as goal

abbrev pub invariant-loop-row : goal.invariant-loop-row
invariant-loop-row l = record {
  app : app_of l.command ≡ fold with_argument (app_of l.initial.command) (take l.row-index l.rows);
  local : (fields_of l.command).has_globals ≡ (fields_of l.initial.command).has_globals;
}
