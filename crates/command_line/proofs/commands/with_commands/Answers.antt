use Rattle.std.proofs.Common.{ap₂, refl, sym, ◌∙◌}
use Rattle.std.proofs.lemmas.List.Sums.{fold_more}
use Rattle.clap.specs.Words.{app_of}
use Rattle.command_line.specs.Commands.{with_command}
use Rattle.command_line.proofs.commands.with_commands.Goals as goal

pub loop-row-preserved : goal.loop-row-preserved
loop-row-preserved c =
    c.in_ok-program.ensures ∙ ap₂ with_command c.loop-row.invariant refl
    ∙ sym (fold_more with_command (app_of c.args.program) c.args.rows.now c.loop-row.row-index _ c.loop-row-test.true)
