use Rattle.std.proofs.Common.{ap₂, refl, sym, ◌∙◌}
use Rattle.std.proofs.lemmas.List.Sums.{fold_more}
use Rattle.clap.specs.Words.{app_of}
use Rattle.command_line.specs.Commands.{with_argument}
use Rattle.command_line.proofs.commands.with_arguments.Goals as goal

pub loop-row-preserved : goal.loop-row-preserved
loop-row-preserved c =
    let more = c.in_ok-command.ensures in
    record {
      app = more.app ∙ ap₂ with_argument c.loop-row.invariant.app refl
          ∙ sym (fold_more with_argument (app_of c.args.command) c.args.rows.now c.loop-row.row-index _ c.loop-row-test.true);
      local = more.local ∙ c.loop-row.invariant.local;
    }
