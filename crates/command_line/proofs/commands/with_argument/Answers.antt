use Rattle.std.proofs.Common.{◌≡◌, ◌∙◌, ◌||◌, Bool, true, false, ap, refl}
use Rattle.std.proofs.lemmas.Result.{IfOk-weaker}
use Rattle.clap.specs.Words.{Rule, app_of, with_rule}
use Rattle.clap.specs.declared.builder.command.Command.TheViews.{out-Command as fields_of}
use Rattle.command_line.specs.Commands.{with_argument}
use Rattle.command_line.proofs.commands.with_argument.Goals as goal

pub returns-clause-app : goal.returns-clause-app
unfolding with_argument
returns-clause-app c =
    let read = c.arg_of.ensures in
    IfOk-weaker c.arg.result _ _ (λ more adds. adds.shape read.local ∙ ap (λ (rule : Rule). with_rule (app_of c.args.command) rule) read.rule) c.arg.ensures

-- a command is not global because of an argument that isn't
kept : (command argument : Bool) → argument ≡ false → (command || argument) ≡ command
kept true true local = refl
kept true false local = refl
kept false true local = local
kept false false local = refl

pub returns-clause-local : goal.returns-clause-local
returns-clause-local c =
    let same = kept (fields_of c.args.command).has_globals c.arg_of.result.global c.arg_of.ensures.local in
    IfOk-weaker c.arg.result _ _ (λ more adds. adds.globals ∙ same) c.arg.ensures
