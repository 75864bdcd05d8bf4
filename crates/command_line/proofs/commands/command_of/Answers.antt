use Rattle.std.proofs.Common.{rules, ◌≡◌, ap, false, fold, ◌∙◌}
use Rattle.std.proofs.lemmas.Result.{IfOk-weaker}
use Rattle.clap.specs.Simple.{app_of_fields}
use Rattle.clap.specs.Words.{App, app_of, new_app}
use Rattle.clap.specs.declared.builder.command.Command.TheViews.{out-Command as fields_of}
use Rattle.command_line.specs.Commands.{with_argument}
use Rattle.command_line.proofs.commands.command_of.Goals as goal

pub returns-clause-app : goal.returns-clause-app
returns-clause-app c =
    let row = c.args.row.now in
    let bare : app_of c.about-command.result ≡ new_app row.name.now = ap app_of_fields c.about-command.ensures ∙ c.new.ensures.app in
    IfOk-weaker c.with_arguments.result _ _ (λ command made. made ∙ ap (λ (above : App). fold with_argument above row.arguments.now) bare) c.with_arguments.ensures.app

pub returns-clause-local : goal.returns-clause-local
returns-clause-local c =
    let bare : (fields_of c.about-command.result).has_globals ≡ false = search rules in
    IfOk-weaker c.with_arguments.result _ _ (λ command kept. kept ∙ bare) c.with_arguments.ensures.local
