use Rattle.std.proofs.Common.{◌≡◌, true, ap, ◌∙◌, codes}
use Rattle.clap.specs.Simple.{app_of_fields}
use Rattle.clap.specs.Words.{App, app_of, new_app}
use Rattle.command_line.proofs.commands.program.Goals as goal

pub returns : goal.returns
returns c =
    let bare : app_of c.about.result ≡ new_app (codes "bureau") = ap app_of_fields c.about.ensures ∙ ap app_of_fields c.in_ok-bureau.ensures.0 ∙ c.new.ensures.app in
    let dated = ap app_of_fields c.version.ensures ∙ ap (λ (above : App). record above { top = record above.top { has_version = true } }) bare in
    let unnamed = ap app_of_fields c.no_binary_name.ensures
    ∙ ap (λ (above : App). record above { top = record above.top { no_binary_name = true } }) (ap app_of_fields c.after_help.ensures ∙ dated) in
    ap app_of_fields c.subcommand_required.ensures
    ∙ ap (λ (above : App). record above { top = record above.top { subcommand_required = true } }) unnamed
