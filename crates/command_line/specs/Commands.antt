-- No part of what is promised: private contracts cite it. The rows of the commands and of their arguments, as clap reads them.
use Rattle.std.specs.Prelude.{true, fold}
use Rattle.clap.specs.Words.{App, Rule, Text, new_app, with_rule, with_subcommand}
use Rattle.command_line.specs.Line.{flag_rule, number_rule, required_rule, several_rule, text_rule}
use Rattle.command_line.specs.declared.arguments.Argument.{Argument}
use Rattle.command_line.specs.declared.arguments.Kind.{Kind}
use Rattle.command_line.specs.declared.arguments.Kind.TheVariants as kind
use Rattle.command_line.specs.declared.subcommands.Subcommand.{Subcommand}

-- the rule of an argument of this name and of this kind
abbrev pub rule_of_kind : Text → Kind → Rule
rule_of_kind name (kind.One value) = required_rule name
rule_of_kind name (kind.Several value) = several_rule name
rule_of_kind name (kind.Text value) = record (text_rule name) { required = true }
rule_of_kind name (kind.MaybeText value) = text_rule name
rule_of_kind name (kind.Number value least most default) = number_rule name least most default.now
rule_of_kind name kind.Flag = flag_rule name

abbrev pub rule_for : Argument → Rule
rule_for argument = rule_of_kind argument.name.now argument.kind

-- a command with one more argument
unfoldable pub with_argument : App → Argument → App
with_argument app argument = with_rule app (rule_for argument)

-- the command of a row, with its arguments
abbrev pub app_for : Subcommand → App
app_for subcommand = fold with_argument (new_app subcommand.name.now) subcommand.arguments.now

-- a command with that of a row below it
unfoldable pub with_command : App → Subcommand → App
with_command app subcommand = with_subcommand app (app_for subcommand).top
