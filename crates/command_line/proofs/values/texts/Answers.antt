use Rattle.std.proofs.Common.{rules, ◌≡◌, ◌∙◌, [], None, sym}
use Rattle.clap.specs.Words.{all_of, found_of}
use Rattle.clap.proofs.WalkLemmas.{raw_values-rows}
use Rattle.command_line.specs.Line.{several}
use Rattle.command_line.specs.Wanted.{rows_in}
use Rattle.command_line.proofs.LineFacts.{unread}
use Rattle.command_line.proofs.values.texts.Goals as goal

pub returns-in_ok-strings-in-Some : goal.returns-in_ok-strings-in-Some
returns-in_ok-strings-in-Some c = sym (raw_values-rows (found_of c.args.matches.now) c.args.name.now) ∙ sym c.get_strs.ensures ∙ search rules

pub returns-in-None : goal.returns-in-None
returns-in-None c =
    let none : all_of c.args.name.now (rows_in c.args.matches.now) ≡ None = sym (raw_values-rows (found_of c.args.matches.now) c.args.name.now) ∙ search rules in
    unread c.args.command.now c.args.name.now (several []) (rows_in c.args.matches.now) _ c.requires none
