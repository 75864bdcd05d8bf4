use Rattle.std.proofs.Common.{rules, ◌≡◌, ◌∙◌, sym, ap, Some, None}
use Rattle.clap.specs.Words.{first_of, found_of, rows_of}
use Rattle.clap.proofs.WalkLemmas.{first_value-rows}
use Rattle.command_line.specs.Line.{is_set}
use Rattle.command_line.proofs.values.flag_with.Goals as goal

pub returns-in-Some : goal.returns-in-Some
returns-in-Some c =
    let found = found_of c.args.matches.now in
    let text : Some c.in-Some.text.now ≡ first_of c.args.name.now (rows_of found) = sym (sym (first_value-rows found c.args.name.now) ∙ sym c.get_str.ensures ∙ search rules) in
    c.eq.ensures ∙ ap is_set text

pub returns-in-None : goal.returns-in-None
returns-in-None c =
    let found = found_of c.args.matches.now in
    let none : None ≡ first_of c.args.name.now (rows_of found) = sym (sym (first_value-rows found c.args.name.now) ∙ sym c.get_str.ensures ∙ search rules) in
    ap is_set none
