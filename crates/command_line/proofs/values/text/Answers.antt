use Rattle.std.proofs.Common.{rules, ◌≡◌, [], None}
use Rattle.clap.specs.Words.{first_of}
use Rattle.command_line.specs.Line.{one}
use Rattle.command_line.specs.Wanted.{rows_in}
use Rattle.command_line.proofs.LineFacts.{unread}
use Rattle.command_line.proofs.values.text.Goals as goal

pub returns-in-None : goal.returns-in-None
returns-in-None c =
    let none : first_of c.args.name.now (rows_in c.args.matches.now) ≡ None = search rules in
    unread c.args.command.now c.args.name.now (one []) (rows_in c.args.matches.now) _ c.requires none
