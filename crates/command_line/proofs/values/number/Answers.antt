use Rattle.std.proofs.Common.{rules}
use Rattle.command_line.specs.Line.{number}
use Rattle.command_line.specs.Wanted.{rows_in}
use Rattle.command_line.proofs.LineFacts.{unread}
use Rattle.command_line.proofs.values.number.Goals as goal

pub returns-in-None : goal.returns-in-None
returns-in-None c =
    unread c.args.command.now c.args.name.now (number c.args.least c.args.most 0) (rows_in c.args.matches.now) _ c.requires (c.number_with.ensures.none (search rules))
