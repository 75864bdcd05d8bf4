use Rattle.std.proofs.Common.{rules, codes, refl}
use Rattle.command_line.specs.Line.{number}
use Rattle.command_line.specs.Wanted.{rows_in}
use Rattle.command_line.proofs.LineFacts.{unread}
use Rattle.command_line.proofs.values.port.Goals as goal

pub returns-in-None : goal.returns-in-None
returns-in-None c = unread (codes "serve") (codes "port") (number 1 65535 0) (rows_in c.args.matches.now) _ refl (c.port_with.ensures.none (search rules))
