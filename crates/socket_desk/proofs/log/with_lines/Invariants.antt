-- the lines so far are counted
use Rattle.std.proofs.Common.{◌≡◌, ◌+◌, take}
use Rattle.socket_desk.specs.Logged.{counted, lines_in}
use Rattle.socket_desk.proofs.log.with_lines.Given as goal

abbrev pub invariant-loop-byte : goal.invariant-loop-byte
invariant-loop-byte l = l.all ≡ counted (l.lost + lines_in (take l.byte-index l.lines))
