-- the lines so far went out whole
use Rattle.std.proofs.Common.{◌≡◌, []}
use Rattle.socket_desk.specs.Logged.{AreSent}
use Rattle.socket_desk.proofs.log.Log.write_pieces.Given as goal

abbrev pub invariant-loop : goal.invariant-loop
invariant-loop g l =
    AreSent (g.W.Write.contents l.fn.self.writer) l.lines (g.W.Write.contents l.self.writer) [] l.left
    × (l.self.rest.items ≡ []) × (l.self.lost ≡ l.fn.self.lost)
