use Rattle.std.specs.List.{Contains}
use Rattle.bureau_sql.proofs.kept.Kept.make_room.Given as goal

abbrev pub invariant-loop : goal.invariant-loop
invariant-loop g l = (one : g.row.V.Denot) → Contains l.self one → Contains l.fn.self one
