-- none stands in the slots so far
use Rattle.std.proofs.Common.{ℕ, ◌<◌, ◌≢◌, Some, slice_get}
use Rattle.connections.specs.declared.connection.Connection.{Connection}
use Rattle.connections.proofs.slots.Connections.are_free.Given as goal

abbrev pub invariant-loop-slot : goal.invariant-loop-slot
invariant-loop-slot l = (other : ℕ) (connection : Connection) → other < l.slot-index → slice_get l.self.slots.items other ≢ Some (Some connection)
