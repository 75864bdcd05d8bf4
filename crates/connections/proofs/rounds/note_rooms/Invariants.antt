-- the slots stay, what may be held stays within the limit, and there is no round
use Rattle.std.proofs.Common.{◌≡◌}
use Rattle.connections.specs.Memory.{StaysWithin}
use Rattle.connections.proofs.rounds.note_rooms.Given as goal

abbrev pub invariant-loop-event : goal.invariant-loop-event
invariant-loop-event g l = record {
  slots : l.connections.slots.items ≡ l.fn.connections.slots.items;
  within : StaysWithin l.fn.connections l.connections;
  none : g.R.Rounds.log l.rounds ≡ g.R.Rounds.log l.fn.rounds;
}
