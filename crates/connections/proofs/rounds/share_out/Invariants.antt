-- the slots stay, what may be held stays within the limit, and there is no round
use Rattle.std.proofs.Common.{◌≡◌}
use Rattle.connections.specs.Memory.{StaysWithin}
use Rattle.connections.proofs.rounds.share_out.Given as goal

abbrev pub invariant-loop-index : goal.invariant-loop-index
invariant-loop-index g l = record {
  slots : l.connections.slots.items ≡ l.fn.connections.slots.items;
  within : StaysWithin l.fn.connections l.connections;
  none : g.R.Rounds.log l.rounds ≡ g.R.Rounds.log l.fn.rounds;
}
