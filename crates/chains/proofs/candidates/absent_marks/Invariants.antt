use Rattle.std.proofs.Common.{◌≡◌, ◌<◌, ℕ, true, false, length, take}
use Rattle.std.specs.List.{Contains}
use Rattle.requisites.specs.Nodes.{mark_of}
use Rattle.verdicts.specs.Indices.{id_at}
use Rattle.chains.proofs.candidates.absent_marks.Given as goal

abbrev pub invariant-loop-id : goal.invariant-loop-id
invariant-loop-id l = record {
  len : length l.marks.items ≡ length l.ids;
  marked : (p : ℕ) → p < length l.ids → Contains (take l.id-index l.asked) (id_at l.ids p) → mark_of l.there p ≡ false → mark_of l.marks.items p ≡ true;
}
