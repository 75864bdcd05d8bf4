use Rattle.std.proofs.Common.{◌≡◌, ◌<◌, Bool, List, ℕ, length, take}
use Rattle.std.specs.List.{filter}
use Rattle.requisites.specs.Nodes.{mark_of}
use Rattle.verdicts.specs.Indices.{id_at}
use Rattle.chains.proofs.planning.marked_ids.Given as goal

abbrev pub invariant-loop-index : goal.invariant-loop-index
invariant-loop-index l =
    (f : List ℕ → Bool) → ((p : ℕ) → p < length l.ids → mark_of l.marks p ≡ f (id_at l.ids p)) → l.those.items ≡ filter f (take l.index l.ids)
