use Rattle.std.proofs.Common.{ℕ, ◌<◌, [], length, take}
use Rattle.install_order.specs.Levels.{AreLevels, AreLevelsBelow}
use Rattle.install_order.specs.Rings.{AreRingsAfter}
use Rattle.install_order.specs.Steps.{StandsIn}
use Rattle.install_order.proofs.levels.put_levels.Given as goal

abbrev pub invariant-loop-index : goal.invariant-loop-index
invariant-loop-index l =
    (AreRingsAfter l.needs (length l.initial.levels) [] l.rings → ((p : ℕ) → StandsIn l.rings p → p < length l.initial.levels)
    → AreLevels l.needs (length l.initial.levels) (StandsIn (take l.index l.rings)) l.levels)
    × AreLevelsBelow l.levels l.index
