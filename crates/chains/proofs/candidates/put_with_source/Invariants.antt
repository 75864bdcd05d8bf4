use Rattle.std.proofs.Common.{◌≡◌, take}
use Rattle.chains.specs.Climbs.{with_source}
use Rattle.chains.proofs.candidates.put_with_source.Given as goal

abbrev pub invariant-loop-index : goal.invariant-loop-index
invariant-loop-index l = l.own.items ≡ with_source l.sources (take l.index-index l.indices)
