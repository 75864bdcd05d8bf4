use Rattle.std.proofs.Common.{◌≡◌, length, not}
use Rattle.chains.specs.Frames.{shares}
use Rattle.chain_cache.proofs.EntryFacts.{AreTurned}
use Rattle.chain_cache.proofs.dropping.drop_among.Given as goal

abbrev pub invariant-loop : goal.invariant-loop
invariant-loop l = record {
  turned : AreTurned (λ entry. not (shares l.ids entry.1)) l.initial.frames.entries l.frames.entries l.counter;
  cap : l.frames.cap ≡ l.initial.frames.cap;
  total : l.end ≡ length l.initial.frames.entries;
}
