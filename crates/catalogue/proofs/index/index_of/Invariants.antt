use Rattle.std.specs.Prelude.{map}
use Rattle.catalogue.specs.ListPublished.{IsIndex}
use Rattle.catalogue.proofs.index.index_of.Given as goal

abbrev pub invariant-loop-sysmod : goal.invariant-loop-sysmod
invariant-loop-sysmod l = IsIndex l.index (map (λ sysmod. sysmod.now) l.yielded)
