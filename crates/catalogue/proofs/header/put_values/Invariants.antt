use Rattle.std.proofs.Common.{drop}
use Rattle.mcs_reader.specs.Bytes.{bytes_of_each}
use Rattle.catalogue.proofs.HeaderFacts.{Puts}
use Rattle.catalogue.proofs.header.put_values.Given as goal

abbrev pub invariant-loop-value : goal.invariant-loop-value
invariant-loop-value l = Puts l.ids.keys (bytes_of_each (drop l.value-index l.values)) l.fn.ids.keys (bytes_of_each l.values)
