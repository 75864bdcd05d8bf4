use Rattle.std.proofs.Common.{◌++◌, take}
use Rattle.std.specs.BTreeMap.{IsOrdered, values}
use Rattle.catalogue.specs.Changes.{records_in}
use Rattle.catalogue.specs.Ids.{id_cmp}
use Rattle.catalogue.specs.ListPublished.{IsKeyed}
use Rattle.catalogue.proofs.RecordFacts.{IsCatalogue}
use Rattle.catalogue.proofs.list_published.catalogue_after.Given as goal

abbrev pub invariant-loop-change : goal.invariant-loop-change
invariant-loop-change l = record {
  ordered : IsOrdered id_cmp l.sysmods;
  keyed : IsKeyed l.sysmods.entries;
  records : IsCatalogue (values l.fn.old ++ records_in (take l.change-index l.changes)) (values l.sysmods);
}
