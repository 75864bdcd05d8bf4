use Rattle.std.proofs.Common.{subst, sym}
use Rattle.std.specs.List.Sorted.{IsStrictlySortedBy}
use Rattle.catalogue.specs.Ids.{Ascend}
use Rattle.file_reports.proofs.inputs.received_in.Goals as goal

-- no ids ascend
pub returns-in_default-clause-ascend : goal.returns-in_default-clause-ascend
unfolding IsStrictlySortedBy
returns-in_default-clause-ascend c = subst Ascend (sym c.new.ensures.items) tt
