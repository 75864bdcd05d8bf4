use Rattle.std.proofs.Common.{subst}
use Rattle.catalogue.specs.Ids.{Ascend}
use Rattle.sql_writes.proofs.FreeFacts.{apart_by_ids}
use Rattle.sql_writes.proofs.free.are_all_apart.Goals as goal

pub returns-in-Ok : goal.returns-in-Ok
returns-in-Ok c found =
    apart_by_ids c.args.changes.now c.in-Ok.ids.items c.in-Ok.ensures.are_ids c.in-Ok.ensures.same (subst Ascend c.as_slice.ensures.value (c.do_ascend.ensures found))
