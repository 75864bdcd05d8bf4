use Rattle.std.proofs.Common.{◌≡◌, take}
use Rattle.catalogue.specs.Ids.{put_among}
use Rattle.verdicts.proofs.united.put_all.Given as goal

abbrev pub invariant-loop-id : goal.invariant-loop-id
invariant-loop-id l = l.found.keys ≡ put_among l.fn.found.keys (take l.id-index l.ids)
