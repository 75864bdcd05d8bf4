use Rattle.std.proofs.Common.{◌≡◌, take}
use Rattle.catalogue.specs.Ids.{put_among}
use Rattle.catalogue.proofs.touching.touch_all.Given as goal

abbrev pub invariant-loop-id : goal.invariant-loop-id
invariant-loop-id l = l.ids.keys ≡ put_among l.fn.ids.keys (take l.id-index l.more)
