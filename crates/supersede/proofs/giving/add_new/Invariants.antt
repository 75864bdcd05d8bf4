use Rattle.std.proofs.Common.{◌≡◌, take}
use Rattle.catalogue.specs.Ids.{put_among}
use Rattle.supersede.specs.Reach.{Alike, Continues}
use Rattle.supersede.proofs.giving.add_new.Given as goal

abbrev pub invariant-loop-id : goal.invariant-loop-id
invariant-loop-id l = record {
  found : l.found.keys ≡ put_among l.fn.found.keys (take l.id-index l.ids);
  continues : Continues l.fn.order.items l.order.items;
  alike : Alike l.fn.found.keys l.fn.order.items → Alike l.found.keys l.order.items;
}
