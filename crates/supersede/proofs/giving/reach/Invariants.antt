use Rattle.std.proofs.Common.{◌≡◌, ◌≤◌, ◌-◌, ◌^◌, true, length, take}
use Rattle.catalogue.specs.Content.{ids_of}
use Rattle.catalogue.specs.Ids.{Ascend}
use Rattle.supersede.specs.Reach.{Alike, has}
use Rattle.supersede.proofs.ReachFacts.{Walked}
use Rattle.catalogue.proofs.TellingFacts.{HasTold}
use Rattle.supersede.proofs.giving.reach.Given as goal

-- the superseders of the ids before `at` were found
abbrev pub invariant-loop-at : goal.invariant-loop-at
invariant-loop-at g l = record {
  has_told : HasTold g.P.Published.content_view l.fn.source l.source
      (λ content. Ascend (ids_of content) → Walked content l.order.items (take l.at l.order.items) l.id);
  alike : Alike l.found.keys l.order.items;
  begun : has l.order.items l.id ≡ true;
  within : l.at ≤ length l.order.items;
}

abbrev pub decreases-loop-at : goal.decreases-loop-at
decreases-loop-at g l = 2 ^ 64 - l.at
