use Rattle.std.proofs.Common.{◌-◌, ◌^◌, ◌≤◌, ℕ, List, IfSome, length}
use Rattle.std.specs.BTreeMap.{keys, values}
use Rattle.std.specs.List.{Contains}
use Rattle.catalogue.specs.View.{IsOpen}
use Rattle.catalogue.proofs.TellingFacts.{HasTold}
use Rattle.listings.specs.Gathered.{AreNamed, AreRead, IsGathering}
use Rattle.listings.proofs.gathered.gather.Given as goal

-- the ids before `at` were read
abbrev pub invariant-loop-at : goal.invariant-loop-at
invariant-loop-at g l = record {
  has_told : HasTold g.P.Published.content_view l.fn.source l.source (λ content. IsGathering content l.start (keys l.found) l.order.items l.at (values l.found));
  standing : (id : List ℕ) → Contains (keys l.found) id → IsOpen g.P.Published.content_view l.source;
  begun : Contains l.order.items l.start;
  asked : AreRead (keys l.found) l.order.items l.at;
  named : AreNamed (values l.found) l.order.items;
  few : IfSome l.most (λ most. length (keys l.found) ≤ most);
}

abbrev pub decreases-loop-at : goal.decreases-loop-at
decreases-loop-at g l = 2 ^ 64 - l.at
