use Rattle.std.proofs.Common.{◌≡◌, ◌-◌, ◌^◌, ℕ, List, map}
use Rattle.std.specs.BTreeMap.{keys, values}
use Rattle.std.specs.List.{Contains}
use Rattle.catalogue.specs.Content.{IsInOrder, superseders}
use Rattle.catalogue.proofs.TellingFacts.{HasTold}
use Rattle.chains.specs.Climbs.{AreListed}
use Rattle.listings.specs.Gathered.{AreRead}
use Rattle.zone_plans.proofs.climbing.superseders_of.Given as goal

-- the ids before `at` were read
abbrev pub invariant-loop-at : goal.invariant-loop-at
invariant-loop-at g l = record {
  has_told : HasTold g.P.Published.content_view l.fn.source l.source (λ content. (values l.found ≡ map (superseders content) (keys l.found)) × ((id : List ℕ) → Contains (keys l.found) id → IsInOrder content));
  begun : (id : List ℕ) → Contains l.starts id → Contains l.order.items id;
  asked : AreRead (keys l.found) l.order.items l.at;
  listed : AreListed (values l.found) l.order.items;
}

abbrev pub decreases-loop-at : goal.decreases-loop-at
decreases-loop-at g l = 2 ^ 64 - l.at
