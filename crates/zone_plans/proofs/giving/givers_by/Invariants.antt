use Rattle.std.proofs.Common.{◌≡◌, List, Option, ℕ, map, option_map, take}
use Rattle.std.specs.Global.{Vec}
use Rattle.mcs_reader.specs.declared.id.Id.{Id}
use Rattle.supersede.specs.Giving.{givers_of}
use Rattle.catalogue.proofs.TellingFacts.{HasTold}
use Rattle.zone_plans.specs.Findings.{givers_or}
use Rattle.zone_plans.specs.Graphs.{lists_of}
use Rattle.zone_plans.proofs.giving.givers_by.Given as goal

abbrev pub invariant-loop-id : goal.invariant-loop-id
invariant-loop-id g l =
    HasTold g.P.Published.content_view l.fn.source l.source (λ content. (f : List ℕ → Option (List (List ℕ))) → map (option_map (λ (ids : Vec Id). ids.items)) l.answers ≡ map f l.ids
    → lists_of l.lists.items ≡ map (λ id. givers_or (f id) (givers_of content id)) (take l.id-index l.ids))
