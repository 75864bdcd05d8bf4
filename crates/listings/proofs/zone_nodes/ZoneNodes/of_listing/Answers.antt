use Rattle.std.proofs.Common.{◌∙◌, List, ℕ, refl, subst, sym}
use Rattle.std.specs.List.{Contains}
use Rattle.requisites.specs.Nodes.{world}
use Rattle.listings.specs.Cuts.{IsCut}
use Rattle.listings.specs.Sights.{sight_of}
use Rattle.verdicts.specs.Worlds.{world_of}
use Rattle.listings.proofs.MadeCutFacts.{cut_of}
use Rattle.listings.proofs.SupFacts.{superseded_as}
use Rattle.listings.proofs.zone_nodes.ZoneNodes.of_listing.Goals as goal

pub returns-clause-cut : goal.returns-clause-cut
returns-clause-cut c = λ content is.
    let rows = c.args.zone.now in
    let ids = c.args.listing.now.ids in
    let f = sight_of content in
    let kept = c.rows-rows.result.now in
    let are = c.rows-rows.ensures in
    let nodes = c.in_ok-nodes.nodes in
    let P : List (List ℕ) → Type 0 = λ l. IsCut (world_of content rows) l (world nodes) in
    subst P (sym (c.in_ok-members.ensures.items ∙ c.deref.ensures.value)) (cut_of content rows ids c.args.listing.now.sights kept.members.items nodes is.ids is.sights
    are.ascend are.ids_inside are.needs_inside
    (c.in_ok-nodes.ensures.seen f ids (c.entries.ensures.sights ∙ is.sights) are.places)
    (superseded_as f ids kept.members.items kept.members.items kept.supersedes nodes.supersedes refl c.in_ok-nodes.ensures.supersedes (are.supersedes_are f is.sights))
    c.in_ok-nodes.ensures.there)

pub returns-clause-ids : goal.returns-clause-ids
returns-clause-ids c = λ id inside.
    let P : List (List ℕ) → Type 0 = λ l. Contains l id in
    subst P (sym (c.in_ok-members.ensures.items ∙ c.deref.ensures.value)) (c.rows-rows.ensures.ids_inside id inside)
