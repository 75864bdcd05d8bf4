use Rattle.std.proofs.Common.{◌≡◌, ◌++◌, ℕ, List, drop, filter}
use Rattle.catalogue.specs.Content.{ids_in, sup_names}
use Rattle.flat_content.specs.Links.{linked}
use Rattle.flat_content.proofs.links.links_in_turn.Given as goal

-- the links so far, with those of the records to come, are all
abbrev pub invariant-loop-head : goal.invariant-loop-head
invariant-loop-head l = (q : List ℕ) → linked q l.links.items ++ ids_in (filter (sup_names q) (drop l.head-index l.records)) ≡ ids_in (filter (sup_names q) l.records)
