-- The candidates that give each of several SYSMODs, if it isn't there: a report asks for them at once (IBM z/OS SMP/E
-- Reference, `++VER`, operands SUP and FMID).
use Rattle.std.specs.Prelude.{ℕ, List, Option, Some, None, filter, if◌then◌else◌}
use Rattle.zone_lists.specs.declared.zones.ZoneRow.{ZoneRow}
use Rattle.catalogue.specs.Content.{Content}
use Rattle.supersede.specs.Giving.{givers_of, is_candidate, is_there}

-- the candidates that give an id, ascending, unless it is there
abbrev pub candidates_unless_there : Content → List ZoneRow → List ℕ → Option (List (List ℕ))
candidates_unless_there content rows id =
    if is_there content rows id then None else Some (filter (λ giver. is_candidate content rows giver) (givers_of content id))
