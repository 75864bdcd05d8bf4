-- The findings on the SYSMODs that chosen plans have together, from which the members of a plan are taken: the reading of
-- each, its givers, and the givers of all needs (IBM z/OS SMP/E Reference, `++VER`, operands FMID, PRE, REQ and SUP, and
-- `++HOLD`).
use Rattle.std.specs.Prelude.{◌≡◌, ℕ, List, Option, Some, None, Contains, map}
use Rattle.zone_lists.specs.declared.zones.ZoneRow.{ZoneRow}
use Rattle.catalogue.specs.Content.{Content}
use Rattle.supersede.specs.Giving.{givers_of}
use Rattle.verdicts.specs.Candidates.{candidates_unless_there}
use Rattle.zone_plans.specs.Readings.{ReadingLists, all_needs, reading_of}

-- the answer for a SYSMOD, or all that give it
abbrev pub givers_or : Option (List (List ℕ)) → List (List ℕ) → List (List ℕ)
givers_or None all = all
givers_or (Some known) all = known

-- SYSMODs that give one: all candidates that do, and maybe others
abbrev pub known_givers : Content → List ZoneRow → List ℕ → List (List ℕ)
known_givers content rows id = givers_or (candidates_unless_there content rows id) (givers_of content id)

-- The findings as contracts see them: the SYSMODs, with the reading and the givers of each; and all that they need, with the
-- candidates that give each need, or none if it is there.
pub record FindingLists : Type 0 where
  pub ids : List (List ℕ)
  pub readings : List ReadingLists
  pub givers : List (List (List ℕ))
  pub asked : List (List ℕ)
  pub answers : List (Option (List (List ℕ)))

-- the findings on some SYSMODs
abbrev pub findings_of : Content → List ZoneRow → List (List ℕ) → FindingLists
findings_of content rows ids = record {
  ids = ids;
  readings = map (reading_of content rows) ids;
  givers = map (known_givers content rows) ids;
  asked = all_needs (map (reading_of content rows) ids);
  answers = map (candidates_unless_there content rows) (all_needs (map (reading_of content rows) ids));
}

-- the findings are right
abbrev pub AreFindings : Content → List ZoneRow → FindingLists → Type 0
AreFindings content rows findings = findings ≡ findings_of content rows findings.ids

-- and they are on each of some SYSMODs
pub record AreFoundOf (content : Content) (rows : List ZoneRow) (findings : FindingLists) (ids : List (List ℕ)) : Type 0 where
  pub so : AreFindings content rows findings
  pub each : (id : List ℕ) → Contains ids id → Contains findings.ids id
