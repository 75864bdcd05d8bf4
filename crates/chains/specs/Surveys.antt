-- Surveys: the verdicts on all that is catalogued, in one zone, by the indices of ids.
use Rattle.std.specs.Prelude.{ℕ, Bool, List, Option, if◌then◌else◌}
use Rattle.catalogue.specs.Ids.{Ascend}
use Rattle.requisites.specs.Good.{AreGood}
use Rattle.requisites.specs.declared.nodes.Nodes.{Nodes}
use Rattle.listings.specs.SeenIndices.{AreNodesWithin}
pub use Rattle.listings.specs.ZoneNodes.{IsSurvey, SurveyLists}
use Rattle.verdicts.specs.declared.verdict.Status.{Status}
use Rattle.verdicts.specs.declared.verdict.Status.TheVariants.{Good, Held, Lack}

-- the rest of a survey: which nodes are good, and the giver of each
pub record IsResolved (members : List (List ℕ)) (nodes : Nodes) (good : List Bool) (givers : List (Option ℕ)) : Type 0 where
  pub ascend : Ascend members
  pub within : AreNodesWithin members nodes
  pub resolved : AreGood nodes good givers

-- the status of a node, by whether it is good and whether it is a candidate
abbrev pub status_by : Bool → Bool → Status
status_by good candidate = if good then Good else if candidate then Held else Lack
