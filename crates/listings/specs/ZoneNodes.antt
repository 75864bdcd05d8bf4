-- The nodes of a zone, which speak of a content by the indices of ids.
use Rattle.std.specs.Prelude.{ℕ, List, Contains}
use Rattle.zone_lists.specs.declared.zones.ZoneRow.{ZoneRow}
use Rattle.catalogue.specs.Content.{Content, ids_of}
use Rattle.requisites.specs.Nodes.{world}
use Rattle.requisites.specs.declared.nodes.Nodes.{Nodes}
use Rattle.verdicts.specs.Worlds.{world_of}
use Rattle.listings.specs.Cuts.{IsCut}

-- A survey as contracts see it: ids in order, and what the zone and the catalogue say of each index among them.
pub record SurveyLists : Type 0 where
  pub members : List (List ℕ)
  pub nodes : Nodes

-- the survey of a zone over a content: it has all that is catalogued, and says of the indices what the content says of the
-- ids
pub record IsSurvey (content : Content) (rows : List ZoneRow) (survey : SurveyLists) : Type 0 where
  pub cut : IsCut (world_of content rows) survey.members (world survey.nodes)
  pub whole : (id : List ℕ) → Contains (ids_of content) id → Contains survey.members id
