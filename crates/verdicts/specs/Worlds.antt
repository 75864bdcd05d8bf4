-- A content and a zone as a world, of which plans, picks and verdicts speak; which ids are good there, and what a verdict
-- says.
use Rattle.std.specs.Prelude.{◌≡◌, ℕ, ◌↔◌, true, List, Contains}
use Rattle.std.specs.declared.cmp.Ordering.TheVariants.{Greater}
use Rattle.zone_lists.specs.declared.zones.ZoneRow.{ZoneRow}
use Rattle.catalogue.specs.Content.{Content}
use Rattle.catalogue.specs.Ids.{Ascend, id_cmp}
use Rattle.supersede.specs.Giving.{is_candidate, needs_in}
use Rattle.supersede.specs.Leading.{Gives, IsThere}
use Rattle.requisites.specs.World.{IsChosenPlan, IsGood, IsHeldFor, World}
use Rattle.verdicts.specs.Judge.{status_of}
use Rattle.verdicts.specs.Verdicts.{Judged, good, held, is_good, lack, verdict_of}
use Rattle.verdicts.specs.declared.verdict.Status.TheVariants as status

-- the ids of a content, seen from a zone
abbrev pub world_of : Content → List ZoneRow → World (List ℕ)
world_of content rows = record {
  Candidate = λ id. is_candidate content rows id ≡ true;
  Needs = λ id need. Contains (needs_in content rows id) need;
  There = λ need. IsThere content rows need;
  Gives = λ id need. Gives content id need;
  AtMost = λ a b. id_cmp a b ≡ Greater → ⊥;
}

-- an id is found good exactly if some plan of candidates holds it
abbrev pub GoodIsPlanned : Type 0
GoodIsPlanned =
    (content : Content) (rows : List ZoneRow) (id : List ℕ) → (is_good content rows id ≡ true) ↔ IsGood (world_of content rows) id

-- the verdict on an id is good exactly if a plan holds it, held exactly if it is a candidate that no plan holds, and lack
-- exactly if it is no candidate
pub record IsRightStatus (content : Content) (rows : List ZoneRow) (id : List ℕ) : Type 0 where
  pub good : (status_of (verdict_of content rows id) ≡ status.Good) ↔ IsGood (world_of content rows) id
  pub held : (status_of (verdict_of content rows id) ≡ status.Held) ↔ ((is_candidate content rows id ≡ true) × (¬ IsGood (world_of content rows) id))
  pub lack : (status_of (verdict_of content rows id) ≡ status.Lack) ↔ (¬ (is_candidate content rows id ≡ true))

-- a verdict on an id: good with the chosen plan, ascending; held with the blocked need; or no candidate
abbrev pub IsVerdict : Content → List ZoneRow → List ℕ → Judged → Type 0
IsVerdict content rows id (good plan) = IsChosenPlan (world_of content rows) id plan × Ascend plan
IsVerdict content rows id (held need) = IsHeldFor (world_of content rows) id need
IsVerdict content rows id lack = ¬ (is_candidate content rows id ≡ true)
