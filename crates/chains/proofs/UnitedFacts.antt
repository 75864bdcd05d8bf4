-- What is chosen for several nodes is what the chosen plans of their ids have together.
use Rattle.std.proofs.Common.{◌≡◌, ◌<◌, ℕ, List, length, map, sym, subst, arith}
use Rattle.std.specs.List.{Contains, flat_map}
use Rattle.std.specs.List.Sorted.{IsStrictlyIncreasing}
use Rattle.std.proofs.lemmas.List.Kept.{AllPairs-from_increasing}
use Rattle.lemmas.proofs.ListFacts.{flat_from, flat_inside, map_from, map_inside, none_inside}
use Rattle.zone_lists.specs.declared.zones.ZoneRow.{ZoneRow}
use Rattle.catalogue.specs.Content.{Content, ids_of}
use Rattle.catalogue.specs.Ids.{Ascend}
use Rattle.catalogue.proofs.IdFacts.{in_order_ascends, in_order_has}
use Rattle.requisites.specs.Nodes.{world}
use Rattle.requisites.specs.World.{AreChosenPlans, IsChosen, IsGood}
use Rattle.requisites.specs.declared.nodes.Nodes.{Nodes}
use Rattle.requisites.proofs.SourceFacts.{marked_inside}
use Rattle.verdicts.specs.Indices.{id_at, AreIndicesOf}
use Rattle.listings.specs.Cuts.{IsCut}
use Rattle.listings.specs.SeenIndices.{AreNodesWithin}
use Rattle.verdicts.specs.United.{plan_by, plan_in, united}
use Rattle.verdicts.specs.Verdicts.{Judged, good, held, lack, verdict_of}
use Rattle.verdicts.specs.Worlds.{IsVerdict, world_of}
use Rattle.chains.proofs.CutFacts.{chosen_good, good_down, good_up, leads_down, leads_up}
use Rattle.verdicts.proofs.IndexFacts.{inside_at}
use Rattle.listings.proofs.MadeCutFacts.{candidate_catalogued}
use Rattle.chains.proofs.NodeVerdictFacts.{map_ascends}
use Rattle.verdicts.proofs.OrderFacts.{ascending_same}
use Rattle.verdicts.proofs.VerdictFacts.{found_verdict}

-- ---- one chosen plan

module _ (content : Content) (rows : List ZoneRow) where
  -- what stands in the chosen plan of an id: that id is good, and picks lead to it from there
  pub record IsInPlan (id y : List ℕ) : Type 0 where
    pub good : IsGood (world_of content rows) id
    pub chosen : IsChosen (world_of content rows) id y

  from_judged : (id y : List ℕ) (judged : Judged) → IsVerdict content rows id judged → Contains (plan_by judged) y → IsInPlan id y
  from_judged id y (good plan) verdict inside = record { good = verdict.0.good; chosen = verdict.0.chosen y inside }
  from_judged id y (held need) verdict inside = absurd (none_inside y inside)
  from_judged id y lack verdict inside = absurd (none_inside y inside)

  in_judged : (id y : List ℕ) (judged : Judged) → IsVerdict content rows id judged → IsInPlan id y → Contains (plan_by judged) y
  in_judged id y (good plan) verdict is = verdict.0.whole y is.chosen
  in_judged id y (held need) verdict is = absurd (verdict.held is.good)
  in_judged id y lack verdict is = absurd (verdict (is.good.plan.candidates id is.good.member))

  pub from_plan : (id y : List ℕ) → Contains (plan_in content rows id) y → IsInPlan id y
  from_plan id y inside = from_judged id y (verdict_of content rows id) (found_verdict content rows id) inside

  pub in_plan : (id y : List ℕ) → IsInPlan id y → Contains (plan_in content rows id) y
  in_plan id y is = in_judged id y (verdict_of content rows id) (found_verdict content rows id) is

-- ---- several of them, by nodes

-- they name no other indices
pub plans_within : (members : List (List ℕ)) (nodes : Nodes) (starts plans : List ℕ) → AreNodesWithin members nodes → AreChosenPlans (world nodes) starts plans
    → (q : ℕ) → Contains plans q → q < length members
plans_within members nodes starts plans within are q inside =
    let by = are.chosen q inside in
    let is_good = chosen_good (world nodes) by.start q by.good by.chosen in
    let below = marked_inside nodes.candidates.items q (is_good.plan.candidates q is_good.member) in
    let as_many = within.len in
    omega (arith, below, as_many)

pub plans_ascend : (members : List (List ℕ)) (plans : List ℕ) → Ascend members → IsStrictlyIncreasing plans → ((q : ℕ) → Contains plans q → q < length members)
    → Ascend (map (id_at members) plans)
plans_ascend members plans ascend increasing within =
    map_ascends members plans ascend (λ i j less inside. AllPairs-from_increasing plans increasing i j 0 less inside) within

module _ (content : Content) (rows : List ZoneRow) (members : List (List ℕ)) (nodes : Nodes) (ascend : Ascend members) (cut : IsCut (world_of content rows) members (world nodes))
    (whole : (id : List ℕ) → Contains (ids_of content) id → Contains members id) (ids : List (List ℕ)) (starts plans : List ℕ) (indices : AreIndicesOf members ids starts)
    (are : AreChosenPlans (world nodes) starts plans) where
  up : (y : List ℕ) → Contains (map (id_at members) plans) y → Contains (united content rows ids) y
  up y inside =
      let image = map_from (id_at members) plans y inside in
      let by = are.chosen image.from image.member in
      let start = id_at members by.start in
      let P : List ℕ → Type 0 = λ x. Contains (united content rows ids) x in
      subst P image.is ((in_order_has (flat_map (plan_in content rows) ids) (id_at members image.from)).1
      (flat_inside (plan_in content rows) ids start (id_at members image.from) (indices.listed by.start by.listed)
      (in_plan content rows start (id_at members image.from) (record {
        good = good_up (world_of content rows) members (world nodes) cut by.start by.good;
        chosen = leads_up (world_of content rows) members (world nodes) cut by.start image.from (by.good.plan.candidates by.start by.good.member) by.chosen;
      }))))

  down : (y : List ℕ) → Contains (united content rows ids) y → Contains (map (id_at members) plans) y
  down y inside =
      let from = flat_from (plan_in content rows) ids y ((in_order_has (flat_map (plan_in content rows) ids) y).0 inside) in
      let is = from_plan content rows from.from y from.has in
      let at = inside_at members from.from (whole from.from (candidate_catalogued content rows from.from (is.good.plan.candidates from.from is.good.member))) in
      let G : List ℕ → Type 0 = λ x. IsGood (world_of content rows) x in
      let L : List ℕ → Type 0 = λ x. Contains ids x in
      let C : List ℕ → Type 0 = λ x. IsChosen (world_of content rows) x y in
      let is_good = good_down (world_of content rows) members (world nodes) cut at.index at.within (subst G (sym at.is) is.good) in
      let leads = leads_down (world_of content rows) members (world nodes) cut at.index y (is_good.plan.candidates at.index is_good.member) (subst C (sym at.is) is.chosen) in
      let P : List ℕ → Type 0 = λ x. Contains (map (id_at members) plans) x in
      subst P leads.is (map_inside (id_at members) plans leads.index (are.whole leads.index (record {
        start = at.index;
        listed = indices.whole at.index at.within (subst L (sym at.is) from.listed);
        good = is_good;
        chosen = leads.leads;
      })))

  pub united_here : Ascend (map (id_at members) plans) → map (id_at members) plans ≡ united content rows ids
  united_here rises = ascending_same (map (id_at members) plans) (united content rows ids) rises (in_order_ascends (flat_map (plan_in content rows) ids)) up down
