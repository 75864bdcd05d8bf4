-- Verdicts on nodes of a cut are those on the ids that stand there.
use Rattle.std.proofs.Common.{◌≡◌, ◌∙◌, ℕ, suc, ◌<◌, Bool, true, false, List, [], ◌∷◌, length, map, get_or, Option, refl, sym, subst, arith}
use Rattle.std.specs.List.{AllByRecursion, Contains}
use Rattle.std.specs.List.Sorted.{IsStrictlySortedBy}
use Rattle.std.specs.declared.cmp.Ordering.TheVariants.{Less}
use Rattle.std.proofs.lemmas.List.Kept.{AllPairs-from_increasing}
use Rattle.lemmas.proofs.ListFacts.{first_inside, rest_inside}
use Rattle.zone_lists.specs.declared.zones.ZoneRow.{ZoneRow}
use Rattle.catalogue.specs.Content.{Content, ids_of}
use Rattle.catalogue.specs.Ids.{Ascend, id_cmp}
use Rattle.supersede.specs.Giving.{is_candidate}
use Rattle.requisites.specs.Good.{AreGood}
use Rattle.requisites.specs.Nodes.{IsMarked, mark_of, world}
use Rattle.requisites.specs.World.{IsGood}
use Rattle.requisites.specs.Verdict as index
use Rattle.requisites.specs.declared.nodes.Nodes.{Nodes}
use Rattle.requisites.specs.declared.verdict.Verdict as declared
use Rattle.requisites.specs.declared.verdict.Verdict.TheVariants as indices
use Rattle.requisites.proofs.SourceFacts.{marked_inside}
use Rattle.verdicts.specs.Indices.{id_at, IsAt}
use Rattle.listings.specs.Cuts.{IsCut}
use Rattle.verdicts.specs.Judge.{status_of}
use Rattle.listings.specs.SeenIndices.{AreNodesWithin}
use Rattle.chains.specs.NodeVerdicts.{IsWithin, verdict_at}
use Rattle.chains.specs.Surveys.{status_by}
use Rattle.verdicts.specs.Verdicts.{Judged, lack, verdict_of}
use Rattle.verdicts.specs.Worlds.{IsVerdict, world_of}
use Rattle.verdicts.specs.declared.verdict.Status.TheVariants as status
use Rattle.chains.proofs.CutFacts.{chosen_good, chosen_up, good_down, good_up, held_up}
use Rattle.listings.proofs.MadeCutFacts.{candidate_catalogued}
use Rattle.verdicts.proofs.IndexFacts.{below_at}
use Rattle.verdicts.proofs.StatusFacts.{right_status}
use Rattle.verdicts.proofs.VerdictFacts.{verdict_is}

-- ---- verdicts name members

pub verdict_within : (members : List (List ℕ)) (nodes : Nodes) (p : ℕ) (v : declared.Verdict) → AreNodesWithin members nodes → index.IsVerdict nodes p v → IsWithin members v
verdict_within members nodes p (indices.Good plan) within is = λ q inside.
    let is_good = chosen_good (world nodes) p q is.0.good (is.0.chosen q inside) in
    let below = marked_inside nodes.candidates.items q (is_good.plan.candidates q is_good.member) in
    let as_many = within.len in
    omega (arith, below, as_many)
verdict_within members nodes p (indices.Held need) within is =
    let below = marked_inside nodes.candidates.items p is.candidate in
    let as_many = within.len in
    within.needs.each p (omega (arith, below, as_many)) need is.blocked.holds.needs
verdict_within members nodes p indices.Lack within is = tt

-- ---- ascending indices, ascending ids

map_below : (members : List (List ℕ)) (p : ℕ) (plan : List ℕ) → Ascend members → ((k : ℕ) → k < length plan → p < get_or plan k 0) → ((q : ℕ) → Contains plan q → q < length members) → AllByRecursion (λ y. id_cmp (id_at members p) y ≡ Less) (map (id_at members) plan)
map_below members p [] ascend above within = tt
map_below members p (q ∷ qs) ascend above within = (
  below_at members p q [] ascend (above 0 (omega arith)) (within q (first_inside q qs)),
  map_below members p qs ascend (λ k below. above (suc k) (omega (arith, below))) (λ r inside. within r (rest_inside q r qs inside)),
)

pub map_ascends : (members : List (List ℕ)) (plan : List ℕ) → Ascend members → ((i j : ℕ) → i < j → j < length plan → get_or plan i 0 < get_or plan j 0) → ((q : ℕ) → Contains plan q → q < length members) → Ascend (map (id_at members) plan)
unfolding IsStrictlySortedBy
map_ascends members [] ascend rises within = tt
map_ascends members (q ∷ qs) ascend rises within = (
  map_below members q qs ascend (λ k below. rises 0 (suc k) (omega arith) (omega (arith, below))) (λ r inside. within r (rest_inside q r qs inside)),
  map_ascends members qs ascend (λ i j less below. rises (suc i) (suc j) (omega (arith, less)) (omega (arith, below))) (λ r inside. within r (rest_inside q r qs inside)),
)

-- ---- verdicts

module _ (content : Content) (rows : List ZoneRow) (members : List (List ℕ)) (nodes : Nodes) (ascend : Ascend members) (cut : IsCut (world_of content rows) members (world nodes)) where
  verdict_on : (p : ℕ) (v : declared.Verdict) → p < length members → IsWithin members v → index.IsVerdict nodes p v → IsVerdict content rows (id_at members p) (verdict_at members v)
  verdict_on p (indices.Good plan) below within is =
      (chosen_up (world_of content rows) members (world nodes) cut p plan.items is.0, map_ascends members plan.items ascend (λ i j less inside. AllPairs-from_increasing plan.items is.1 i j 0 less inside) within)
  verdict_on p (indices.Held need) below within is = held_up (world_of content rows) members (world nodes) cut p need is
  verdict_on p indices.Lack below within is = λ candidate. is ((cut.candidates p below).1 candidate)

  pub verdict_here : (id : List ℕ) (p : ℕ) (v : declared.Verdict) (judged : Judged) → IsAt members id p → IsWithin members v → index.IsVerdict nodes p v → judged ≡ verdict_at members v → judged ≡ verdict_of content rows id
  verdict_here id p v judged at within is same =
      let P : List ℕ → Type 0 = λ x. IsVerdict content rows x (verdict_at members v) in
      same ∙ verdict_is content rows id (verdict_at members v) (subst P at.is (verdict_on p v at.within within is))

-- what stands nowhere among members that have all that is catalogued is no candidate
pub verdict_outside : (content : Content) (rows : List ZoneRow) (members : List (List ℕ)) (id : List ℕ) (judged : Judged) → ((x : List ℕ) → Contains (ids_of content) x → Contains members x) → (Contains members id → ⊥) → judged ≡ lack → judged ≡ verdict_of content rows id
verdict_outside content rows members id judged inside outside is =
    is ∙ verdict_is content rows id lack (λ candidate. outside (inside id (candidate_catalogued content rows id candidate)))

-- ---- which verdict

module _ (content : Content) (rows : List ZoneRow) (members : List (List ℕ)) (nodes : Nodes) (marks : List Bool) (givers : List (Option ℕ)) (id : List ℕ) (p : ℕ)
    (cut : IsCut (world_of content rows) members (world nodes)) (are : AreGood nodes marks givers) (at : IsAt members id p) where
  good_here : IsMarked marks p → IsGood (world_of content rows) id
  good_here marked = (let P : List ℕ → Type 0 = λ x. IsGood (world_of content rows) x in subst P at.is (good_up (world_of content rows) members (world nodes) cut p (are.marked p marked)))

  marked_here : IsGood (world_of content rows) id → IsMarked marks p
  marked_here is_good = (let P : List ℕ → Type 0 = λ x. IsGood (world_of content rows) x in are.unmarked p (good_down (world_of content rows) members (world nodes) cut p at.within (subst P (sym at.is) is_good)))

  is_good_status : mark_of marks p ≡ true → status.Good ≡ status_of (verdict_of content rows id)
  is_good_status on = sym ((right_status content rows id).good.1 (good_here (record { is = on })))

  is_held_status : mark_of marks p ≡ false → mark_of nodes.candidates.items p ≡ true → status.Held ≡ status_of (verdict_of content rows id)
  is_held_status off candidate =
      let P : List ℕ → Type 0 = λ x. is_candidate content rows x ≡ true in
      sym ((right_status content rows id).held.1 (subst P at.is ((cut.candidates p at.within).0 (record { is = candidate })), λ is_good. (let on = (marked_here is_good).is in cc)))

  is_lack_status : mark_of nodes.candidates.items p ≡ false → status.Lack ≡ status_of (verdict_of content rows id)
  is_lack_status off =
      let P : List ℕ → Type 0 = λ x. is_candidate content rows x ≡ true in
      sym ((right_status content rows id).lack.1 (λ candidate. (let on = ((cut.candidates p at.within).1 (subst P (sym at.is) candidate)).is in cc)))

  -- what the marks of the node say is the verdict
  pub status_here : status_by (mark_of marks p) (mark_of nodes.candidates.items p) ≡ status_of (verdict_of content rows id)
  status_here = by (mark_of marks p) refl (mark_of nodes.candidates.items p) refl where
    by : (good : Bool) → mark_of marks p ≡ good → (candidate : Bool) → mark_of nodes.candidates.items p ≡ candidate → status_by good candidate ≡ status_of (verdict_of content rows id)
    by true on candidate is = is_good_status on
    by false off true on = is_held_status off on
    by false off false none = is_lack_status none

pub lack_outside : (content : Content) (rows : List ZoneRow) (members : List (List ℕ)) (id : List ℕ) → ((x : List ℕ) → Contains (ids_of content) x → Contains members x) → (Contains members id → ⊥) → status.Lack ≡ status_of (verdict_of content rows id)
lack_outside content rows members id inside outside = sym ((right_status content rows id).lack.1 (λ candidate. outside (inside id (candidate_catalogued content rows id candidate))))
