-- What is found of the members is what is said of them.
use Rattle.std.proofs.Common.{◌≡◌, ◌∙◌, ◌<◌, ℕ, List, [], ◌∷◌, Bool, true, false, ◌||◌, ◌&&◌, cond, Some, None, length, get_or, map, refl, sym, ap, subst}
use Rattle.std.specs.Prelude.{not}
use Rattle.std.specs.List.{Contains, filter, list_any}
use Rattle.lemmas.proofs.ListFacts.{flat_inside, get_any}
use Rattle.lemmas.proofs.TestFacts.{same_test}
use Rattle.zone_plans.specs.declared.holds.HoldOn.{HoldOn}
use Rattle.zone_lists.specs.declared.zones.ZoneRow.{ZoneRow}
use Rattle.catalogue.specs.Content.{Content}
use Rattle.catalogue.specs.Ids.{in_order, same_id}
use Rattle.catalogue.proofs.IdFacts.{in_order_has}
use Rattle.supersede.specs.Giving.{gives, givers_of, is_candidate, is_there, needs_in}
use Rattle.supersede.specs.Reach.{has}
use Rattle.supersede.proofs.LeadingFacts.{gives_is}
use Rattle.supersede.proofs.ReachFacts.{has_from, has_to}
use Rattle.requisites.specs.Nodes.{row}
use Rattle.requisites.specs.World.{IsPlan}
use Rattle.verdicts.specs.Indices.{id_at}
use Rattle.verdicts.specs.Worlds.{world_of}
use Rattle.verdicts.proofs.IndexFacts.{at_inside}
use Rattle.zone_plans.specs.Findings.{AreFoundOf, known_givers}
use Rattle.zone_plans.specs.Members.{joined, needs_id}
use Rattle.zone_plans.specs.Plans.{PlanLists}
use Rattle.zone_plans.specs.declared.holds.ChosenResolver.{ChosenResolver}
use Rattle.zone_plans.proofs.PlannedFacts.{answer_has, answer_says, known_has, known_says}
use Rattle.zone_plans.specs.Readings.{reading_of}
use Rattle.plan_reports.specs.Found.{AreFound, FoundLists, IsTold, absent_givers, gives_one, holds_at, is_needed_at, no_resolver, or_none, others_at, picked, resolver_at}
use Rattle.plan_reports.specs.Members.{MemberLists, holds_for, member_at, needed_by_of}
use Rattle.plan_reports.proofs.PlaceFacts.{filter_twice, places_kept, places_same}

-- ---- tests that agree

any_alike : {X : Type 0} (p q : X → Bool) (xs : List X) → ((x : X) → p x ≡ q x) → list_any p xs ≡ list_any q xs
any_alike p q [] same = refl
any_alike p q (x ∷ xs) same = ap (λ b. b || list_any p xs) (same x) ∙ ap (λ b. q x || b) (any_alike p q xs same)

filter_alike : {X : Type 0} (p q : X → Bool) (xs : List X) → ((x : X) → p x ≡ q x) → filter p xs ≡ filter q xs
filter_alike p q [] same = refl
filter_alike p q (x ∷ xs) same =
    ap (λ b. cond b (x ∷ filter p xs) (filter p xs)) (same x) ∙ ap (λ l. cond (q x) (x ∷ l) l) (filter_alike p q xs same)

-- ---- what stands at a place

pub resolver_is : (resolved : List ChosenResolver) (k : ℕ) (one : ChosenResolver) → k < length resolved → one ≡ get_or resolved k one → one.resolver ≡ resolver_at resolved k
resolver_is resolved k one below at = ap (λ (c : ChosenResolver). c.resolver) (at ∙ get_any resolved k one no_resolver below)

-- ---- what gives

module _ (content : Content) (rows : List ZoneRow) where
  -- for a candidate, what is known to give a resolver is all that does
  pub givers_are : (resolver id : List ℕ) → is_candidate content rows id ≡ true → has (known_givers content rows resolver) id ≡ gives content id resolver
  givers_are resolver id candidate =
      same_test (has (known_givers content rows resolver) id) (gives content id resolver)
      (λ on. (gives_is content id resolver).1 (known_says content rows resolver id (has_to (known_givers content rows resolver) id on)))
      (λ on. has_from (known_givers content rows resolver) id (known_has content rows resolver id candidate ((gives_is content id resolver).0 on)))

  -- for a candidate, what gives a need that isn't there is all that does
  pub absent_is : (need id : List ℕ) → is_candidate content rows id ≡ true → has (absent_givers content rows need) id ≡ (not (is_there content rows need) && gives content id need)
  absent_is need id candidate = go (is_there content rows need) refl where
    all : List (List ℕ)
    all = filter (λ giver. is_candidate content rows giver) (givers_of content need)

    go : (b : Bool) → is_there content rows need ≡ b → has (or_none (cond b None (Some (filter (λ giver. is_candidate content rows giver) (givers_of content need))))) id ≡ (not b && gives content id need)
    go true there = refl
    go false absent =
        same_test (has (filter (λ giver. is_candidate content rows giver) (givers_of content need)) id) (gives content id need)
        (λ on. (gives_is content id need).1 ((answer_says content rows need (filter (λ giver. is_candidate content rows giver) (givers_of content need)) (ap (λ b. cond b None (Some (filter (λ giver. is_candidate content rows giver) (givers_of content need)))) absent)).each id
        (has_to (filter (λ giver. is_candidate content rows giver) (givers_of content need)) id on)))
        (λ on. has_from (filter (λ giver. is_candidate content rows giver) (givers_of content need)) id (answer_has content rows need id candidate ((gives_is content id need).0 on)))

  -- whether it gives one of the needs of another
  pub needed_is : (other id : List ℕ) → is_candidate content rows id ≡ true → gives_one (absent_givers content rows) (needs_in content rows other) id ≡ needs_id content rows other id
  needed_is other id candidate =
      any_alike (λ need. has (absent_givers content rows need) id) (λ need. not (is_there content rows need) && gives content id need) (needs_in content rows other)
      (λ need. absent_is need id candidate)

  -- ---- what is told

  module _ (received : List (List ℕ)) (plan : PlanLists) (found : FoundLists) (are : AreFound content rows plan.resolved found) where
    holds_are : (q : ℕ) → q < length found.ids → is_candidate content rows (id_at found.ids q) ≡ true → holds_at plan.resolved (row found.resolving q) ≡ holds_for content plan.resolved (id_at found.ids q)
    holds_are q within candidate =
        let id = id_at found.ids q in
        ap (λ (l : List ChosenResolver). map (λ (one : ChosenResolver). one.hold) l)
        (ap (picked plan.resolved) (are.resolving.each q within)
        ∙ places_kept plan.resolved no_resolver (λ (one : ChosenResolver). has (known_givers content rows one.resolver) id)
        ∙ filter_alike (λ (one : ChosenResolver). has (known_givers content rows one.resolver) id) (λ (one : ChosenResolver). gives content id one.resolver) plan.resolved (λ one. givers_are one.resolver id candidate))

    needed_are : (q : ℕ) → q < length found.ids → is_candidate content rows (id_at found.ids q) ≡ true → others_at found.ids (id_at found.ids q) (row found.needing q) ≡ needed_by_of content rows found.ids (id_at found.ids q)
    needed_are q within candidate =
        let id = id_at found.ids q in
        let apart = λ (other : List ℕ). not (same_id other id) in
        let needs = λ (other : List ℕ). needs_id content rows other id in
        let test = λ (k : ℕ). is_needed_at content rows found.ids k id in
        ap (λ (l : List (List ℕ)). filter apart l)
        (ap (picked found.ids) (are.needing.each q within ∙ places_same test (λ k. needs (id_at found.ids k)) (length found.ids) (λ k below. needed_is (id_at found.ids k) id candidate))
        ∙ places_kept found.ids [] needs)
        ∙ filter_twice apart needs found.ids

    -- what is told of each member is what is said of it
    pub is_told : AreFoundOf content rows plan.findings found.ids → ((q : ℕ) → q < length found.ids → is_candidate content rows (id_at found.ids q) ≡ true)
        → IsTold content rows received plan found (member_at content rows received plan.resolved found.ids)
    is_told read candidates = record {
      read = read;
      each = λ step q within.
          let id = id_at found.ids q in
          let own = reading_of content rows id in
          let made : List HoldOn → List (List ℕ) → MemberLists = λ holds needed. record {
            step = step;
            id = id;
            fmids = own.fmids;
            received = has received id;
            holds = holds;
            needed_by = needed;
            system = own.system;
            user = own.user;
          } in
          let candidate = candidates q within in
          sym (ap (λ (l : List HoldOn). made l (others_at found.ids id (row found.needing q))) (holds_are q within candidate)
          ∙ ap (λ (l : List (List ℕ)). made (holds_for content plan.resolved id) l) (needed_are q within candidate));
    }

  -- the members of a plan may be installed in the zone
  pub candidates_in : (steps : List (List (List ℕ))) (ids : List (List ℕ)) → ids ≡ in_order (joined steps) → IsPlan (world_of content rows) (joined steps) → (q : ℕ) → q < length ids → is_candidate content rows (id_at ids q) ≡ true
  candidates_in steps ids are plan q within =
      let P : List (List ℕ) → Type 0 = λ l. Contains l (id_at ids q) in
      plan.candidates (id_at ids q) ((in_order_has (joined steps) (id_at ids q)).0 (subst P are (at_inside ids q within)))

-- ---- steps

-- what stands in a step is a member
pub step_listed : (steps : List (List (List ℕ))) (ids : List (List ℕ)) (i : ℕ) (id : List ℕ) → ids ≡ in_order (joined steps) → i < length steps → Contains (get_or steps i []) id → Contains ids id
step_listed steps ids i id are below inside =
    let P : List (List ℕ) → Type 0 = λ l. Contains l id in
    let step : Contains steps (get_or steps i []) = (i, below, get_any steps i (get_or steps i []) [] below) in
    subst P (sym are) ((in_order_has (joined steps) id).1 (flat_inside (λ (s : List (List ℕ)). s) steps (get_or steps i []) id step inside))
