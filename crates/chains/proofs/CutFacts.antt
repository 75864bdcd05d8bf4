-- Over a closed part of a world the verdicts are those of the whole world.
use Rattle.std.proofs.Common.{◌≡◌, ◌<◌, ◌⊎◌, ℕ, zero, suc, ◌++◌, List, [], ◌∷◌, length, map, refl, sym, ap, subst, inl, inr, arith}
use Rattle.std.specs.List.{Contains, filter, list_any}
use Rattle.std.proofs.lemmas.List.Elements.{Contains-append_left, Contains-push, Contains-push_cases}
use Rattle.std.proofs.lemmas.Bool.{cases_lt}
use Rattle.lemmas.proofs.ListFacts.{IsImage, any_at, any_from, kept_from, kept_inside, map_from, map_inside, none_inside}
use Rattle.catalogue.specs.Ids.{same_id}
use Rattle.catalogue.proofs.IdFacts.{itself, one_id}
use Rattle.requisites.specs.Leads.{IsPath}
use Rattle.requisites.specs.World.{IsChosen, IsChosenPlan, IsGivenIn, IsGood, IsGoodGiver, IsHeldFor, IsPick, PicksFor, World}
use Rattle.verdicts.specs.Indices.{IndexOf, id_at}
use Rattle.listings.specs.Cuts.{IsCut}

-- the indices below n
indices_below : ℕ → List ℕ
indices_below zero = []
indices_below (suc n) = indices_below n ++ n ∷ []

below_from : (n q : ℕ) → Contains (indices_below n) q → q < n
unfolding indices_below
below_from zero q inside = absurd (none_inside q inside)
below_from (suc n) q inside = elim (Contains-push_cases (indices_below n) n q inside) [
  | inl before ↦ (let below = below_from n q before in omega (arith, below))
  | inr same ↦ omega (arith, same)
]

below_inside : (n q : ℕ) → q < n → Contains (indices_below n) q
unfolding indices_below
below_inside zero q below = absurd (omega (arith, below))
below_inside (suc n) q below = elim (cases_lt q n) [
  | inl less ↦ Contains-append_left (indices_below n) (n ∷ []) q (below_inside n q less)
  | inr from ↦ (let same : q ≡ n = omega (arith, below, from) in let P : ℕ → Type 0 = λ x. Contains (indices_below n ++ n ∷ []) x in subst P (sym same) (Contains-push (indices_below n) n))
]

module _ (W : World (List ℕ)) (members : List (List ℕ)) (V : World ℕ) (cut : IsCut W members V) where
  -- ---- plans

  pub good_up : (p : ℕ) → IsGood V p → IsGood W (id_at members p)
  good_up p good = record {
    members = map (id_at members) good.members;
    plan = record {
      candidates = λ y inside. (let image = map_from (id_at members) good.members y inside in candidate image);
      needs_met = λ y r inside needs. (let image = map_from (id_at members) good.members y inside in met image r needs);
    };
    member = map_inside (id_at members) good.members p good.member;
  } where
    candidate : {y : List ℕ} → IsImage (id_at members) good.members y → W.Candidate y
    candidate image =
        let here = good.plan.candidates image.from image.member in
        let P : List ℕ → Type 0 = λ x. W.Candidate x in
        subst P image.is ((cut.candidates image.from (cut.within image.from here)).0 here)

    met : {y : List ℕ} → IsImage (id_at members) good.members y → (r : List ℕ) → W.Needs y r → W.There r ⊎ IsGivenIn W (map (id_at members) good.members) r
    met image r needs =
        let here = good.plan.candidates image.from image.member in
        let N : List ℕ → Type 0 = λ x. W.Needs x r in
        let indexed = cut.all_needs image.from r here (subst N (sym image.is) needs) in
        let T : List ℕ → Type 0 = λ x. W.There x in
        elim (good.plan.needs_met image.from indexed.at.index image.member indexed.needs) [
          | inl there ↦ inl (subst T indexed.at.is ((cut.there indexed.at.index indexed.at.within).0 there))
          | inr given ↦ (let G : List ℕ → Type 0 = λ x. W.Gives (id_at members given.giver) x in inr (record {
            giver = id_at members given.giver;
            member = map_inside (id_at members) good.members given.giver given.member;
            gives = subst G indexed.at.is ((cut.gives given.giver indexed.at.index (good.plan.candidates given.giver given.member) indexed.at.within).0 given.gives);
          }))
        ]

  pub good_down : (p : ℕ) → p < length members → IsGood W (id_at members p) → IsGood V p
  good_down p within good = record {
    members = filter (λ q. list_any (same_id (id_at members q)) good.members) (indices_below (length members));
    plan = record {
      candidates = λ q inside. candidate q inside;
      needs_met = λ q r inside needs. met q r inside needs;
    };
    member = inside_from p within good.member;
  } where
    is_in : (q : ℕ) → Contains (filter (λ q. list_any (same_id (id_at members q)) good.members) (indices_below (length members))) q → (q < length members) × Contains good.members (id_at members q)
    is_in q inside =
        let k = kept_from (λ (q : ℕ). list_any (same_id (id_at members q)) good.members) (indices_below (length members)) q inside in
        let found = any_from (same_id (id_at members q)) good.members k.passes in
        let P : List ℕ → Type 0 = λ x. Contains good.members x in
        (below_from (length members) q k.member, subst P (sym (one_id (id_at members q) found.element found.passes)) found.member)

    inside_from : (q : ℕ) → q < length members → Contains good.members (id_at members q) → Contains (filter (λ q. list_any (same_id (id_at members q)) good.members) (indices_below (length members))) q
    inside_from q below member =
        kept_inside (λ (q : ℕ). list_any (same_id (id_at members q)) good.members) (indices_below (length members)) q (below_inside (length members) q below)
        (any_at (same_id (id_at members q)) good.members (id_at members q) member (itself (id_at members q)))

    candidate : (q : ℕ) → Contains (filter (λ q. list_any (same_id (id_at members q)) good.members) (indices_below (length members))) q → V.Candidate q
    candidate q inside = let found = is_in q inside in (cut.candidates q found.0).1 (good.plan.candidates (id_at members q) found.1)

    met : (q r : ℕ) → Contains (filter (λ q. list_any (same_id (id_at members q)) good.members) (indices_below (length members))) q → V.Needs q r → V.There r ⊎ IsGivenIn V (filter (λ q. list_any (same_id (id_at members q)) good.members) (indices_below (length members))) r
    met q r inside needs =
        let here = candidate q inside in
        let below = cut.needs_within q r here needs in
        elim (good.plan.needs_met (id_at members q) (id_at members r) (is_in q inside).1 (cut.needs q r here needs)) [
          | inl there ↦ inl ((cut.there r below).1 there)
          | inr given ↦ (
              let z = good.plan.candidates given.giver given.member in
              let at = cut.givers given.giver r below z given.gives in
              let M : List ℕ → Type 0 = λ x. Contains good.members x in
              let G : List ℕ → Type 0 = λ x. W.Gives x (id_at members r) in
              let C : List ℕ → Type 0 = λ x. W.Candidate x in
              let indexed = (cut.candidates at.index at.within).1 (subst C (sym at.is) z) in
              inr (record {
                giver = at.index;
                member = inside_from at.index at.within (subst M (sym at.is) given.member);
                gives = (cut.gives at.index r indexed below).1 (subst G (sym at.is) given.gives);
              }))
        ]

  -- ---- givers and picks

  giver_up : (p q : ℕ) → q < length members → IsGoodGiver V q p → IsGoodGiver W (id_at members q) (id_at members p)
  giver_up p q below giver = record {
    good = good_up p giver.good;
    gives = (cut.gives p q (giver.good.plan.candidates p giver.good.member) below).0 giver.gives;
  }

  -- the index of a good id that gives what stands at an index
  record GiverIndex (q : ℕ) (giver : List ℕ) : Type 0 where
    at : IndexOf members giver
    gives : IsGoodGiver V q at.index

  giver_down : (q : ℕ) (z : List ℕ) → q < length members → IsGoodGiver W (id_at members q) z → GiverIndex q z
  giver_down q z below giver =
      let candidate = giver.good.plan.candidates z giver.good.member in
      let at = cut.givers z q below candidate giver.gives in
      let G : List ℕ → Type 0 = λ x. W.Gives x (id_at members q) in
      let C : List ℕ → Type 0 = λ x. W.Candidate x in
      let Q : List ℕ → Type 0 = λ x. IsGood W x in
      record {
        at = at;
        gives = record {
          good = good_down at.index at.within (subst Q (sym at.is) giver.good);
          gives = (cut.gives at.index q ((cut.candidates at.index at.within).1 (subst C (sym at.is) candidate)) below).1 (subst G (sym at.is) giver.gives);
        };
      }

  pick_is_good : (q z : ℕ) → IsPick V q z → IsGood V z
  pick_is_good q z pick = elim pick [
    | inl itself ↦ (let Q : ℕ → Type 0 = λ x. IsGood V x in subst Q (sym itself.1) itself.0)
    | inr least ↦ least.1.holds.good
  ]

  pick_up : (q z : ℕ) → q < length members → IsPick V q z → IsPick W (id_at members q) (id_at members z)
  pick_up q z below pick = elim pick [
    | inl same ↦ inl (good_up q same.0, ap (id_at members) same.1)
    | inr least ↦ inr (
      λ good. least.0 (good_down q below good),
      record {
        holds = giver_up z q below least.1.holds;
        least = λ y giver. (
            let down = giver_down q y below giver in
            let A : List ℕ → Type 0 = λ x. W.AtMost (id_at members z) x in
            let candidate = least.1.holds.good.plan.candidates z least.1.holds.good.member in
            subst A down.at.is ((cut.order z down.at.index (cut.within z candidate) down.at.within).0 (least.1.least down.at.index down.gives)));
      },
    )
  ]

  -- the index of a pick
  record PickIndex (q : ℕ) (pick : List ℕ) : Type 0 where
    at : IndexOf members pick
    picks : IsPick V q at.index

  pick_down : (q : ℕ) (z : List ℕ) → q < length members → IsPick W (id_at members q) z → PickIndex q z
  pick_down q z below pick = elim pick [
    | inl same ↦ record {
      at = record { index = q; within = below; is = sym same.1 };
      picks = inl (good_down q below same.0, refl);
    }
    | inr least ↦ (
        let down = giver_down q z below least.1.holds in
        record {
          at = down.at;
          picks = inr (
            λ good. least.0 (good_up q good),
            record {
              holds = down.gives;
              least = λ p giver. (
                  let candidate = giver.good.plan.candidates p giver.good.member in
                  let A : List ℕ → Type 0 = λ x. W.AtMost x (id_at members p) in
                  (cut.order down.at.index p down.at.within (cut.within p candidate)).1 (subst A (sym down.at.is) (least.1.least (id_at members p) (giver_up p q below giver))));
            },
          );
        })
  ]

  step_up : (p z : ℕ) → V.Candidate p → PicksFor V p z → PicksFor W (id_at members p) (id_at members z)
  step_up p z candidate step =
      let below = cut.needs_within p step.need candidate step.needs in
      record {
        need = id_at members step.need;
        needs = cut.needs p step.need candidate step.needs;
        absent = λ there. step.absent ((cut.there step.need below).1 there);
        pick = pick_up step.need z below step.pick;
      }

  -- the index of what is picked for p
  record StepIndex (p : ℕ) (pick : List ℕ) : Type 0 where
    at : IndexOf members pick
    step : PicksFor V p at.index
    candidate : V.Candidate at.index

  step_down : (p : ℕ) (z : List ℕ) → V.Candidate p → PicksFor W (id_at members p) z → StepIndex p z
  step_down p z candidate step =
      let indexed = cut.all_needs p step.need candidate step.needs in
      let K : List ℕ → Type 0 = λ x. IsPick W x z in
      let T : List ℕ → Type 0 = λ x. W.There x in
      let pick = pick_down indexed.at.index z indexed.at.within (subst K (sym indexed.at.is) step.pick) in
      let good = pick_is_good indexed.at.index pick.at.index pick.picks in
      record {
        at = pick.at;
        step = record {
          need = indexed.at.index;
          needs = indexed.needs;
          absent = λ there. step.absent (subst T indexed.at.is ((cut.there indexed.at.index indexed.at.within).0 there));
          pick = pick.picks;
        };
        candidate = good.plan.candidates pick.at.index good.member;
      }

  picked_candidate : (p z : ℕ) → PicksFor V p z → V.Candidate z
  picked_candidate p z step = let good = pick_is_good step.need z step.pick in good.plan.candidates z good.member

  -- ---- chosen plans

  path_up : (p : ℕ) → V.Candidate p → (list : List ℕ) (y : ℕ) → IsPath (PicksFor V) p list y → IsPath (PicksFor W) (id_at members p) (map (id_at members) list) (id_at members y)
  path_up p candidate [] y same = ap (id_at members) same
  path_up p candidate (z ∷ zs) y path = (step_up p z candidate path.0, path_up z (picked_candidate p z path.0) zs y path.1)

  -- the index to which picks lead
  pub record ChosenIndex (p : ℕ) (id : List ℕ) : Type 0 where
    pub index : ℕ
    pub is : id_at members index ≡ id
    pub leads : IsChosen V p index

  path_down : (p : ℕ) → V.Candidate p → (list : List (List ℕ)) (y : List ℕ) → IsPath (PicksFor W) (id_at members p) list y → ChosenIndex p y
  path_down p candidate [] y same = record { index = p; is = same; leads = record { list = []; path = refl } }
  path_down p candidate (z ∷ zs) y path =
      let step = step_down p z candidate path.0 in
      let P : List ℕ → Type 0 = λ x. IsPath (PicksFor W) x zs y in
      let later = path_down step.at.index step.candidate zs y (subst P (sym step.at.is) path.1) in
      record { index = later.index; is = later.is; leads = record { list = step.at.index ∷ later.leads.list; path = (step.step, later.leads.path) } }

  pub chosen_up : (p : ℕ) (plan : List ℕ) → IsChosenPlan V p plan → IsChosenPlan W (id_at members p) (map (id_at members) plan)
  chosen_up p plan chosen = record {
    good = good_up p chosen.good;
    chosen = λ y inside. (
        let image = map_from (id_at members) plan y inside in
        let leads = chosen.chosen image.from image.member in
        let L : List ℕ → Type 0 = λ x. IsChosen W (id_at members p) x in
        subst L image.is (record { list = map (id_at members) leads.list; path = path_up p candidate leads.list image.from leads.path }));
    whole = λ y leads. (
        let down = path_down p candidate leads.list y leads.path in
        let M : List ℕ → Type 0 = λ x. Contains (map (id_at members) plan) x in
        subst M down.is (map_inside (id_at members) plan down.index (chosen.whole down.index down.leads)));
  } where
    candidate : V.Candidate p
    candidate = chosen.good.plan.candidates p chosen.good.member

  pub leads_up : (p q : ℕ) → V.Candidate p → IsChosen V p q → IsChosen W (id_at members p) (id_at members q)
  leads_up p q candidate leads = record { list = map (id_at members) leads.list; path = path_up p candidate leads.list q leads.path }

  pub leads_down : (p : ℕ) (id : List ℕ) → V.Candidate p → IsChosen W (id_at members p) id → ChosenIndex p id
  leads_down p id candidate leads = path_down p candidate leads.list id leads.path

  -- ---- what is held

  pub held_up : (p r : ℕ) → IsHeldFor V p r → IsHeldFor W (id_at members p) (id_at members r)
  held_up p r held = record {
    candidate = (cut.candidates p (cut.within p held.candidate)).0 held.candidate;
    held = λ good. held.held (good_down p (cut.within p held.candidate) good);
    blocked = record {
      holds = record {
        needs = cut.needs p r held.candidate held.blocked.holds.needs;
        absent = λ there. held.blocked.holds.absent ((cut.there r below).1 there);
        ungiven = λ z giver. (let down = giver_down r z below giver in held.blocked.holds.ungiven down.at.index down.gives);
      };
      least = λ y unmet. (
          let indexed = cut.all_needs p y held.candidate unmet.needs in
          let T : List ℕ → Type 0 = λ x. W.There x in
          let G : List ℕ → Type 0 = λ x. (z : List ℕ) → IsGoodGiver W x z → ⊥ in
          let none = subst G (sym indexed.at.is) unmet.ungiven in
          let least = held.blocked.least indexed.at.index (record {
            needs = indexed.needs;
            absent = λ there. unmet.absent (subst T indexed.at.is ((cut.there indexed.at.index indexed.at.within).0 there));
            ungiven = λ z giver. none (id_at members z) (giver_up z indexed.at.index indexed.at.within giver);
          }) in
          let A : List ℕ → Type 0 = λ x. W.AtMost (id_at members r) x in
          subst A indexed.at.is ((cut.order r indexed.at.index below indexed.at.within).0 least));
    };
  } where
    below : r < length members
    below = cut.needs_within p r held.candidate held.blocked.holds.needs

-- ---- what is chosen is good

picks_good : (V : World ℕ) (q z : ℕ) → IsPick V q z → IsGood V z
picks_good V q z pick = elim pick [
  | inl itself ↦ (let Q : ℕ → Type 0 = λ x. IsGood V x in subst Q (sym itself.1) itself.0)
  | inr least ↦ least.1.holds.good
]

path_good : (V : World ℕ) (p : ℕ) (list : List ℕ) (q : ℕ) → IsGood V p → IsPath (PicksFor V) p list q → IsGood V q
path_good V p [] q good same = (let Q : ℕ → Type 0 = λ x. IsGood V x in subst Q same good)
path_good V p (z ∷ zs) q good path = path_good V z zs q (picks_good V path.0.need z path.0.pick) path.1

pub chosen_good : (V : World ℕ) (p q : ℕ) → IsGood V p → IsChosen V p q → IsGood V q
chosen_good V p q good leads = path_good V p leads.list q good leads.path
