-- An id is found good exactly where some plan holds it.
use Rattle.std.proofs.Common.{◌≡◌, ℕ, ◌⊎◌, ◌&&◌, Bool, true, false, cond, map, List, [], ◌∷◌, Some, refl, sym, subst, inl, inr}
use Rattle.std.specs.Prelude.{◌↔◌}
use Rattle.std.specs.List.{Contains, filter, find, list_all, list_any}
use Rattle.std.proofs.lemmas.Bool.{or_right, and_from, or_left, or_cases}
use Rattle.lemmas.proofs.ListFacts.{all_at, all_from, any_at, any_from, first_inside, first_true, kept_from, kept_inside, rest_inside, second_true}
use Rattle.zone_lists.specs.declared.zones.ZoneRow.{ZoneRow}
use Rattle.zone_lists.specs.Installed.{is_installed}
use Rattle.catalogue.specs.Content.{Content, ids_of, is_of}
use Rattle.catalogue.specs.Ids.{same_id}
use Rattle.catalogue.specs.declared.sysmod.Sysmod.{Sysmod}
use Rattle.catalogue.proofs.IdFacts.{itself, one_id}
use Rattle.supersede.specs.Giving.{fmids_of, gives, is_candidate, is_there, needs_in}
use Rattle.supersede.specs.Leading.{IsThere}
use Rattle.supersede.proofs.LeadingFacts.{gives_is, there_is}
use Rattle.requisites.specs.World.{IsGivenIn, IsGood, IsPlan}
use Rattle.verdicts.specs.Verdicts.{candidates, is_good, is_met, is_plan, sublists}
use Rattle.verdicts.specs.Worlds.{world_of}
use Rattle.verdicts.proofs.SearchFacts.{filter_is_sublist, sublist_inside}

module _ (content : Content) (rows : List ZoneRow) where
  -- a list that is found to be a plan is one
  plan_from : (members : List (List ℕ)) → Contains (sublists (candidates content rows)) members → is_plan content rows members ≡ true → IsPlan (world_of content rows) members
  plan_from members sub found = record {
    candidates = λ y inside. (kept_from (is_candidate content rows) (ids_of content) y (sublist_inside (candidates content rows) members y sub inside)).passes;
    needs_met = λ y r inside needs. met r (all_at (is_met content rows members) (needs_in content rows y) r (all_at (λ member. list_all (is_met content rows members) (needs_in content rows member)) members y found inside) needs);
  } where
    met : (r : List ℕ) → is_met content rows members r ≡ true → IsThere content rows r ⊎ IsGivenIn (world_of content rows) members r
    met r h = elim (or_cases (is_there content rows r) (list_any (λ member. gives content member r) members) h) [
      | inl there ↦ inl ((there_is content rows r).0 there)
      | inr given ↦ (let giver = any_from (λ member. gives content member r) members given in inr (record { giver = giver.element; member = giver.member; gives = (gives_is content giver.element r).0 giver.passes }))
    ]

  pub good_from : (id : List ℕ) → is_good content rows id ≡ true → IsGood (world_of content rows) id
  good_from id h =
      let found = any_from (λ members. list_any (same_id id) members && is_plan content rows members) (sublists (candidates content rows)) h in
      let holds = any_from (same_id id) found.element (first_true (list_any (same_id id) found.element) (is_plan content rows found.element) found.passes) in
      record {
        members = found.element;
        plan = plan_from found.element found.member (second_true (list_any (same_id id) found.element) (is_plan content rows found.element) found.passes);
        member = (let P : List ℕ → Type 0 = λ x. Contains found.element x in subst P (sym (one_id id holds.element holds.passes)) holds.member);
      }

  -- a candidate is catalogued
  found_inside : (sysmods : List Sysmod) (id : List ℕ) → list_any (λ fmid. is_installed rows fmid) (fmids_of (find (is_of id) sysmods)) ≡ true → Contains (map (λ sysmod. sysmod.id) sysmods) id
  found_inside [] id h = absurd (cc)
  found_inside (sysmod ∷ sysmods) id h = go (found_inside sysmods id) (is_of id sysmod) refl h where
    go : (list_any (λ fmid. is_installed rows fmid) (fmids_of (find (is_of id) sysmods)) ≡ true → Contains (map (λ s. s.id) sysmods) id) → (b : Bool) → is_of id sysmod ≡ b → list_any (λ fmid. is_installed rows fmid) (fmids_of (cond b (Some sysmod) (find (is_of id) sysmods))) ≡ true → Contains (sysmod.id ∷ map (λ s. s.id) sysmods) id
    go further true e installed = let P : List ℕ → Type 0 = λ x. Contains (sysmod.id ∷ map (λ s. s.id) sysmods) x in subst P (one_id sysmod.id id e) (first_inside sysmod.id (map (λ (s : Sysmod). s.id) sysmods))
    go further false e installed = rest_inside sysmod.id id (map (λ (s : Sysmod). s.id) sysmods) (further installed)

  pub candidate_inside : (id : List ℕ) → is_candidate content rows id ≡ true → Contains (candidates content rows) id
  candidate_inside id h = kept_inside (is_candidate content rows) (ids_of content) id (found_inside content.sysmods id h) h

  -- the members of a plan among the candidates
  planned : List (List ℕ) → List (List ℕ)
  planned members = filter (λ y. list_any (same_id y) members) (candidates content rows)

  planned_from : (members : List (List ℕ)) (y : List ℕ) → Contains (planned members) y → Contains members y
  unfolding planned
  planned_from members y inside =
      let kept = kept_from (λ (z : List ℕ). list_any (same_id z) members) (candidates content rows) y inside in
      let found = any_from (same_id y) members kept.passes in
      let P : List ℕ → Type 0 = λ x. Contains members x in
      subst P (sym (one_id y found.element found.passes)) found.member

  planned_inside : (members : List (List ℕ)) (y : List ℕ) → IsPlan (world_of content rows) members → Contains members y → Contains (planned members) y
  unfolding planned
  planned_inside members y plan inside =
      kept_inside (λ (z : List ℕ). list_any (same_id z) members) (candidates content rows) y (candidate_inside y (plan.candidates y inside)) (any_at (same_id y) members y inside (itself y))

  planned_is_plan : (members : List (List ℕ)) → IsPlan (world_of content rows) members → is_plan content rows (planned members) ≡ true
  planned_is_plan members plan =
      all_from (λ (member : List ℕ). list_all (is_met content rows (planned members)) (needs_in content rows member)) (planned members)
      (λ y inside. all_from (is_met content rows (planned members)) (needs_in content rows y) (λ r needs. met y r inside needs))
    where
      met : (y r : List ℕ) → Contains (planned members) y → Contains (needs_in content rows y) r → is_met content rows (planned members) r ≡ true
      met y r inside needs = elim (plan.needs_met y r (planned_from members y inside) needs) [
        | inl there ↦ or_left (is_there content rows r) (list_any (λ member. gives content member r) (planned members)) ((there_is content rows r).1 there)
        | inr given ↦ or_right (is_there content rows r) (list_any (λ member. gives content member r) (planned members))
            (any_at (λ (member : List ℕ). gives content member r) (planned members) given.giver (planned_inside members given.giver plan given.member) ((gives_is content given.giver r).1 given.gives))
      ]

  planned_sub : (members : List (List ℕ)) → Contains (sublists (candidates content rows)) (planned members)
  unfolding planned
  planned_sub members = filter_is_sublist (λ (y : List ℕ). list_any (same_id y) members) (candidates content rows)

  pub good_found : (id : List ℕ) → IsGood (world_of content rows) id → is_good content rows id ≡ true
  good_found id good =
      any_at (λ (members : List (List ℕ)). list_any (same_id id) members && is_plan content rows members) (sublists (candidates content rows)) (planned good.members)
      (planned_sub good.members)
      (and_from (list_any (same_id id) (planned good.members)) (is_plan content rows (planned good.members))
      (any_at (same_id id) (planned good.members) id (planned_inside good.members id good.plan good.member) (itself id))
      (planned_is_plan good.members good.plan))

  pub good_both_ways : (id : List ℕ) → (is_good content rows id ≡ true) ↔ IsGood (world_of content rows) id
  good_both_ways id = (good_from id, good_found id)
