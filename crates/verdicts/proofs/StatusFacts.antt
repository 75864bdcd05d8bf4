-- Which verdict it is: good exactly where a plan exists, held exactly for a candidate in no plan, lack exactly for
-- no candidate.
use Rattle.std.proofs.Common.{◌≡◌, ℕ, zero, suc, ◌⊎◌, ◌&&◌, ◌||◌, ◌++◌, Bool, true, false, not, cond, List, [], ◌∷◌, length, Option, Some, None, refl, sym, ap, subst, inl, inr}
use Rattle.std.specs.Prelude.{◌↔◌, is_none, is_some}
use Rattle.std.specs.List.{Contains, filter, find, list_any}
use Rattle.std.proofs.lemmas.List.Elements.{Contains-append_left, Contains-push, Contains-push_cases}
use Rattle.std.proofs.lemmas.Bool.{and_from, or_left}
use Rattle.lemmas.proofs.ListFacts.{any_at, first_true, kept_from, kept_inside, second_true}
use Rattle.zone_lists.specs.declared.zones.ZoneRow.{ZoneRow}
use Rattle.zone_lists.specs.Installed.{is_installed}
use Rattle.catalogue.specs.Content.{Content, ids_of, record_of}
use Rattle.catalogue.specs.Ids.{in_order, same_id}
use Rattle.catalogue.specs.declared.sysmod.Sysmod.{Sysmod}
use Rattle.catalogue.proofs.IdFacts.{in_order_has, itself}
use Rattle.supersede.specs.Giving.{fmids_of, gives, is_candidate, is_there, needs_in, sup_of, supersedes_within}
use Rattle.supersede.specs.Leading.{IsThere}
use Rattle.supersede.proofs.LeadingFacts.{gives_is, there_is}
use Rattle.requisites.specs.World.{IsGivenIn, IsGood}
use Rattle.verdicts.specs.Judge.{status_of}
use Rattle.verdicts.specs.Verdicts.{Judged, blocked_need, candidates, chosen_plan, good, held_for, is_good, lack, open_needs, pick_for, verdict_of}
use Rattle.verdicts.specs.Worlds.{IsRightStatus, world_of}
use Rattle.verdicts.specs.declared.verdict.Status.{Status}
use Rattle.verdicts.specs.declared.verdict.Status.TheVariants as status
use Rattle.verdicts.proofs.GoodFacts.{candidate_inside, good_found, good_from}

-- what plain search passed over
pub find_none : {A : Type 0} (p : A → Bool) (xs : List A) (x : A) → find p xs ≡ None → Contains xs x → p x ≡ false
find_none {A} p xs x none inside = go (p x) refl where
  go : (b : Bool) → p x ≡ b → p x ≡ false
  go false e = e
  go true e = absurd (found p xs none (any_at p xs x inside e)) where
    found : (p : A → Bool) (xs : List A) → find p xs ≡ None → list_any p xs ≡ true → ⊥
    found p [] none any = cc
    found p (y ∷ ys) none any = step (p y) (found p ys) none any where
      step : (b : Bool) → (find p ys ≡ None → list_any p ys ≡ true → ⊥) → cond b (Some y) (find p ys) ≡ None → (b || list_any p ys) ≡ true → ⊥
      step true rest none any = cc
      step false rest none any = rest none any

-- what plain search found
pub record IsFound {A : Type 0} (p : A → Bool) (x : A) : Type 0 where
  pub passes : p x ≡ true

pub find_some : {A : Type 0} (p : A → Bool) (xs : List A) (x : A) → find p xs ≡ Some x → IsFound p x
find_some p [] x e = absurd (cc)
find_some {A} p (y ∷ ys) x e = step (p y) refl (find_some p ys x) e where
  step : (b : Bool) → p y ≡ b → (find p ys ≡ Some x → IsFound p x) → cond b (Some y) (find p ys) ≡ Some x → IsFound p x
  step true on rest e = let same : y ≡ x = (cc) in let P : A → Type 0 = λ z. IsFound p z in subst P same (record { passes = on })
  step false off rest e = rest e

pub some_unless_none : {A : Type 0} (o : Option A) → is_none o ≡ false → (x : A) × (o ≡ Some x)
some_unless_none None e = absurd (cc)
some_unless_none (Some x) e = (x, refl)

pub true_unless_false : (b : Bool) → (b ≡ false → ⊥) → b ≡ true
true_unless_false true h = refl
true_unless_false false h = absurd (h refl)

module _ (content : Content) (rows : List ZoneRow) where
  -- a candidate gives itself
  pub candidate_gives : (id : List ℕ) → is_candidate content rows id ≡ true → gives content id id ≡ true
  candidate_gives id h = and_from (is_some (record_of content id)) (supersedes_within content (length content.sysmods) id id) (catalogued (record_of content id) h) (reaches (length content.sysmods)) where
    catalogued : (o : Option Sysmod) → list_any (λ fmid. is_installed rows fmid) (fmids_of o) ≡ true → is_some o ≡ true
    catalogued None h = absurd (cc)
    catalogued (Some sysmod) h = refl

    reaches : (n : ℕ) → supersedes_within content n id id ≡ true
    reaches zero = itself id
    reaches (suc n) = or_left (same_id id id) (list_any (λ next. supersedes_within content n next id) (sup_of (record_of content id))) (itself id)

  -- all that is good
  goods : List (List ℕ)
  goods = filter (is_good content rows) (candidates content rows)

  good_inside : (id : List ℕ) → IsGood (world_of content rows) id → Contains goods id
  unfolding goods
  good_inside id is = kept_inside (is_good content rows) (candidates content rows) id (candidate_inside content rows id (is.plan.candidates id is.member)) (good_found content rows id is)

  inside_good : (id : List ℕ) → Contains goods id → IsGood (world_of content rows) id
  unfolding goods
  inside_good id inside = good_from content rows id (kept_from (is_good content rows) (candidates content rows) id inside).passes

  -- a need with a pick is given by something good
  picked_given : (members : List (List ℕ)) (need pick : List ℕ) → ((id : List ℕ) → Contains goods id → Contains members id) → pick_for content rows need ≡ Some pick → IsGivenIn (world_of content rows) members need
  picked_given members need pick wider e = go (is_good content rows need) refl e where
    go : (b : Bool) → is_good content rows need ≡ b → cond b (Some need) (find (λ id. is_good content rows id && gives content id need) (in_order (ids_of content))) ≡ Some pick → IsGivenIn (world_of content rows) members need
    go true on e = let is = good_from content rows need on in record {
      giver = need;
      member = wider need (good_inside need is);
      gives = (gives_is content need need).0 (candidate_gives need (is.plan.candidates need is.member));
    }
    go false off e =
        let passes = (find_some (λ id. is_good content rows id && gives content id need) (in_order (ids_of content)) pick e).passes in
        record {
          giver = pick;
          member = wider pick (good_inside pick (good_from content rows pick (first_true (is_good content rows pick) (gives content pick need) passes)));
          gives = (gives_is content pick need).0 (second_true (is_good content rows pick) (gives content pick need) passes);
        }

  -- a candidate without a blocked need is good
  pub unblocked_good : (id : List ℕ) → is_candidate content rows id ≡ true → blocked_need content rows id ≡ None → IsGood (world_of content rows) id
  unblocked_good id candidate none = record {
    members = goods ++ id ∷ [];
    plan = record {
      candidates = λ y inside. elim (Contains-push_cases goods id y inside) [
        | inl before ↦ (let is = inside_good y before in is.plan.candidates y is.member)
        | inr same ↦ (let P : List ℕ → Type 0 = λ x. is_candidate content rows x ≡ true in subst P same candidate)
      ];
      needs_met = λ y r inside needs. elim (Contains-push_cases goods id y inside) [
        | inl before ↦ of_good y r (inside_good y before) needs
        | inr same ↦ own r (let P : List ℕ → Type 0 = λ x. Contains (needs_in content rows x) r in subst P (sym same) needs)
      ];
    };
    member = Contains-push goods id;
  } where
    wider : (x : List ℕ) → Contains goods x → Contains (goods ++ id ∷ []) x
    wider x inside = Contains-append_left goods (id ∷ []) x inside

    of_good : (y r : List ℕ) → IsGood (world_of content rows) y → Contains (needs_in content rows y) r → IsThere content rows r ⊎ IsGivenIn (world_of content rows) (goods ++ id ∷ []) r
    of_good y r is needs = elim (is.plan.needs_met y r is.member needs) [
      | inl there ↦ inl there
      | inr given ↦ inr (record {
        giver = given.giver;
        member = wider given.giver (good_inside given.giver (record { members = is.members; plan = is.plan; member = given.member }));
        gives = given.gives;
      })
    ]

    own : (r : List ℕ) → Contains (needs_in content rows id) r → IsThere content rows r ⊎ IsGivenIn (world_of content rows) (goods ++ id ∷ []) r
    own r needs = go (is_there content rows r) refl where
      go : (b : Bool) → is_there content rows r ≡ b → IsThere content rows r ⊎ IsGivenIn (world_of content rows) (goods ++ id ∷ []) r
      go true there = inl ((there_is content rows r).0 there)
      go false absent =
          let listed : Contains (open_needs content rows id) r = kept_inside (λ (need : List ℕ). not (is_there content rows need)) (needs_in content rows id) r needs (ap not absent) in
          let passed = find_none (λ (need : List ℕ). is_none (pick_for content rows need)) (in_order (open_needs content rows id)) r none ((in_order_has (open_needs content rows id) r).1 listed) in
          let pick = some_unless_none (pick_for content rows r) passed in
          inr (picked_given (goods ++ id ∷ []) r pick.0 wider pick.1)

  -- a verdict by what decides it
  verdict_by : Bool → Bool → Option (List ℕ) → List (List ℕ) → Judged
  verdict_by b c o plan = cond b (good plan) (cond c (held_for content rows o) lack)

  record IsRight (id : List ℕ) (v : Status) : Type 0 where
    is_good_for : (v ≡ status.Good) ↔ IsGood (world_of content rows) id
    is_held_for : (v ≡ status.Held) ↔ ((is_candidate content rows id ≡ true) × (¬ IsGood (world_of content rows) id))
    is_lack_for : (v ≡ status.Lack) ↔ (¬ (is_candidate content rows id ≡ true))

  pub not_good : (id : List ℕ) → is_good content rows id ≡ false → IsGood (world_of content rows) id → ⊥
  not_good id off is = let on : is_good content rows id ≡ true = good_found content rows id is in cc

  right_by : (id : List ℕ) (plan : List (List ℕ)) (b c : Bool) (o : Option (List ℕ)) → is_good content rows id ≡ b → is_candidate content rows id ≡ c → blocked_need content rows id ≡ o → (v : Status) → v ≡ status_of (verdict_by b c o plan) → IsRight id v
  unfolding verdict_by
  right_by id plan true c o e_good e_candidate e_blocked v is = let found = good_from content rows id e_good in record {
    is_good_for = (λ h. found, λ h. is);
    is_held_for = (λ h. absurd (cc), λ h. absurd (h.1 found));
    is_lack_for = (λ h. absurd (cc), λ h. absurd (h (found.plan.candidates id found.member)));
  }
  right_by id plan false true None e_good e_candidate e_blocked v is = absurd (not_good id e_good (unblocked_good id e_candidate e_blocked))
  right_by id plan false true (Some need) e_good e_candidate e_blocked v is = record {
    is_good_for = (λ h. absurd (cc), λ h. absurd (not_good id e_good h));
    is_held_for = (λ h. (e_candidate, not_good id e_good), λ h. is);
    is_lack_for = (λ h. absurd (cc), λ h. absurd (h e_candidate));
  }
  right_by id plan false false o e_good e_candidate e_blocked v is = record {
    is_good_for = (λ h. absurd (cc), λ h. absurd (not_good id e_good h));
    is_held_for = (λ h. absurd (cc), λ h. absurd (let on = h.0 in cc));
    is_lack_for = (λ h on. absurd (cc), λ h. is);
  }

  pub right_status : (id : List ℕ) → IsRightStatus content rows id
  unfolding verdict_by
  right_status id =
      let right = right_by id (chosen_plan content rows id) (is_good content rows id) (is_candidate content rows id) (blocked_need content rows id) refl refl refl (status_of (verdict_of content rows id)) refl in
      record { good = right.is_good_for; held = right.is_held_for; lack = right.is_lack_for }
