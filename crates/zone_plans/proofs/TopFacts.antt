-- Which of some SYSMODs another one of them gives, by the indices of what supersedes them.
use Rattle.std.proofs.Common.{◌≡◌, ◌∙◌, ◌&&◌, ℕ, ◌+◌, ◌<◌, List, [], ◌∷◌, ◌++◌, Bool, true, false, Option, Some, None, is_some, length, map, get_or, take, refl, sym, ap, subst, inl, inr, arith}
use Rattle.std.specs.Prelude.{not}
use Rattle.std.specs.List.{Contains}
use Rattle.std.proofs.lemmas.Bool.{and_from, false_from_ne_true, not-true, not_from_false}
use Rattle.std.proofs.lemmas.List.{get_or-map, take_more}
use Rattle.std.proofs.lemmas.List.Elements.{Contains-push_cases}
use Rattle.std.proofs.lemmas.Map.Views.{Contains-from_any}
use Rattle.lemmas.proofs.ListFacts.{any_at, any_from, first_true, none_inside, second_true}
use Rattle.lemmas.proofs.TestFacts.{same_test}
use Rattle.catalogue.specs.Content.{Content, IsInOrder, Supersedes, superseders}
use Rattle.catalogue.specs.Ids.{Ascend, in_order, same_id}
use Rattle.catalogue.proofs.IdFacts.{in_order_any, itself, one_id}
use Rattle.catalogue.proofs.SupersedeFacts.{superseder_catalogued, superseder_is}
use Rattle.supersede.specs.Giving.{gives}
use Rattle.supersede.specs.Leading.{Gives, IsWay}
use Rattle.supersede.specs.Reach.{has}
use Rattle.supersede.proofs.LeadingFacts.{gives_is}
use Rattle.supersede.proofs.ReachFacts.{has_from}
use Rattle.requisites.specs.Leads.{Leads}
use Rattle.requisites.specs.Nodes.{IsMarked, Links, mark_of, row}
use Rattle.requisites.specs.Sources.{source_of}
use Rattle.requisites.proofs.LeadsFacts.{leads_closed, leads_itself, leads_more}
use Rattle.requisites.proofs.SourceFacts.{marked_inside}
use Rattle.verdicts.specs.Indices.{AreIndicesOf, IndexOf, IsAt, id_at}
use Rattle.verdicts.proofs.IndexFacts.{at_inside, inside_at, one_index}
use Rattle.chains.proofs.AboveFacts.{leads_turned}
use Rattle.zone_plans.specs.Choices.{is_given}
use Rattle.zone_plans.specs.Climbs.{AreKnownAmong, AreOthers, IsClimb, IsKnown, IsOther}

module _ (content : Content) (ids below : List (List ℕ)) (climb : IsClimb content ids below) (ordered : IsInOrder content) where
  above_at : (p : ℕ) → p < length ids → AreIndicesOf ids (superseders content (id_at ids p)) (row climb.above p)
  above_at p inside = let P : List (List ℕ) → Type 0 = λ l. AreIndicesOf ids l (row climb.above p) in subst P (get_or-map (superseders content) ids p [] [] inside) (climb.are.indexed.each p inside)

  -- a way from what stands at an index
  record WayFrom (to : List ℕ) (q : ℕ) : Type 0 where
    within : q < length ids
    way : List (List ℕ)
    leads : IsWay content (id_at ids q) way to

  way_up : (index q : ℕ) → index < length ids → Leads (Links climb.above (length ids)) index q → WayFrom (id_at ids index) q
  way_up index q inside leads =
      leads_closed (λ p. WayFrom (id_at ids index) p)
      (λ p r here step. let at = above_at p here.within in record {
        within = step.index;
        way = id_at ids p ∷ here.way;
        leads = ((superseder_is content (id_at ids p) (id_at ids r) ordered).0 (at.listed r step.listed), here.leads);
      })
      (record { within = inside; way = []; leads = refl }) leads

  -- the index of what leads down to an index
  record IndexAbove (index : ℕ) (id : List ℕ) : Type 0 where
    at : IndexOf ids id
    leads : Leads (Links climb.above (length ids)) index at.index

  way_down : (index : ℕ) → index < length ids → (y : List ℕ) (way : List (List ℕ)) → IsWay content y way (id_at ids index) → IndexAbove index y
  way_down index inside y [] same = record { at = record { index = index; within = inside; is = sym same }; leads = leads_itself (Links climb.above (length ids)) index }
  way_down index inside y (next ∷ later) way =
      let rest = way_down index inside next later way.1 in
      let P : List ℕ → Type 0 = λ x. Supersedes content y x in
      let own = id_at ids rest.at.index in
      let step : Supersedes content y own = subst P (sym rest.at.is) way.0 in
      let named : Contains (superseders content own) y = (superseder_is content own y ordered).1 step in
      let at = inside_at ids y (climb.are.whole own y (at_inside ids rest.at.index rest.at.within) named) in
      let Q : List ℕ → Type 0 = λ x. Contains (superseders content own) x in
      record { at = at; leads = leads_more rest.leads (record { listed = (above_at rest.at.index rest.at.within).whole at.index at.within (subst Q (sym at.is) named); index = at.within }) }

  up : (source q : ℕ) → Leads (Links below (length ids)) source q → Leads (Links climb.above (length ids)) q source
  up source q leads = leads_turned (Links below (length ids)) (Links climb.above (length ids)) (λ p. Unit {0}) (λ u v here link. (tt, climb.turned.only v u link.listed)) tt leads

  down : (index q : ℕ) → index < length ids → Leads (Links climb.above (length ids)) index q → Leads (Links below (length ids)) q index
  down index q within leads =
      leads_turned (Links climb.above (length ids)) (Links below (length ids)) (λ p. p < length ids) (λ u v here step. (step.index, record { listed = climb.turned.turned u v step; index = here }))
      within leads

  -- another index that leads down to one gives it
  index_gives : (p s : ℕ) → p < length ids → (s ≡ p → ⊥) → Ascend ids → Leads (Links below (length ids)) s p → Gives content (id_at ids s) (id_at ids p)
  index_gives p s inside ne ascend leads = by (way_up p s inside (up s p leads)).way (way_up p s inside (up s p leads)).within (way_up p s inside (up s p leads)).leads where
    by : (way : List (List ℕ)) → s < length ids → IsWay content (id_at ids s) way (id_at ids p) → Gives content (id_at ids s) (id_at ids p)
    by [] within same = absurd (ne (one_index ids s p [] ascend within inside same))
    by (next ∷ later) within way = record {
      catalogued = superseder_catalogued content next (id_at ids s) ((superseder_is content next (id_at ids s) ordered).1 way.0);
      way = next ∷ later;
      leads = way;
    }

  -- the index of what gives one
  pub giver_above : (p : ℕ) → p < length ids → (giver : List ℕ) → Gives content giver (id_at ids p) → (s : ℕ) × (IsAt ids giver s × Leads (Links below (length ids)) s p)
  giver_above p inside giver given =
      let found = way_down p inside giver given.way given.leads in
      (found.at.index, (record { within = found.at.within; is = found.at.is }, down p found.at.index inside found.leads))

  module _ (ascend : Ascend ids) (marks : List Bool) (found : List (Option ℕ)) (others : AreOthers below (length ids) marks found) (among : List (List ℕ)) (known : AreKnownAmong ids marks found among)
      (id : List ℕ) (listed : Contains among id) (p : ℕ) (at : IsAt ids id p) where
    same_other : (o : Option ℕ) → source_of found p ≡ o → IsOther below (length ids) marks p o → is_some o ≡ true → is_given content among id ≡ true
    same_other None e other on = absurd (cc)
    same_other (Some s) e other on =
        let G : List ℕ → Type 0 = λ x. gives content (id_at ids s) x ≡ true in
        let within = marked_at s other.marked in
        let gave : gives content (id_at ids s) id ≡ true = subst G at.is ((gives_is content (id_at ids s) (id_at ids p)).1 (index_gives p s at.within other.is_other ascend other.leads)) in
        let apart : same_id (id_at ids s) id ≡ false = false_from_ne_true (same_id (id_at ids s) id) (λ same.
        other.is_other (one_index ids s p [] ascend within at.within (one_id (id_at ids s) id same ∙ sym at.is))) in
        any_at (λ giver. not (same_id giver id) && gives content giver id) among (id_at ids s)
        (Contains-from_any {eq = same_id} one_id (id_at ids s) among ((known id listed).other p s at e))
        (and_from (not (same_id (id_at ids s) id)) (gives content (id_at ids s) id) (not_from_false (same_id (id_at ids s) id) apart) gave)
      where
        marked_at : (s : ℕ) → IsMarked marks s → s < length ids
        marked_at s marked = omega (arith, marked_inside marks s marked, others.len)

    other_same : (o : Option ℕ) → IsOther below (length ids) marks p o → is_given content among id ≡ true → is_some o ≡ true
    other_same (Some s) other on = refl
    other_same None none on =
        let by = any_from (λ giver. not (same_id giver id) && gives content giver id) among on in
        let apart = not-true (same_id by.element id) (first_true (not (same_id by.element id)) (gives content by.element id) by.passes) in
        let gave = second_true (not (same_id by.element id)) (gives content by.element id) by.passes in
        let G : List ℕ → Type 0 = λ x. gives content by.element x ≡ true in
        let giver = giver_above p at.within by.element ((gives_is content by.element (id_at ids p)).0 (subst G (sym at.is) gave)) in
        let same : giver.0 ≡ p = none giver.0 ((known by.element by.member).marked giver.0 giver.1.0) giver.1.1 in
        let S : ℕ → Type 0 = λ k. id_at ids k ≡ by.element in
        let is : by.element ≡ id = sym (subst S same giver.1.0.is) ∙ at.is in
        let T : List ℕ → Type 0 = λ x. same_id by.element x ≡ true in
        absurd (let on : same_id by.element id ≡ true = subst T is (itself by.element) in cc)

    given_here : is_some (source_of found p) ≡ is_given content among id
    given_here = same_test (is_some (source_of found p)) (is_given content among id)
        (same_other (source_of found p) refl (others.each p at.within))
        (other_same (source_of found p) (others.each p at.within))

-- the same of some ids in any order
pub given_is : (content : Content) (ids below : List (List ℕ)) → IsClimb content ids below → Ascend ids → (marks : List Bool) (found : List (Option ℕ)) → AreOthers below (length ids) marks found
    → (all : List (List ℕ)) → AreKnownAmong ids marks found (in_order all) → (id : List ℕ) → Contains all id → (p : ℕ) → IsAt ids id p → is_some (source_of found p) ≡ is_given content all id
given_is content ids below climb ascend marks found others all known id listed p at =
    let inside = at_inside ids p at.within in
    given_here content ids below climb (climb.ordered (id_at ids p) inside) ascend marks found others (in_order all) known id (among_too id listed) p at
    ∙ in_order_any (λ giver. not (same_id giver id) && gives content giver id) all where
      among_too : (id : List ℕ) → Contains all id → Contains (in_order all) id
      among_too id listed = Contains-from_any {eq = same_id} one_id id (in_order all) (in_order_any (same_id id) all ∙ has_from all id listed)

-- ---- those that are marked are the ids themselves

pub known_of_marks : (ids : List (List ℕ)) (below : List (List ℕ)) (marks : List Bool) (found : List (Option ℕ)) (among : List (List ℕ)) → marks ≡ map (has among) ids → AreOthers below (length ids) marks found → AreKnownAmong ids marks found among
known_of_marks ids below marks found among are others id listed = record {
  marked = λ p at. record { is = mark_at p at.within ∙ ap (has among) at.is ∙ has_from among id listed };
  other = λ p s at e.
      let P : Option ℕ → Type 0 = λ o. IsOther below (length ids) marks p o in
      let by = subst P e (others.each p at.within) in
      sym (mark_at s (omega (arith, marked_inside marks s by.marked, others.len))) ∙ by.marked.is;
} where
  mark_at : (p : ℕ) → p < length ids → mark_of marks p ≡ has among (id_at ids p)
  mark_at p inside = ap (λ (l : List Bool). mark_of l p) are ∙ get_or-map (has among) ids p [] false inside

-- ---- one after the other

pub known_none : (ids : List (List ℕ)) (marks : List Bool) (found : List (Option ℕ)) (among : List (List ℕ)) (id : List ℕ) → Contains [] id → IsKnown ids marks found among id
known_none ids marks found among id inside = absurd (none_inside id inside)

pub known_more : (ids : List (List ℕ)) (marks : List Bool) (found : List (Option ℕ)) (among xs : List (List ℕ)) (i : ℕ) (x : List ℕ) → i < length xs → x ≡ get_or xs i x
    → ((id : List ℕ) → Contains (take i xs) id → IsKnown ids marks found among id) → IsKnown ids marks found among x → (id : List ℕ) → Contains (take (i + 1) xs) id → IsKnown ids marks found among id
known_more ids marks found among xs i x below at so_far this id inside =
    let P : List (List ℕ) → Type 0 = λ l. Contains l id in
    elim (Contains-push_cases (take i xs) x id (subst P (take_more xs i x below ∙ ap (λ z. take i xs ++ z ∷ []) (sym at)) inside)) [
      | inl before ↦ so_far id before
      | inr same ↦ (let Q : List ℕ → Type 0 = λ y. IsKnown ids marks found among y in subst Q same this)
    ]
