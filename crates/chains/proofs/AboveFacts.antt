-- What gives an id, and whether it is there, by the indices of what supersedes it.
use Rattle.std.proofs.Common.{◌≡◌, ◌∙◌, ℕ, ◌<◌, ◌&&◌, Bool, true, List, [], ◌∷◌, length, filter, refl, sym, subst, inl, inr}
use Rattle.std.specs.Prelude.{◌↔◌}
use Rattle.std.specs.Cmp.{both_ways}
use Rattle.std.specs.List.{Contains}
use Rattle.std.specs.Str.{bytes_eq}
use Rattle.std.proofs.lemmas.List.Kept.{IsStrictlySortedBy-filter}
use Rattle.lemmas.proofs.ListFacts.{any_at, any_from, first_true, kept_from, kept_inside}
use Rattle.zone_lists.specs.Installed.{is_installed, is_installed_state, is_listed}
use Rattle.zone_lists.specs.declared.zones.ZoneRow.{ZoneRow}
use Rattle.catalogue.specs.Content.{Content, IsInOrder, Supersedes, superseders}
use Rattle.catalogue.specs.Ids.{Ascend, id_cmp}
use Rattle.catalogue.proofs.SupersedeFacts.{superseder_catalogued, superseder_is}
use Rattle.supersede.specs.Giving.{givers_of, is_candidate, is_there}
use Rattle.supersede.specs.Leading.{Gives, InstalledGiver, IsThere, IsWay}
use Rattle.supersede.proofs.LeadingFacts.{there_is}
use Rattle.requisites.specs.Leads.{IsPath, Leads}
use Rattle.requisites.specs.Nodes.{AreReversed, Links, mark_of, row}
use Rattle.requisites.proofs.LeadsFacts.{leads_closed, leads_itself, leads_more}
use Rattle.chains.specs.Climbs.{AreAbove, IsMarkedAbove}
use Rattle.verdicts.specs.Indices.{IndexOf, id_at, AreIndicesOf}
use Rattle.listings.specs.SeenIndices.{AreThere, InstalledAt}
use Rattle.chains.proofs.FrameFacts.{giver_is, givers_ascend}
use Rattle.listings.proofs.MadeCutFacts.{candidate_catalogued}
use Rattle.listings.proofs.SupersederFacts.{unheld}
use Rattle.verdicts.proofs.OrderFacts.{ascending_same}
use Rattle.verdicts.proofs.IndexFacts.{at_inside, inside_at}
use Rattle.std.proofs.lemmas.List.{get_or-map}

-- ---- lists that lead the other way round

module _ {A : Type 0} (R S : A → A → Type 0) (P : A → Type 0) (handed : (u v : A) → P u → R u v → P v × S v u) where
  path_turned : (x : A) (list : List A) (y : A) → P x → IsPath R x list y → Leads S y x
  path_turned x [] y here same = (let Q : A → Type 0 = λ z. Leads S z x in subst Q same (leads_itself S x))
  path_turned x (z ∷ zs) y here path = leads_more (path_turned z zs y (handed x z here path.0).0 path.1) (handed x z here path.0).1

  pub leads_turned : {x y : A} → P x → Leads R x y → Leads S y x
  leads_turned {x} {y} here leads = path_turned x leads.list y here leads.path

-- what is installed is listed
listed_if_installed : (rows : List ZoneRow) (id : List ℕ) → is_installed rows id ≡ true → is_listed rows id ≡ true
listed_if_installed rows id h =
    let found = any_from (λ (row : ZoneRow). bytes_eq row.sysmod id && is_installed_state row.state) rows h in
    any_at (λ (row : ZoneRow). bytes_eq row.sysmod id) rows found.element found.member (first_true (bytes_eq found.element.sysmod id) (is_installed_state found.element.state) found.passes)

module _ (content : Content) (ordered : IsInOrder content) (ids above : List (List ℕ)) (are : AreAbove content ids above) where
  above_at : (p : ℕ) → p < length ids → AreIndicesOf ids (superseders content (id_at ids p)) (row above p)
  above_at p below = let P : List (List ℕ) → Type 0 = λ l. AreIndicesOf ids l (row above p) in subst P (get_or-map (superseders content) ids p [] [] below) (are.indexed.each p below)

  -- a way from what stands at an index
  record WayFrom (to : List ℕ) (q : ℕ) : Type 0 where
    within : q < length ids
    way : List (List ℕ)
    leads : IsWay content (id_at ids q) way to

  way_up : (index q : ℕ) → index < length ids → Leads (Links above (length ids)) index q → WayFrom (id_at ids index) q
  way_up index q below leads =
      leads_closed (λ p. WayFrom (id_at ids index) p)
      (λ p r here step. let at = above_at p here.within in record {
        within = step.index;
        way = id_at ids p ∷ here.way;
        leads = ((superseder_is content (id_at ids p) (id_at ids r) ordered).0 (at.listed r step.listed), here.leads);
      })
      (record { within = below; way = []; leads = refl }) leads

  -- the index of what leads down to an index
  record IndexAbove (index : ℕ) (id : List ℕ) : Type 0 where
    at : IndexOf ids id
    leads : Leads (Links above (length ids)) index at.index

  way_down : (index : ℕ) → index < length ids → (y : List ℕ) (way : List (List ℕ)) → IsWay content y way (id_at ids index) → IndexAbove index y
  way_down index below y [] same = record { at = record { index = index; within = below; is = sym same }; leads = leads_itself (Links above (length ids)) index }
  way_down index below y (next ∷ later) way =
      let rest = way_down index below next later way.1 in
      let P : List ℕ → Type 0 = λ x. Supersedes content y x in
      let own = id_at ids rest.at.index in
      let step : Supersedes content y own = subst P (sym rest.at.is) way.0 in
      let named : Contains (superseders content own) y = (superseder_is content own y ordered).1 step in
      let at = inside_at ids y (are.whole own y (at_inside ids rest.at.index rest.at.within) named) in
      let Q : List ℕ → Type 0 = λ x. Contains (superseders content own) x in
      record { at = at; leads = leads_more rest.leads (record { listed = (above_at rest.at.index rest.at.within).whole at.index at.within (subst Q (sym at.is) named); index = at.within }) }

  -- ---- what is there

  module _ (rows : List ZoneRow) (below : List (List ℕ)) (turned : AreReversed above (length ids) below) where
    up : (source q : ℕ) → Leads (Links below (length ids)) source q → Leads (Links above (length ids)) q source
    up source q leads = leads_turned (Links below (length ids)) (Links above (length ids)) (λ p. Unit {0}) (λ u v here link. (tt, turned.only v u link.listed)) tt leads

    down : (index q : ℕ) → index < length ids → Leads (Links above (length ids)) index q → Leads (Links below (length ids)) q index
    down index q within leads =
        leads_turned (Links above (length ids)) (Links below (length ids)) (λ p. p < length ids) (λ u v here step. (step.index, record { listed = turned.turned u v step; index = here }))
        within leads

    there_up : (q : ℕ) → q < length ids → InstalledAt rows ids below q → IsThere content rows (id_at ids q)
    there_up q within at = by (way_up q at.source within (up at.source q at.leads)).way (way_up q at.source within (up at.source q at.leads)).leads where
      by : (way : List (List ℕ)) → IsWay content (id_at ids at.source) way (id_at ids q) → IsThere content rows (id_at ids q)
      by [] same = (let P : List ℕ → Type 0 = λ x. is_listed rows x ≡ true in inl (subst P same (listed_if_installed rows (id_at ids at.source) at.installed)))
      by (next ∷ later) way = inr (record {
        giver = id_at ids at.source;
        installed = at.installed;
        gives = record {
          catalogued = superseder_catalogued content next (id_at ids at.source) ((superseder_is content next (id_at ids at.source) ordered).1 way.0);
          way = next ∷ later;
          leads = way;
        };
      })

    there_down : (q : ℕ) → q < length ids → InstalledGiver content rows (id_at ids q) → InstalledAt rows ids below q
    there_down q within by =
        let indexed = way_down q within by.giver by.gives.way by.gives.leads in
        let I : List ℕ → Type 0 = λ x. is_installed rows x ≡ true in
        record {
          source = indexed.at.index;
          within = indexed.at.within;
          installed = subst I (sym indexed.at.is) by.installed;
          leads = down q indexed.at.index within indexed.leads;
        }

    pub marks_there : (marks : List Bool) → AreThere rows ids below marks → (p : ℕ) → p < length ids → mark_of marks p ≡ is_there content rows (id_at ids p)
    marks_there marks there p within =
        let is = there.each p within in
        both_ways (mark_of marks p) (is_there content rows (id_at ids p))
        (λ marked. (there_is content rows (id_at ids p)).1 (elim (is.0 marked) [ inl listed ↦ inl listed | inr at ↦ there_up p within at ]))
        (λ here. is.1 (elim ((there_is content rows (id_at ids p)).0 here) [ inl listed ↦ inl listed | inr by ↦ inr (there_down p within by) ]))

  -- ---- candidates

  -- marked ids above an index are the candidates that give what stands there
  pub candidates_found : (rows : List ZoneRow) (marks : List Bool) (index : ℕ) (found : List (List ℕ)) → index < length ids → Ascend found
      → ((id : List ℕ) → Contains found id ↔ IsMarkedAbove ids above marks index id)
      → ((q : ℕ) → Leads (Links above (length ids)) index q → mark_of marks q ≡ is_candidate content rows (id_at ids q))
      → found ≡ filter (λ giver. is_candidate content rows giver) (givers_of content (id_at ids index))
  candidates_found rows marks index found below up each candidates =
      let to = id_at ids index in
      let C : List ℕ → Type 0 = λ x. is_candidate content rows x ≡ true in
      let G : List ℕ → Type 0 = λ x. Gives content x to in
      ascending_same found (filter (λ giver. is_candidate content rows giver) (givers_of content to)) up
      (IsStrictlySortedBy-filter id_cmp (λ giver. is_candidate content rows giver) (givers_of content to) (givers_ascend content to ordered.sysmods))
      (λ id inside.
      let at = (each id).0 inside in
      let own : C (id_at ids at.own) = sym (candidates at.own at.leads) ∙ at.marked in
      let way = way_up index at.own below at.leads in
      let given : G (id_at ids at.own) = record { catalogued = candidate_catalogued content rows (id_at ids at.own) own; way = way.way; leads = way.leads } in
      kept_inside (λ giver. is_candidate content rows giver) (givers_of content to) id ((giver_is content to id).1 (subst G at.is given)) (subst C at.is own))
      (λ id inside.
      let kept = kept_from (λ giver. is_candidate content rows giver) (givers_of content to) id inside in
      let given = (giver_is content to id).0 kept.member in
      let indexed = way_down index below id given.way given.leads in
      (each id).1 (record {
        own = indexed.at.index;
        within = indexed.at.within;
        is = indexed.at.is;
        marked = candidates indexed.at.index indexed.leads ∙ subst C (sym indexed.at.is) kept.passes;
        leads = indexed.leads;
      }))

-- ---- without holds

pub unheld_above : (content : Content) (ids above : List (List ℕ)) → AreAbove content ids above → AreAbove (unheld content) ids above
unheld_above content ids above are = record { indexed = are.indexed; whole = are.whole }
