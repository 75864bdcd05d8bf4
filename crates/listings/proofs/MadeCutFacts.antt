-- The nodes that are made of a content and a zone are a cut of its world.
use Rattle.std.proofs.Common.{◌≡◌, ◌⊎◌, ◌∙◌, ℕ, ◌<◌, Bool, true, false, List, [], length, map, is_some, Option, Some, None, refl, sym, ap, subst, inl, inr, arith}
use Rattle.std.specs.List.{Contains, flat_map, list_any}
use Rattle.std.specs.Option.{IsSomeAnd}
use Rattle.lemmas.proofs.ListFacts.{any_at, any_from, none_inside}
use Rattle.zone_lists.specs.Installed.{is_installed}
use Rattle.zone_lists.specs.declared.zones.ZoneRow.{ZoneRow}
use Rattle.catalogue.specs.Content.{Content, Supersedes, ids_of, record_of}
use Rattle.catalogue.specs.Ids.{Ascend, same_id}
use Rattle.catalogue.specs.declared.sysmod.Sysmod.{Sysmod}
use Rattle.catalogue.proofs.IdFacts.{itself, one_id}
use Rattle.supersede.specs.Giving.{always_needs, conds_of, fmids_of, is_candidate, needs_in, sup_of}
use Rattle.requisites.specs.Nodes.{IsMarked, mark_of, row, world}
use Rattle.requisites.specs.declared.nodes.Nodes.{Nodes}
use Rattle.requisites.proofs.SourceFacts.{marked_inside}
use Rattle.verdicts.specs.Indices.{id_at}
use Rattle.listings.specs.Cuts.{IsCut, NeedIndex}
use Rattle.listings.specs.SeenIndices.{AreSeen, AreThere, IsSupSeen}
use Rattle.listings.specs.Sights.{Sight, all_needs, needs_seen, sight_of}
use Rattle.verdicts.specs.Worlds.{world_of}
use Rattle.listings.proofs.ConditionalFacts.{may_be_needed}
use Rattle.verdicts.proofs.IndexFacts.{inside_at, order_down, order_up}
use Rattle.listings.proofs.SeenFacts.{need_inside}
use Rattle.listings.proofs.WayFacts.{AreWays, gives_at, listed_record, superseder_listed, there_at}

-- a candidate is catalogued
pub candidate_catalogued : (content : Content) (rows : List ZoneRow) (id : List ℕ) → is_candidate content rows id ≡ true → Contains (ids_of content) id
candidate_catalogued content rows id h = listed_record content.sysmods id (known (record_of content id) h) where
  known : (o : Option Sysmod) → list_any (λ fmid. is_installed rows fmid) (fmids_of o) ≡ true → is_some o ≡ true
  known None h = absurd (cc)
  known (Some sysmod) h = refl

module _ (content : Content) (rows : List ZoneRow) (members : List (List ℕ)) (nodes : Nodes)
    (ascend : Ascend members)
    (ids_inside : (id : List ℕ) → Contains (ids_of content) id → Contains members id)
    (needs_inside : (id : List ℕ) → Contains (flat_map all_needs (map (sight_of content) (ids_of content))) id → Contains members id)
    (seen : AreSeen rows (sight_of content) (ids_of content) members (length members) nodes.candidates.items nodes.needs)
    (supersedes : IsSupSeen (sight_of content) (ids_of content) members (length members) nodes.supersedes)
    (there : AreThere rows members nodes.supersedes nodes.there.items) where
  as_many : length nodes.candidates.items ≡ length members
  as_many = seen.candidates_are.len

  -- ---- what is catalogued

  candidate_listed : (id : List ℕ) → is_candidate content rows id ≡ true → Contains (ids_of content) id
  candidate_listed id h = candidate_catalogued content rows id h

  is_listed_id : (id : List ℕ) → Contains (ids_of content) id ⊎ (Contains (ids_of content) id → ⊥)
  is_listed_id id = go (list_any (same_id id) (ids_of content)) refl where
    go : (b : Bool) → list_any (same_id id) (ids_of content) ≡ b → Contains (ids_of content) id ⊎ (Contains (ids_of content) id → ⊥)
    go true on = let found = any_from (same_id id) (ids_of content) on in let P : List ℕ → Type 0 = λ x. Contains (ids_of content) x in inl (subst P (sym (one_id id found.element found.passes)) found.member)
    go false off = inr (λ inside. let on : list_any (same_id id) (ids_of content) ≡ true = any_at (same_id id) (ids_of content) id inside (itself id) in cc)

  -- ---- candidates

  candidate_up : (p : ℕ) → p < length members → IsMarked nodes.candidates.items p → is_candidate content rows (id_at members p) ≡ true
  candidate_up p below marked =
      let view = seen.candidates_are.each p below in
      elim (is_listed_id (id_at members p)) [
        | inl listed ↦ sym (ap (λ (s : Sight). list_any (λ fmid. is_installed rows fmid) s.fmids) (view.seen.listed listed)) ∙ sym view.so ∙ marked.is
        | inr outside ↦ (let off : mark_of nodes.candidates.items p ≡ false = view.so ∙ ap (list_any (λ fmid. is_installed rows fmid)) (view.seen.unlisted outside).fmids in let on = marked.is in absurd (cc))
      ]

  candidate_down : (p : ℕ) → p < length members → is_candidate content rows (id_at members p) ≡ true → IsMarked nodes.candidates.items p
  candidate_down p below h =
      let view = seen.candidates_are.each p below in
      record { is = view.so ∙ ap (λ (s : Sight). list_any (λ fmid. is_installed rows fmid) s.fmids) (view.seen.listed (candidate_listed (id_at members p) h)) ∙ h }

  candidate_within : (p : ℕ) → IsMarked nodes.candidates.items p → p < length members
  candidate_within p marked = let inside = marked_inside nodes.candidates.items p marked in omega (arith, inside, as_many)

  -- ---- needs

  need_within : (p q : ℕ) → p < length members → Contains (row nodes.needs p) q → q < length members
  need_within p q below needs = (seen.needs_are.each p below).so.within q needs

  need_up : (p q : ℕ) → IsMarked nodes.candidates.items p → Contains (row nodes.needs p) q → Contains (needs_in content rows (id_at members p)) (id_at members q)
  need_up p q marked needs =
      let below = candidate_within p marked in
      let view = seen.needs_are.each p below in
      let P : Sight → Type 0 = λ s. Contains (needs_seen rows s) (id_at members q) in
      subst P (view.seen.listed (candidate_listed (id_at members p) (candidate_up p below marked))) (view.so.listed q needs)

  need_down : (p : ℕ) (need : List ℕ) → IsMarked nodes.candidates.items p → Contains (needs_in content rows (id_at members p)) need → NeedIndex members (world nodes) p need
  need_down p need marked needs =
      let below = candidate_within p marked in
      let listed = candidate_listed (id_at members p) (candidate_up p below marked) in
      let view = seen.needs_are.each p below in
      let named = may_be_needed rows (always_needs content (id_at members p)) (conds_of (record_of content (id_at members p))) need needs in
      let at = inside_at members need (needs_inside need (need_inside (sight_of content) (ids_of content) (id_at members p) need listed named)) in
      let P : Sight → Type 0 = λ s. Contains (needs_seen rows s) (id_at members at.index) in
      let Q : List ℕ → Type 0 = λ x. Contains (needs_in content rows (id_at members p)) x in
      record {
        at = at;
        needs = view.so.whole at.index at.within (subst P (sym (view.seen.listed listed)) (subst Q (sym at.is) needs));
      }

  -- ---- superseding

  step_up : (p q : ℕ) → p < length members → Contains (row nodes.supersedes p) q → Supersedes content (id_at members p) (id_at members q)
  step_up p q below linked =
      let view = supersedes.each p below in
      let inside = view.so.listed q linked in
      elim (is_listed_id (id_at members p)) [
        | inl listed ↦ (let P : Sight → Type 0 = λ s. Contains s.superseded (id_at members q) in superseded_by (record_of content (id_at members p)) (subst P (view.seen.listed listed) inside))
        | inr outside ↦ (let P : List (List ℕ) → Type 0 = λ l. Contains l (id_at members q) in absurd (none_inside (id_at members q) (subst P (view.seen.unlisted outside).superseded inside)))
      ]
    where
      superseded_by : (o : Option Sysmod) → Contains (sup_of o) (id_at members q) → IsSomeAnd o (λ sysmod. Contains sysmod.sup (id_at members q))
      superseded_by None inside = absurd (none_inside (id_at members q) inside)
      superseded_by (Some sysmod) inside = inside

  step_down : (p q : ℕ) → p < length members → q < length members → Supersedes content (id_at members p) (id_at members q) → Contains (row nodes.supersedes p) q
  step_down p q below within step =
      let view = supersedes.each p below in
      let P : Sight → Type 0 = λ s. Contains s.superseded (id_at members q) in
      view.so.whole q within (subst P (sym (view.seen.listed (superseder_listed content (id_at members p) (id_at members q) step))) (superseded_in (record_of content (id_at members p)) step))
    where
      superseded_in : (o : Option Sysmod) → IsSomeAnd o (λ sysmod. Contains sysmod.sup (id_at members q)) → Contains (sup_of o) (id_at members q)
      superseded_in None none = absurd none
      superseded_in (Some sysmod) inside = inside

  ways : AreWays content members nodes.supersedes
  ways = record {
    ascend = ascend;
    up = λ p q below within linked. step_up p q below linked;
    down = step_down;
    inside = λ giver q within gives. ids_inside giver gives.catalogued;
  }

  -- ---- the cut

  pub made_cut : IsCut (world_of content rows) members (world nodes)
  made_cut = record {
    within = candidate_within;
    candidates = λ p below. (candidate_up p below, candidate_down p below);
    needs_within = λ p q marked needs. need_within p q (candidate_within p marked) needs;
    needs = need_up;
    all_needs = need_down;
    there = there_at content members nodes.supersedes ways rows nodes.there.items there;
    gives = λ p q marked within. (
        let below = candidate_within p marked in
        gives_at content members nodes.supersedes ways (length nodes.candidates.items) p q as_many below within (candidate_listed (id_at members p) (candidate_up p below marked)));
    givers = λ giver q within candidate gives. inside_at members giver (ids_inside giver gives.catalogued);
    order = λ p q below within. (
      λ least. order_up members p q [] ascend within least,
      λ not_above. order_down members p q [] ascend below not_above,
    );
  }

-- the same, as the call that makes the nodes has it
pub cut_of : (content : Content) (rows : List ZoneRow) (ids : List (List ℕ)) (sights : List Sight) (members : List (List ℕ)) (nodes : Nodes)
    → ids ≡ ids_of content → sights ≡ map (sight_of content) ids → Ascend members
    → ((id : List ℕ) → Contains ids id → Contains members id)
    → ((id : List ℕ) → Contains (flat_map all_needs sights) id → Contains members id)
    → AreSeen rows (sight_of content) ids members (length members) nodes.candidates.items nodes.needs
    → IsSupSeen (sight_of content) ids members (length members) nodes.supersedes
    → AreThere rows members nodes.supersedes nodes.there.items
    → IsCut (world_of content rows) members (world nodes)
cut_of content rows ids sights members nodes ids_are sights_are ascend ids_inside needs_inside seen supersedes there =
    let P : List (List ℕ) → Type 0 = λ l. (id : List ℕ) → Contains l id → Contains members id in
    let Q : List Sight → Type 0 = λ l. (id : List ℕ) → Contains (flat_map all_needs l) id → Contains members id in
    let R : List (List ℕ) → Type 0 = λ l. AreSeen rows (sight_of content) l members (length members) nodes.candidates.items nodes.needs in
    let S : List (List ℕ) → Type 0 = λ l. IsSupSeen (sight_of content) l members (length members) nodes.supersedes in
    made_cut content rows members nodes ascend
    (subst P ids_are ids_inside)
    (subst Q (sights_are ∙ ap (map (sight_of content)) ids_are) needs_inside)
    (subst R ids_are seen)
    (subst S ids_are supersedes)
    there
