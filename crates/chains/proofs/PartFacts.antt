-- Nodes that have all that a frame reaches are a cut of its content's world.
use Rattle.std.proofs.Common.{◌≡◌, ◌∙◌, ℕ, ◌<◌, Bool, false, List, [], length, map, get_or, sym, ap, subst, inl, inr, arith}
use Rattle.std.specs.Prelude.{◌↔◌}
use Rattle.std.specs.List.{Contains, list_any}
use Rattle.std.proofs.lemmas.List.{length-map}
use Rattle.std.proofs.lemmas.List.Elements.{Contains-append_cases, Contains-append_left, Contains-append_right}
use Rattle.zone_lists.specs.Installed.{is_installed}
use Rattle.zone_lists.specs.declared.zones.ZoneRow.{ZoneRow}
use Rattle.catalogue.specs.Content.{Content, Supersedes, ids_of, record_of}
use Rattle.catalogue.specs.Ids.{Ascend, in_order}
use Rattle.catalogue.proofs.IdFacts.{in_order_has}
use Rattle.supersede.specs.Giving.{always_needs, conds_of, is_candidate, may_need, needs_in, needs_where}
use Rattle.supersede.specs.Leading.{Gives}
use Rattle.requisites.specs.Nodes.{IsMarked, mark_of, row, world}
use Rattle.requisites.specs.declared.nodes.Nodes.{Nodes}
use Rattle.requisites.proofs.LeadsFacts.{leads_more}
use Rattle.requisites.proofs.SourceFacts.{marked_inside}
use Rattle.verdicts.specs.Indices.{id_at, AreIndexed, AreIndicesOf}
use Rattle.listings.specs.Cuts.{IsCut, NeedIndex}
use Rattle.listings.specs.SeenIndices.{AreThere}
use Rattle.chains.specs.FrameIndices.{node_needs}
use Rattle.chains.specs.Frames.{FrameLists, IsFrame, ids_in, node_of}
use Rattle.verdicts.specs.Worlds.{world_of}
use Rattle.chains.specs.declared.frames.FrameNode.{FrameNode}
use Rattle.listings.proofs.ConditionalFacts.{may_be_needed}
use Rattle.listings.proofs.MadeCutFacts.{candidate_catalogued}
use Rattle.verdicts.proofs.IndexFacts.{at_inside, inside_at, order_down, order_up}
use Rattle.std.proofs.lemmas.List.{get_or-map}
use Rattle.listings.proofs.WayFacts.{AreWays, gives_at, there_at}

module _ (content : Content) (rows : List ZoneRow) (start : List ℕ) (frame : FrameLists) (nodes : Nodes) (ascend : Ascend (ids_in frame.nodes)) (is : IsFrame content start frame)
    (candidates : nodes.candidates.items ≡ map (λ node. list_any (λ fmid. is_installed rows fmid) node.fmids) frame.nodes)
    (indexed : AreIndexed (ids_in frame.nodes) (map (node_needs rows) frame.nodes) nodes.needs)
    (supersedes : nodes.supersedes ≡ frame.supersedes)
    (there : AreThere rows (ids_in frame.nodes) nodes.supersedes nodes.there.items) where
  abbrev members : List (List ℕ)
  members = ids_in frame.nodes

  as_many : length nodes.candidates.items ≡ length members
  as_many = ap length candidates ∙ length-map frame.nodes (λ node. list_any (λ fmid. is_installed rows fmid) node.fmids) ∙ sym (length-map frame.nodes (λ node. node.id))

  -- what a node's index has of what f takes from a node
  said : {Y : Type 0} (f : FrameNode → Y) (p : ℕ) (e : Y) → p < length members → get_or (map f frame.nodes) p e ≡ f (node_of content (id_at members p))
  said {Y} f p e below =
      let made : length (map (node_of content) members) ≡ length members = length-map members (node_of content) in
      ap (λ (l : List FrameNode). get_or (map f l) p e) is.says
      ∙ get_or-map f (map (node_of content) members) p (node_of content []) e (omega (arith, below, made))
      ∙ ap f (get_or-map (node_of content) members p [] (node_of content []) below)

  -- ---- what is reached

  need_reached : (p : ℕ) (need : List ℕ) → p < length members → Contains (may_need content (id_at members p)) need → Contains members need
  need_reached p need below needs = (is.reached need).1 (leads_more ((is.reached (id_at members p)).0 (at_inside members p below)) (inl needs))

  giver_reached : (giver : List ℕ) (q : ℕ) → q < length members → Gives content giver (id_at members q) → Contains members giver
  giver_reached giver q below gives = (is.reached giver).1 (leads_more ((is.reached (id_at members q)).0 (at_inside members q below)) (inr gives))

  -- ---- candidates

  candidate_is : (p : ℕ) → p < length members → mark_of nodes.candidates.items p ≡ is_candidate content rows (id_at members p)
  candidate_is p below =
      ap (λ (l : List Bool). get_or l p false) candidates ∙ said (λ node. list_any (λ fmid. is_installed rows fmid) node.fmids) p false below

  candidate_within : (p : ℕ) → IsMarked nodes.candidates.items p → p < length members
  candidate_within p marked = let inside = marked_inside nodes.candidates.items p marked in omega (arith, inside, as_many)

  candidate_listed : (p : ℕ) → IsMarked nodes.candidates.items p → Contains (ids_of content) (id_at members p)
  candidate_listed p marked = candidate_catalogued content rows (id_at members p) (sym (candidate_is p (candidate_within p marked)) ∙ marked.is)

  -- ---- needs

  needs_are : (p : ℕ) → p < length members → AreIndicesOf members (node_needs rows (node_of content (id_at members p))) (row nodes.needs p)
  needs_are p below =
      let P : List (List ℕ) → Type 0 = λ l. AreIndicesOf members l (row nodes.needs p) in
      subst P (said (node_needs rows) p [] below) (indexed.each p below)

  -- a node has what its id needs in the zone
  node_has : (id need : List ℕ) → Contains (node_needs rows (node_of content id)) need ↔ Contains (needs_in content rows id) need
  node_has id need = (
    λ inside. elim (Contains-append_cases (in_order always) under need inside) [
      | inl own ↦ Contains-append_left always under need ((in_order_has always need).0 own)
      | inr named ↦ Contains-append_right always under need named
    ],
    λ inside. elim (Contains-append_cases always under need inside) [
      | inl own ↦ Contains-append_left (in_order always) under need ((in_order_has always need).1 own)
      | inr named ↦ Contains-append_right (in_order always) under need named
    ],
  ) where
    always : List (List ℕ)
    always = always_needs content id

    under : List (List ℕ)
    under = needs_where rows (conds_of (record_of content id))

  need_up : (p q : ℕ) → p < length members → Contains (row nodes.needs p) q → Contains (needs_in content rows (id_at members p)) (id_at members q)
  need_up p q below needs = (node_has (id_at members p) (id_at members q)).0 ((needs_are p below).listed q needs)

  need_down : (p : ℕ) (need : List ℕ) → p < length members → Contains (needs_in content rows (id_at members p)) need → NeedIndex members (world nodes) p need
  need_down p need below needs =
      let named = may_be_needed rows (always_needs content (id_at members p)) (conds_of (record_of content (id_at members p))) need needs in
      let at = inside_at members need (need_reached p need below named) in
      let P : List ℕ → Type 0 = λ x. Contains (node_needs rows (node_of content (id_at members p))) x in
      record {
        at = at;
        needs = (needs_are p below).whole at.index at.within (subst P (sym at.is) ((node_has (id_at members p) need).1 needs));
      }

  -- ---- superseding

  step_up : (p q : ℕ) → p < length members → q < length members → Contains (row nodes.supersedes p) q → Supersedes content (id_at members p) (id_at members q)
  step_up p q below within linked =
      let P : List (List ℕ) → Type 0 = λ l. Contains (row l p) q in
      (is.supersedes p q below within).0 (subst P supersedes linked)

  step_down : (p q : ℕ) → p < length members → q < length members → Supersedes content (id_at members p) (id_at members q) → Contains (row nodes.supersedes p) q
  step_down p q below within step =
      let P : List (List ℕ) → Type 0 = λ l. Contains (row l p) q in
      subst P (sym supersedes) ((is.supersedes p q below within).1 step)

  ways : AreWays content members nodes.supersedes
  ways = record { ascend = ascend; up = step_up; down = step_down; inside = giver_reached }

  -- ---- the cut

  pub frame_cut : IsCut (world_of content rows) members (world nodes)
  frame_cut = record {
    within = candidate_within;
    candidates = λ p below. (λ marked. sym (candidate_is p below) ∙ marked.is, λ h. record { is = candidate_is p below ∙ h });
    needs_within = λ p q marked needs. (needs_are p (candidate_within p marked)).within q needs;
    needs = λ p q marked needs. need_up p q (candidate_within p marked) needs;
    all_needs = λ p need marked needs. need_down p need (candidate_within p marked) needs;
    there = there_at content members nodes.supersedes ways rows nodes.there.items there;
    gives = λ p q marked within.
        gives_at content members nodes.supersedes ways (length nodes.candidates.items) p q as_many (candidate_within p marked) within (candidate_listed p marked);
    givers = λ giver q within candidate gives. inside_at members giver (giver_reached giver q within gives);
    order = λ p q below within. (
      λ least. order_up members p q [] ascend within least,
      λ not_above. order_down members p q [] ascend below not_above,
    );
  }
