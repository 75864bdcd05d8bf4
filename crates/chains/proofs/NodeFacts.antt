-- The nodes that are made of what was gathered are those of the frame.
use Rattle.std.proofs.Common.{◌≡◌, ◌∙◌, ◌<◌, ◌++◌, ◌+◌, ℕ, suc, Bool, List, [], ◌∷◌, length, map, take, get_or, is_some, Option, Some, None, refl, sym, ap, subst, inl, inr, arith}
use Rattle.std.specs.Prelude.{◌↔◌}
use Rattle.std.specs.List.{Contains, list_any}
use Rattle.std.specs.Map.{keys_of, values_of}
use Rattle.std.specs.Option.{IsSomeAnd}
use Rattle.std.proofs.lemmas.List.{length-map, map-append, take_all, take_more, get_or-map}
use Rattle.std.proofs.lemmas.List.Elements.{Contains-append_cases, Contains-append_left, Contains-append_right}
use Rattle.lemmas.proofs.ListFacts.{inside_cases, map_from, map_inside, none_inside, get_any}
use Rattle.catalogue.specs.Content.{Content, IsInOrder, Supersedes, ids_of, record_of, superseders}
use Rattle.catalogue.specs.Ids.{Ascend, in_order}
use Rattle.catalogue.specs.declared.conditional.CondNeed.{CondNeed}
use Rattle.catalogue.specs.declared.sysmod.Sysmod.{Sysmod}
use Rattle.catalogue.proofs.IdFacts.{in_order_has}
use Rattle.catalogue.proofs.SupersedeFacts.{superseder_is}
use Rattle.supersede.specs.Giving.{always_needs, conds_of, each_need, fmids_of, givers_of, may_need, sup_of}
use Rattle.supersede.specs.Leading.{Gives, IsWay}
use Rattle.requisites.specs.Leads.{Leads}
use Rattle.requisites.specs.Nodes.{row}
use Rattle.requisites.proofs.LeadsFacts.{leads_closed, leads_itself, leads_more}
use Rattle.verdicts.specs.Indices.{IndexOf, id_at, AreIndexed, AreIndicesOf, list_at}
use Rattle.listings.specs.Links.{IsAbove, IsGiverAt}
use Rattle.chains.specs.FrameIndices.{AreNodesOf, IsFramed, IsNodeAt, has_conds}
use Rattle.chains.specs.Frames.{FrameLists, IsClosed, IsFrame, StepsTo, ids_in, node_of}
use Rattle.listings.specs.Sights.{all_needs, unseen}
use Rattle.listings.specs.Gathered.{AreNamed, IsGathered, Names, gathered_of}
use Rattle.chains.specs.declared.frames.FrameNode.{FrameNode}
use Rattle.listings.specs.declared.gathered.Gathered.{Gathered}
use Rattle.chains.proofs.FrameFacts.{direct_gives, giver_is, givers_ascend}
use Rattle.verdicts.proofs.OrderFacts.{ascending_same}
use Rattle.verdicts.proofs.IndexFacts.{at_inside, inside_at}
use Rattle.listings.proofs.WayFacts.{listed_record, record_listed}

-- ---- one step by what is named, and by what is needed and gives

module _ (content : Content) (ordered : IsInOrder content) where
  -- each need is named
  need_named : (x z : List ℕ) → Contains (may_need content x) z → Names content x z
  need_named x z needs = Contains-append_left (may_need content x) (superseders content x) z needs

  -- so is what supersedes directly
  above_named : (x z : List ℕ) → Supersedes content z x → Names content x z
  above_named x z step = Contains-append_right (may_need content x) (superseders content x) z ((superseder_is content x z ordered).1 step)

  -- what is named is a need, or gives
  named_steps : (x z : List ℕ) → Names content x z → StepsTo content x z
  named_steps x z named = elim (Contains-append_cases (may_need content x) (superseders content x) z named) [
    | inl needs ↦ inl needs
    | inr above ↦ inr (direct_gives content z x ordered ((superseder_is content x z ordered).0 above))
  ]

  -- to what gives an id lead the names
  way_named : (start y : List ℕ) (way : List (List ℕ)) (x : List ℕ) → Leads (Names content) start x → IsWay content y way x → Leads (Names content) start y
  way_named start y [] x leads same = (let P : List ℕ → Type 0 = λ z. Leads (Names content) start z in subst P (sym same) leads)
  way_named start y (next ∷ later) x leads way = leads_more (way_named start next later x leads way.1) (above_named next y way.0)

  pub names_reach : (start id : List ℕ) → Leads (Names content) start id → Leads (StepsTo content) start id
  names_reach start id leads =
      leads_closed (λ x. Leads (StepsTo content) start x) (λ x z here step. leads_more here (named_steps x z step)) (leads_itself (StepsTo content) start) leads

  pub steps_reach : (start id : List ℕ) → Leads (StepsTo content) start id → Leads (Names content) start id
  steps_reach start id leads =
      leads_closed (λ x. Leads (Names content) start x)
      (λ x z here step. elim step [ inl needs ↦ leads_more here (need_named x z needs) | inr given ↦ way_named start z given.way x here given.leads ])
      (leads_itself (Names content) start) leads

-- ---- a node

node_by : List ℕ → Bool → List (List ℕ) → List (List ℕ) → List CondNeed → List (List ℕ) → FrameNode
node_by id catalogued fmids needs conds givers = record { id = id; catalogued = catalogued; fmids = fmids; needs = needs; conds = conds; givers = givers }

module _ (content : Content) (start : List ℕ) (ids : List (List ℕ)) (all : List Gathered) (above : List (List ℕ)) (ordered : IsInOrder content) (is : IsGathered content start ids all)
    (indexed : AreIndexed ids (map (λ g. g.above) all) above) where
  made : length all ≡ length ids
  made = ap length is.says ∙ length-map ids (gathered_of content)

  -- what was read of the id at an index
  read_at : {Y : Type 0} (f : Gathered → Y) (p : ℕ) (e : Y) → p < length ids → get_or (map f all) p e ≡ f (gathered_of content (id_at ids p))
  read_at {Y} f p e below =
      let as_many : length (map (gathered_of content) ids) ≡ length ids = length-map ids (gathered_of content) in
      ap (λ (l : List Gathered). get_or (map f l) p e) is.says
      ∙ get_or-map f (map (gathered_of content) ids) p (gathered_of content []) e (omega (arith, below, as_many))
      ∙ ap f (get_or-map (gathered_of content) ids p [] (gathered_of content []) below)

  above_at : (p : ℕ) → p < length ids → AreIndicesOf ids (superseders content (id_at ids p)) (row above p)
  above_at p below = let P : List (List ℕ) → Type 0 = λ l. AreIndicesOf ids l (row above p) in subst P (read_at (λ g. g.above) p [] below) (indexed.each p below)

  -- a way from what stands at an index
  record WayFrom (to : List ℕ) (q : ℕ) : Type 0 where
    within : q < length ids
    way : List (List ℕ)
    leads : IsWay content (id_at ids q) way to

  way_up : (index q : ℕ) → index < length ids → Leads (IsAbove above) index q → WayFrom (id_at ids index) q
  way_up index q below leads =
      leads_closed (λ p. WayFrom (id_at ids index) p)
      (λ p r here step. let at = above_at p here.within in record {
        within = at.within r step;
        way = id_at ids p ∷ here.way;
        leads = ((superseder_is content (id_at ids p) (id_at ids r) ordered).0 (at.listed r step), here.leads);
      })
      (record { within = below; way = []; leads = refl }) leads

  -- the index of what leads down to an index
  record IndexAbove (index : ℕ) (id : List ℕ) : Type 0 where
    at : IndexOf ids id
    leads : Leads (IsAbove above) index at.index

  way_down : (index : ℕ) → index < length ids → (y : List ℕ) (way : List (List ℕ)) → IsWay content y way (id_at ids index) → IndexAbove index y
  way_down index below y [] same = record { at = record { index = index; within = below; is = sym same }; leads = leads_itself (IsAbove above) index }
  way_down index below y (next ∷ later) way =
      let rest = way_down index below next later way.1 in
      let P : List ℕ → Type 0 = λ x. Supersedes content y x in
      let step : Supersedes content y (id_at ids rest.at.index) = subst P (sym rest.at.is) way.0 in
      let reached = is.whole y (leads_more (is.reached (id_at ids rest.at.index) (at_inside ids rest.at.index rest.at.within)) (above_named content ordered (id_at ids rest.at.index) y step)) in
      let at = inside_at ids y reached in
      let Q : List ℕ → Type 0 = λ x. Contains (superseders content (id_at ids rest.at.index)) x in
      record {
        at = at;
        leads = leads_more rest.leads ((above_at rest.at.index rest.at.within).whole at.index at.within (subst Q (sym at.is) ((superseder_is content (id_at ids rest.at.index) y ordered).1 step)));
      }

  gives_at : (index : ℕ) → index < length ids → (id : List ℕ) → IsGiverAt ids all above index id → Gives content id (id_at ids index)
  gives_at index below id giver =
      let way = way_up index giver.own below giver.leads in
      let P : List ℕ → Type 0 = λ x. Gives content x (id_at ids index) in
      subst P giver.is (record {
        catalogued = listed_record content.sysmods (id_at ids giver.own) (sym (read_at (λ g. g.entry.catalogued) giver.own _ giver.within) ∙ giver.catalogued);
        way = way.way;
        leads = way.leads;
      })

  at_gives : (index : ℕ) → index < length ids → (id : List ℕ) → Gives content id (id_at ids index) → IsGiverAt ids all above index id
  at_gives index below id given =
      let down = way_down index below id given.way given.leads in
      let P : List ℕ → Type 0 = λ x. Contains (ids_of content) x in
      record {
        own = down.at.index;
        within = down.at.within;
        is = down.at.is;
        catalogued = read_at (λ g. g.entry.catalogued) down.at.index _ down.at.within ∙ record_listed content.sysmods (id_at ids down.at.index) (subst P (sym down.at.is) given.catalogued);
        leads = down.leads;
      }

  -- the node at an index is that of the content
  pub node_is : (index : ℕ) (node : FrameNode) → index < length ids → IsNodeAt ids all above index node → node ≡ node_of content (id_at ids index)
  unfolding node_by
  node_is index node below at =
      let id = id_at ids index in
      let read : at.gathered ≡ gathered_of content id =
      at.at ∙ ap (λ (l : List Gathered). get_or l index at.gathered) is.says ∙ get_or-map (gathered_of content) ids index [] at.gathered below in
      let givers : node.givers ≡ givers_of content id =
      ascending_same node.givers (givers_of content id) at.ascend (givers_ascend content id ordered.sysmods)
      (λ y inside. (giver_is content id y).1 (gives_at index below y ((at.givers y).0 inside)))
      (λ y inside. (at.givers y).1 (at_gives index below y ((giver_is content id y).0 inside))) in
      let found = record_of content id in
      ap (λ i. node_by i node.catalogued node.fmids node.needs node.conds node.givers) at.id
      ∙ ap (λ b. node_by id b node.fmids node.needs node.conds node.givers) (at.catalogued ∙ ap (λ (g : Gathered). g.entry.catalogued) read)
      ∙ ap (λ l. node_by id (is_some found) l node.needs node.conds node.givers) (at.fmids ∙ ap (λ (g : Gathered). g.entry.fmids) read)
      ∙ ap (λ l. node_by id (is_some found) (fmids_of found) l node.conds node.givers) (at.needs ∙ ap (λ (g : Gathered). in_order g.entry.needs) read)
      ∙ ap (λ (l : List CondNeed). node_by id (is_some found) (fmids_of found) (in_order (always_needs content id)) l node.givers) (at.conds ∙ ap (λ (g : Gathered). g.entry.conds) read)
      ∙ ap (λ l. node_by id (is_some found) (fmids_of found) (in_order (always_needs content id)) (conds_of found) l) givers

-- ---- one node more

take_next : {X : Type 0} (xs : List X) (i : ℕ) (x : X) → i < length xs → x ≡ get_or xs i x → take (i + 1) xs ≡ take i xs ++ x ∷ []
take_next {X} xs i x below at = take_more xs i x below ∙ ap (λ (y : X). take i xs ++ y ∷ []) (sym at)

pub nodes_begin : (ids : List (List ℕ)) (all : List Gathered) → AreNodesOf ids all 0 []
nodes_begin ids all = record {
  are = refl;
  needs = refl;
  conds = refl;
  givers = λ node id inside given. absurd (none_inside node inside);
  say = λ content start ordered is. refl;
}

pub nodes_more : (ids : List (List ℕ)) (all : List Gathered) (above : List (List ℕ)) (index : ℕ) (node : FrameNode) (old new : List FrameNode) → index < length ids → length all ≡ length ids
    → AreIndexed ids (map (λ g. g.above) all) above → IsNodeAt ids all above index node → AreNodesOf ids all index old → new ≡ old ++ node ∷ [] → AreNodesOf ids all (index + 1) new
nodes_more ids all above index node old new below as_many indexed at are now =
    let S : List FrameNode → Type 0 = λ l. AreNodesOf ids all (index + 1) l in
    subst S (sym now) (record {
      are = map-append (λ (n : FrameNode). n.id) old (node ∷ []) ∙ ap (λ l. l ++ node.id ∷ []) are.are ∙ ap (λ i. take index ids ++ i ∷ []) at.id
          ∙ sym (take_next ids index (id_at ids index) below (get_any ids index [] (id_at ids index) below));
      needs = map-append (λ (n : FrameNode). n.needs) old (node ∷ []) ∙ ap (λ l. l ++ node.needs ∷ []) are.needs ∙ ap (λ l. map (λ (g : Gathered). in_order g.entry.needs) (take index all) ++ l ∷ []) at.needs
          ∙ sym (map-append (λ (g : Gathered). in_order g.entry.needs) (take index all) (at.gathered ∷ []))
          ∙ ap (map (λ (g : Gathered). in_order g.entry.needs)) (sym (take_next all index at.gathered (omega (arith, below, as_many)) at.at));
      conds = map-append (λ (n : FrameNode). n.conds) old (node ∷ []) ∙ ap (λ (l : List (List CondNeed)). l ++ node.conds ∷ []) are.conds
          ∙ ap (λ (l : List CondNeed). map (λ (g : Gathered). g.entry.conds) (take index all) ++ l ∷ []) at.conds
          ∙ sym (map-append (λ (g : Gathered). g.entry.conds) (take index all) (at.gathered ∷ []))
          ∙ ap (map (λ (g : Gathered). g.entry.conds)) (sym (take_next all index at.gathered (omega (arith, below, as_many)) at.at));
      givers = λ n id inside given. elim (Contains-append_cases old (node ∷ []) n inside) [
        | inl before ↦ are.givers n id before given
        | inr last ↦ elim (inside_cases node n [] last) [
          | inl same ↦ (
              let G : FrameNode → Type 0 = λ m. Contains m.givers id in
              let giver = (at.givers id).0 (subst G (sym same) given) in
              let I : List ℕ → Type 0 = λ x. Contains ids x in
              subst I giver.is (at_inside ids giver.own giver.within))
          | inr none ↦ absurd (none_inside n none)
        ]
      ];
      say = λ content start ordered is.
          ap (λ l. l ++ node ∷ []) (are.say content start ordered is)
          ∙ ap (λ (n : FrameNode). map (node_of content) (take index ids) ++ n ∷ []) (node_is content start ids all above ordered is indexed index node below at)
          ∙ sym (map-append (node_of content) (take index ids) (id_at ids index ∷ []))
          ∙ ap (map (node_of content)) (sym (take_next ids index (id_at ids index) below (get_any ids index [] (id_at ids index) below)));
    })

-- ---- the frame

-- what stands where nothing was read
none : Gathered
none = record { entry = unseen; above = [] }

module _ (ids : List (List ℕ)) (all : List Gathered) (nodes : List FrameNode) (ascend : Ascend ids) (as_many : length all ≡ length ids) (named : AreNamed all ids) (are : AreNodesOf ids all (length ids) nodes) where
  ids_are : ids ≡ ids_in nodes
  ids_are = sym (are.are ∙ take_all (length ids) ids (omega arith))

  needs_are : map (λ (g : Gathered). in_order g.entry.needs) all ≡ map (λ (n : FrameNode). n.needs) nodes
  needs_are = sym (are.needs ∙ ap (map (λ (g : Gathered). in_order g.entry.needs)) (take_all (length ids) all (omega (arith, as_many))))

  conds_are : map (λ (g : Gathered). g.entry.conds) all ≡ map (λ (n : FrameNode). n.conds) nodes
  conds_are = sym (are.conds ∙ ap (map (λ (g : Gathered). g.entry.conds)) (take_all (length ids) all (omega (arith, as_many))))

  -- in order they have the same indices
  in_order_indexed : (needs : List (List ℕ)) → AreIndexed ids (map (λ g. g.entry.needs) all) needs → AreIndexed ids (map (λ (g : Gathered). in_order g.entry.needs) all) needs
  in_order_indexed needs indexed = record {
    len = indexed.len;
    each = λ p below.
        let here : p < length all = omega (arith, below, as_many) in
        let g = get_or all p none in
        let P : List (List ℕ) → Type 0 = λ l. AreIndicesOf ids l (row needs p) in
        let are = subst P (get_or-map (λ (x : Gathered). x.entry.needs) all p none [] here) (indexed.each p below) in
        subst P (sym (get_or-map (λ (x : Gathered). in_order x.entry.needs) all p none [] here)) (record {
          within = are.within;
          listed = λ q inside. (in_order_has g.entry.needs (id_at ids q)).1 (are.listed q inside);
          whole = λ q within inside. are.whole q within ((in_order_has g.entry.needs (id_at ids q)).0 inside);
        });
  }

  closed : IsClosed nodes
  closed = record {
    needs = λ node id inside needs.
        let L : List (List (List ℕ)) → Type 0 = λ l. Contains l node.needs in
        let image = map_from (λ (g : Gathered). in_order g.entry.needs) all node.needs (subst L (sym needs_are) (map_inside (λ (n : FrameNode). n.needs) nodes node inside)) in
        let N : List (List ℕ) → Type 0 = λ l. Contains l id in
        subst N ids_are (named.named image.from id image.member
        (Contains-append_left (all_needs image.from.entry) image.from.above id
        (Contains-append_left image.from.entry.needs (each_need image.from.entry.conds) id ((in_order_has image.from.entry.needs id).0 (subst N (sym image.is) needs)))));
    conds = λ node id inside needs.
        let L : List (List CondNeed) → Type 0 = λ l. Contains l node.conds in
        let image = map_from (λ (g : Gathered). g.entry.conds) all node.conds (subst L (sym conds_are) (map_inside (λ (n : FrameNode). n.conds) nodes node inside)) in
        let M : List CondNeed → Type 0 = λ l. Contains (each_need l) id in
        let N : List (List ℕ) → Type 0 = λ l. Contains l id in
        subst N ids_are (named.named image.from id image.member
        (Contains-append_left (all_needs image.from.entry) image.from.above id
        (Contains-append_right image.from.entry.needs (each_need image.from.entry.conds) id (subst M (sym image.is) needs))));
    givers = λ node id inside given. let N : List (List ℕ) → Type 0 = λ l. Contains l id in subst N ids_are (are.givers node id inside given);
  }

  pub framed : (needs : List (List ℕ)) (conditional : Bool) → AreIndexed ids (map (λ g. g.entry.needs) all) needs → conditional ≡ list_any has_conds nodes → IsFramed nodes ids needs conditional
  framed needs conditional indexed is = record {
    are = ids_are;
    ascend = ascend;
    closed = closed;
    indexed = (let P : List (List (List ℕ)) → Type 0 = λ l. AreIndexed ids l needs in subst P needs_are (in_order_indexed needs indexed));
    known = is;
  }

  pub frame_made : (supersedes : List (List ℕ)) → AreIndexed ids (map (λ g. g.entry.superseded) all) supersedes → (frame : FrameLists) → frame.nodes ≡ nodes → frame.supersedes ≡ supersedes
      → (content : Content) (start : List ℕ) → IsInOrder content → IsGathered content start ids all → IsFrame content start frame
  frame_made supersedes indexed frame nodes_is rows_is content start ordered is = record {
    reached = λ id. (let N : List (List ℕ) → Type 0 = λ l. Contains l id in (
      λ inside. names_reach content ordered start id (is.reached id (subst N (sym members) inside)),
      λ leads. subst N members (is.whole id (steps_reach content ordered start id leads)),
    ));
    says =
        nodes_is ∙ are.say content start ordered is
        ∙ ap (map (node_of content)) (take_all (length ids) ids (omega arith) ∙ members);
    supersedes = λ p q below within. (
        let R : List (List ℕ) → Type 0 = λ l. Contains (row frame.supersedes p) q ↔ Supersedes content (id_at l p) (id_at l q) in
        let below' : p < length ids = (let L : List (List ℕ) → Type 0 = λ l. p < length l in subst L (sym members) below) in
        let within' : q < length ids = (let L : List (List ℕ) → Type 0 = λ l. q < length l in subst L (sym members) within) in
        let T : List (List ℕ) → Type 0 = λ l. Contains (row l p) q ↔ Supersedes content (id_at ids p) (id_at ids q) in
        subst R members (subst T (sym rows_is) (both p q below' within')));
  } where
    members : ids ≡ ids_in frame.nodes
    members = ids_are ∙ ap ids_in (sym nodes_is)

    sup_here : (p : ℕ) → p < length ids → list_at (map (λ g. g.entry.superseded) all) p ≡ sup_of (record_of content (id_at ids p))
    sup_here p below =
        let as_long : length (map (gathered_of content) ids) ≡ length ids = length-map ids (gathered_of content) in
        ap (λ (l : List Gathered). list_at (map (λ g. g.entry.superseded) l) p) is.says
        ∙ get_or-map (λ g. g.entry.superseded) (map (gathered_of content) ids) p (gathered_of content []) [] (omega (arith, below, as_long))
        ∙ ap (λ (g : Gathered). g.entry.superseded) (get_or-map (gathered_of content) ids p [] (gathered_of content []) below)

    sup_at : (p : ℕ) → p < length ids → AreIndicesOf ids (sup_of (record_of content (id_at ids p))) (row supersedes p)
    sup_at p below = let P : List (List ℕ) → Type 0 = λ l. AreIndicesOf ids l (row supersedes p) in subst P (sup_here p below) (indexed.each p below)

    superseded_by : (o : Option Sysmod) (x : List ℕ) → Contains (sup_of o) x → IsSomeAnd o (λ sysmod. Contains sysmod.sup x)
    superseded_by None x inside = absurd (none_inside x inside)
    superseded_by (Some sysmod) x inside = inside

    superseded_in : (o : Option Sysmod) (x : List ℕ) → IsSomeAnd o (λ sysmod. Contains sysmod.sup x) → Contains (sup_of o) x
    superseded_in None x none = absurd none
    superseded_in (Some sysmod) x inside = inside

    both : (p q : ℕ) → p < length ids → q < length ids → Contains (row supersedes p) q ↔ Supersedes content (id_at ids p) (id_at ids q)
    both p q below within = (
      λ linked. superseded_by (record_of content (id_at ids p)) (id_at ids q) ((sup_at p below).listed q linked),
      λ step. (sup_at p below).whole q within (superseded_in (record_of content (id_at ids p)) (id_at ids q) step),
    )

-- ---- as the call that makes the frame has it

same_length : {X : Type 0} (es : List (List ℕ × X)) → length (values_of es) ≡ length (keys_of es)
same_length [] = refl
same_length (e ∷ es) = ap suc (same_length es)

module _ (es : List (List ℕ × Gathered)) (ids seen_ids node_ids : List (List ℕ)) (all seen_all node_all : List Gathered) (nodes : List FrameNode) (above : List (List ℕ))
    (ids_is : ids ≡ keys_of es) (all_is : all ≡ values_of es) (seen_ids_is : seen_ids ≡ ids) (seen_all_is : seen_all ≡ all) (node_ids_is : node_ids ≡ ids) (node_all_is : node_all ≡ all)
    (ascend : Ascend ids) (named : AreNamed (values_of es) (keys_of es)) (are : AreNodesOf node_ids node_all (length node_ids) nodes) where
  as_many : length all ≡ length ids
  as_many = ap length all_is ∙ same_length es ∙ sym (ap length ids_is)

  named_here : AreNamed all ids
  named_here =
      let P : List Gathered → Type 0 = λ l. AreNamed l ids in
      let Q : List (List ℕ) → Type 0 = λ l. AreNamed (values_of es) l in
      subst P (sym all_is) (subst Q (sym ids_is) named)

  nodes_here : AreNodesOf ids all (length ids) nodes
  nodes_here =
      let P : List Gathered → Type 0 = λ l. AreNodesOf ids l (length ids) nodes in
      let Q : List (List ℕ) → Type 0 = λ l. AreNodesOf l node_all (length l) nodes in
      subst P node_all_is (subst Q node_ids_is are)

  indexed_of : (f : Gathered → List (List ℕ)) (rows : List (List ℕ)) → AreIndexed seen_ids (map f seen_all) rows → AreIndexed ids (map f all) rows
  indexed_of f rows indexed =
      let P : List Gathered → Type 0 = λ l. AreIndexed ids (map f l) rows in
      let Q : List (List ℕ) → Type 0 = λ l. AreIndexed l (map f seen_all) rows in
      subst P seen_all_is (subst Q seen_ids_is indexed)

  pub framed_found : (needs : List (List ℕ)) (conditional : Bool) → AreIndexed seen_ids (map (λ g. g.entry.needs) seen_all) needs → conditional ≡ list_any has_conds nodes → IsFramed nodes ids needs conditional
  framed_found needs conditional indexed is = framed ids all nodes ascend as_many named_here nodes_here needs conditional (indexed_of (λ g. g.entry.needs) needs indexed) is

  pub frame_found : (supersedes : List (List ℕ)) → AreIndexed seen_ids (map (λ g. g.entry.superseded) seen_all) supersedes → (frame : FrameLists) → frame.nodes ≡ nodes → frame.supersedes ≡ supersedes
      → (content : Content) (start : List ℕ) → IsInOrder content → IsGathered content start (keys_of es) (values_of es) → IsFrame content start frame
  frame_found supersedes indexed frame nodes_is rows_is content start ordered is =
      let P : List Gathered → Type 0 = λ l. IsGathered content start ids l in
      let Q : List (List ℕ) → Type 0 = λ l. IsGathered content start l (values_of es) in
      frame_made ids all nodes ascend as_many named_here nodes_here supersedes (indexed_of (λ g. g.entry.superseded) supersedes indexed) frame nodes_is rows_is content start ordered
      (subst P (sym all_is) (subst Q (sym ids_is) is))
