-- What is found over the nodes of a frame is so over the whole content.
use Rattle.std.proofs.Common.{◌≡◌, ◌∙◌, ◌<◌, ◌==◌, ℕ, ◌+◌, Bool, true, false, cond, not, List, [], ◌∷◌, ◌++◌, length, map, take, get_or, Option, refl, sym, ap, subst, arith}
use Rattle.std.specs.Cmp.{both_ways}
use Rattle.std.specs.List.{filter, list_any}
use Rattle.std.proofs.lemmas.Bool.Decides.{Decides-eqb}
use Rattle.std.proofs.lemmas.List.{append-nil, length-map, nil_from_length, take_more, get_or-map}
use Rattle.std.proofs.lemmas.List.Elements.{filter-append}
use Rattle.std.proofs.lemmas.Bool.{or_parts}
use Rattle.lemmas.proofs.ListFacts.{get_any}
use Rattle.zone_lists.specs.Installed.{is_installed}
use Rattle.zone_lists.specs.declared.zones.ZoneRow.{ZoneRow}
use Rattle.catalogue.specs.Content.{Content}
use Rattle.catalogue.specs.Ids.{Ascend}
use Rattle.catalogue.specs.declared.conditional.CondNeed.{CondNeed}
use Rattle.supersede.specs.Giving.{needs_where}
use Rattle.requisites.specs.Good.{AreGood}
use Rattle.requisites.specs.Nodes.{mark_of, row, world}
use Rattle.requisites.specs.Verdict as index
use Rattle.requisites.specs.declared.nodes.Nodes.{Nodes}
use Rattle.requisites.specs.declared.verdict.Verdict as declared
use Rattle.verdicts.specs.Indices.{id_at, AreIndexed, AreIndicesOf, IsAt, RowsAre, list_at}
use Rattle.listings.specs.SeenIndices.{AreNodesWithin, AreThere}
use Rattle.chains.specs.NodeVerdicts.{verdict_at}
use Rattle.chains.specs.FrameIndices.{has_conds, node_needs}
use Rattle.chains.specs.Frames.{FrameLists, IsFrame, ids_in}
use Rattle.verdicts.specs.Verdicts.{Judged, is_good, verdict_of}
use Rattle.verdicts.specs.Worlds.{world_of}
use Rattle.chains.specs.declared.frames.FrameNode.{FrameNode}
use Rattle.chains.proofs.CutFacts.{good_down, good_up}
use Rattle.verdicts.proofs.GoodFacts.{good_both_ways}
use Rattle.chains.proofs.PartFacts.{frame_cut}
use Rattle.verdicts.proofs.IndexFacts.{rows_more}
use Rattle.chains.proofs.NodeVerdictFacts.{verdict_here, verdict_within}

-- the nodes of a frame name no indices but theirs
pub part_within : (rows : List ZoneRow) (list : List FrameNode) (nodes : Nodes) → nodes.candidates.items ≡ map (λ node. list_any (λ fmid. is_installed rows fmid) node.fmids) list
    → AreIndexed (ids_in list) (map (node_needs rows) list) nodes.needs → AreNodesWithin (ids_in list) nodes
part_within rows list nodes candidates indexed = record {
  len = ap length candidates ∙ length-map list (λ node. list_any (λ fmid. is_installed rows fmid) node.fmids) ∙ sym (length-map list (λ node. node.id));
  needs = record { len = indexed.len; each = λ p below. (indexed.each p below).within };
}

module _ (rows : List ZoneRow) (frame : FrameLists) (nodes : Nodes) (ascend : Ascend (ids_in frame.nodes))
    (candidates : nodes.candidates.items ≡ map (λ node. list_any (λ fmid. is_installed rows fmid) node.fmids) frame.nodes)
    (indexed : AreIndexed (ids_in frame.nodes) (map (node_needs rows) frame.nodes) nodes.needs)
    (supersedes : nodes.supersedes ≡ frame.supersedes)
    (there : AreThere rows (ids_in frame.nodes) nodes.supersedes nodes.there.items) where
  -- the verdict on a node
  pub planned : (id : List ℕ) (p : ℕ) (v : declared.Verdict) (judged : Judged) → IsAt (ids_in frame.nodes) id p → index.IsVerdict nodes p v → judged ≡ verdict_at (ids_in frame.nodes) v
      → (content : Content) (start : List ℕ) → IsFrame content start frame → judged ≡ verdict_of content rows id
  planned id p v judged at is_verdict same content start is =
      verdict_here content rows (ids_in frame.nodes) nodes ascend (frame_cut content rows start frame nodes ascend is candidates indexed supersedes there)
      id p v judged at (verdict_within (ids_in frame.nodes) nodes p v (part_within rows frame.nodes nodes candidates indexed) is_verdict) is_verdict same

  -- a node is marked just where it is good
  pub marks_good : (marks : List Bool) (givers : List (Option ℕ)) → AreGood nodes marks givers → (content : Content) (start : List ℕ) → IsFrame content start frame
      → (p : ℕ) → p < length (ids_in frame.nodes) → mark_of marks p ≡ is_good content rows (id_at (ids_in frame.nodes) p)
  marks_good marks givers are content start is p below =
      let cut = frame_cut content rows start frame nodes ascend is candidates indexed supersedes there in
      let both = good_both_ways content rows (id_at (ids_in frame.nodes) p) in
      both_ways _ _
      (λ on. both.1 (good_up (world_of content rows) (ids_in frame.nodes) (world nodes) cut p (are.marked p (record { is = on }))))
      (λ on. (are.unmarked p (good_down (world_of content rows) (ids_in frame.nodes) (world nodes) cut p below (both.0 on))).is)

-- ---- what nodes need in a zone

-- where none has requisites under a condition, each needs what it needs in every zone
pub unconditional : (rows : List ZoneRow) (list : List FrameNode) → list_any has_conds list ≡ false → map (λ node. node.needs) list ≡ map (node_needs rows) list
unconditional rows [] none = refl
unconditional rows (node ∷ nodes) none =
    let both = or_parts (has_conds node) (list_any has_conds nodes) none in
    ap (λ (l : List (List ℕ)). l ∷ map (λ (n : FrameNode). n.needs) nodes) (alone node.needs node.conds both.0)
    ∙ ap (λ (l : List (List (List ℕ))). node_needs rows node ∷ l) (unconditional rows nodes both.1)
  where
    on : (b : Bool) → not b ≡ false → b ≡ true
    on true h = refl
    on false h = cc

    alone : (needs : List (List ℕ)) (conds : List CondNeed) → not (length conds == 0) ≡ false → needs ≡ needs ++ needs_where rows conds
    alone needs conds h =
        let none : conds ≡ [] = nil_from_length conds ((Decides-eqb (length conds) 0).0 (on (length conds == 0) h)) in
        let P : List CondNeed → Type 0 = λ cs. needs ≡ needs ++ needs_where rows cs in
        subst P (sym none) (sym (append-nil needs))

pub unconditional_indexed : (rows : List ZoneRow) (list : List FrameNode) (needs : List (List ℕ)) → list_any has_conds list ≡ false → AreIndexed (ids_in list) (map (λ node. node.needs) list) needs
    → AreIndexed (ids_in list) (map (node_needs rows) list) needs
unconditional_indexed rows list needs none indexed = let P : List (List (List ℕ)) → Type 0 = λ l. AreIndexed (ids_in list) l needs in subst P (unconditional rows list none) indexed

-- the needs of one node more
pub needs_more : (rows : List ZoneRow) (list : List FrameNode) (ids : List (List ℕ)) (i : ℕ) (node : FrameNode) (always indices : List ℕ) (given old new : List (List ℕ)) → i < length list → node ≡ get_or list i node
    → ids ≡ ids_in list → AreIndexed (ids_in list) (map (λ n. n.needs) list) given → always ≡ row given i
    → (AreIndicesOf ids node.needs always → AreIndicesOf ids (node_needs rows node) indices)
    → RowsAre (λ p ps. AreIndicesOf (ids_in list) (list_at (map (node_needs rows) list) p) ps) i old → new ≡ old ++ indices ∷ []
    → RowsAre (λ p ps. AreIndicesOf (ids_in list) (list_at (map (node_needs rows) list) p) ps) (i + 1) new
needs_more rows list ids i node always indices given old new below at ids_are indexed always_is put are now =
    let as_many : length (ids_in list) ≡ length list = length-map list (λ n. n.id) in
    let needs : list_at (map (λ n. n.needs) list) i ≡ node.needs = get_or-map (λ n. n.needs) list i node [] below ∙ ap (λ (n : FrameNode). n.needs) (sym at) in
    let all : node_needs rows node ≡ list_at (map (node_needs rows) list) i = ap (node_needs rows) at ∙ sym (get_or-map (node_needs rows) list i node [] below) in
    let A : List ℕ → Type 0 = λ l. AreIndicesOf ids node.needs l in
    let I : List (List ℕ) → Type 0 = λ l. AreIndicesOf l node.needs (row given i) in
    let N : List (List ℕ) → Type 0 = λ l. AreIndicesOf (ids_in list) l (row given i) in
    let J : List (List ℕ) → Type 0 = λ l. AreIndicesOf l (node_needs rows node) indices in
    let M : List (List ℕ) → Type 0 = λ l. AreIndicesOf (ids_in list) l indices in
    rows_more (λ p ps. AreIndicesOf (ids_in list) (list_at (map (node_needs rows) list) p) ps) i old new indices are
    (subst M all (subst J ids_are (put (subst A (sym always_is) (subst I (sym ids_are) (subst N needs (indexed.each i (omega (arith, below, as_many)))))))))
    now

-- ---- what is marked

-- one id more, by its mark
pub marked_more : (f : List ℕ → Bool) (ids : List (List ℕ)) (i : ℕ) (id : List ℕ) (mark : Bool) (old new : List (List ℕ)) → i < length ids → id ≡ get_or ids i id
    → mark ≡ f (id_at ids i) → old ≡ filter f (take i ids) → new ≡ old ++ cond mark (id ∷ []) [] → new ≡ filter f (take (i + 1) ids)
marked_more f ids i id mark old new below at is was now =
    let here : id ≡ id_at ids i = at ∙ get_any ids i id [] below in
    now
    ∙ ap (λ l. l ++ cond mark (id ∷ []) []) was
    ∙ ap (λ b. filter f (take i ids) ++ cond b (id ∷ []) []) (is ∙ ap f (sym here))
    ∙ sym (filter-append f (take i ids) (id ∷ []))
    ∙ ap (filter f) (sym (take_more ids i id below ∙ ap (λ x. take i ids ++ x ∷ []) (sym at)))
