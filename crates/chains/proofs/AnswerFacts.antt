-- What is answered for each of several ids.
use Rattle.std.proofs.Common.{◌≡◌, ◌⊎◌, ◌∙◌, ℕ, ◌+◌, ◌<◌, ◌++◌, set, Bool, true, false, List, [], ◌∷◌, length, map, filter, take, get_or, is_some, Option, Some, None, IfSome, refl, sym, ap, subst, inl, inr, arith, cond}
use Rattle.std.specs.Prelude.{◌↔◌, ◌==◌, IfNone}
use Rattle.std.specs.List.{Contains}
use Rattle.std.proofs.lemmas.Bool.{cases_eq}
use Rattle.std.proofs.lemmas.List.{get_or-set_other, get_or-set_same, map-append, take_more}
use Rattle.std.proofs.lemmas.List.Elements.{Contains-push_cases, filter_more}
use Rattle.lemmas.proofs.ListFacts.{first_inside, kept_from, kept_inside, map_from, map_inside}
use Rattle.zone_lists.specs.declared.zones.ZoneRow.{ZoneRow}
use Rattle.catalogue.specs.Content.{Content, IsInOrder}
use Rattle.catalogue.specs.Ids.{Ascend, in_order}
use Rattle.catalogue.proofs.IdFacts.{in_order_has}
use Rattle.supersede.specs.Giving.{givers_of, is_candidate, is_there}
use Rattle.requisites.specs.Leads.{IsPath, Leads}
use Rattle.requisites.specs.Nodes.{AreReversed, Links, mark_of, row}
use Rattle.requisites.specs.Sources.{AreLeastSources, HasSource, source_of}
use Rattle.requisites.proofs.LeadsFacts.{leads_closed}
use Rattle.verdicts.specs.Candidates.{candidates_unless_there}
use Rattle.chains.specs.Climbs.{AreAbove, AreFrom, IsAnswer, IsFound, IsMarkedAbove, with_source}
use Rattle.verdicts.specs.Indices.{id_at, IsAt, MarksAre, RowsAre}
use Rattle.listings.specs.SeenIndices.{AreThere}
use Rattle.chains.proofs.AboveFacts.{candidates_found, leads_turned, marks_there}
use Rattle.verdicts.proofs.IndexFacts.{index_is, inside_at, made_more}

-- ---- marked ids above an index

-- those of the indices to which a walk came that are marked
pub marked_are : (ids above : List (List ℕ)) (marks : List Bool) (index : ℕ) (order : List ℕ) (found : List (List ℕ)) → index < length ids
    → ((q : ℕ) → Contains order q ↔ Leads (Links above (length ids)) index q) → found ≡ in_order (map (id_at ids) (filter (mark_of marks) order))
    → (id : List ℕ) → Contains found id ↔ IsMarkedAbove ids above marks index id
marked_are ids above marks index order found below each are id = (
  λ inside.
      let F : List (List ℕ) → Type 0 = λ l. Contains l id in
      let image = map_from (id_at ids) (filter (mark_of marks) order) id ((in_order_has (map (id_at ids) (filter (mark_of marks) order)) id).0 (subst F are inside)) in
      let kept = kept_from (mark_of marks) order image.from image.member in
      let leads = (each image.from).0 kept.member in
      record {
        own = image.from;
        within = leads_closed (λ p. p < length ids) (λ u v here link. link.index) below leads;
        is = image.is;
        marked = kept.passes;
        leads = leads;
      },
  λ at.
      let F : List (List ℕ) → Type 0 = λ l. Contains l id in
      let P : List ℕ → Type 0 = λ x. Contains (map (id_at ids) (filter (mark_of marks) order)) x in
      let inside = map_inside (id_at ids) (filter (mark_of marks) order) at.own (kept_inside (mark_of marks) order at.own ((each at.own).1 at.leads) at.marked) in
      subst F (sym are) ((in_order_has (map (id_at ids) (filter (mark_of marks) order)) id).1 (subst P at.is inside)),
)

-- ---- rows without the indices from which nothing marked is reached

module _ (ids above below kept : List (List ℕ)) (marks : List Bool) (sources : List (Option ℕ)) (turned : AreReversed above (length ids) below) (as_many : length marks ≡ length ids) (least : AreLeastSources below marks sources)
    (rows : RowsAre (λ p indices. indices ≡ with_source sources (row above p)) (length ids) kept) where
  abbrev Up : ℕ → ℕ → Type 0
  Up = Links above (length ids)

  keeps_up : (p q : ℕ) → p < length ids → Leads (Links kept (length ids)) p q → Leads Up p q
  keeps_up p q within leads = path_up p leads.list q within leads.path where
    path_up : (x : ℕ) (list : List ℕ) (y : ℕ) → x < length ids → IsPath (Links kept (length ids)) x list y → Leads Up x y
    path_up x [] y within same = record { list = []; path = same }
    path_up x (z ∷ zs) y within path =
        let P : List ℕ → Type 0 = λ l. Contains l z in
        let rest = path_up z zs y path.0.index path.1 in
        let listed = (kept_from (λ q. is_some (source_of sources q)) (row above x) z (subst P (rows.each x within) path.0.listed)).member in
        record { list = z ∷ rest.list; path = (record { listed = listed; index = path.0.index }, rest.path) }

  has_source : (z q : ℕ) → z < length ids → mark_of marks q ≡ true → Leads Up z q → is_some (source_of sources z) ≡ true
  has_source z q within marked leads = by (source_of sources z) refl where
    back : Leads (Links below (length marks)) q z
    back =
        let L : ℕ → Type 0 = λ n. Leads (Links below n) q z in
        subst L (sym as_many) (leads_turned Up (Links below (length ids)) (λ p. p < length ids) (λ u v here link. (link.index, record { listed = turned.turned u v link; index = here })) within leads)

    by : (o : Option ℕ) → source_of sources z ≡ o → is_some (source_of sources z) ≡ true
    by None none = absurd (least.unreached z q none (record { is = marked }) back)
    by (Some s) some = ap is_some some

  keeps_down : (p q : ℕ) → p < length ids → mark_of marks q ≡ true → Leads Up p q → Leads (Links kept (length ids)) p q
  keeps_down p q within marked leads = path_down p leads.list within leads.path where
    path_down : (x : ℕ) (list : List ℕ) → x < length ids → IsPath Up x list q → Leads (Links kept (length ids)) x q
    path_down x [] within same = record { list = []; path = same }
    path_down x (z ∷ zs) within path =
        let P : List ℕ → Type 0 = λ l. Contains l z in
        let rest = path_down z zs path.0.index path.1 in
        let listed = kept_inside (λ y. is_some (source_of sources y)) (row above x) z path.0.listed (has_source z q path.0.index marked (record { list = zs; path = path.1 })) in
        record { list = z ∷ rest.list; path = (record { listed = subst P (sym (rows.each x within)) listed; index = path.0.index }, rest.path) }

  -- an answer by the rows that are kept is one by all rows
  pub kept_answers : (there : List Bool) (id : List ℕ) (found : Option (List (List ℕ))) → IsAnswer ids kept there marks id found → IsAnswer ids above there marks id found
  kept_answers there id None answer = record { none = answer.none; some = tt }
  kept_answers there id (Some list) answer = record {
    none = tt;
    some = record {
      index = answer.some.index;
      at = answer.some.at;
      absent = answer.some.absent;
      ascend = answer.some.ascend;
      each = λ giver. (
        λ inside. (let own = (answer.some.each giver).0 inside in record {
          own = own.own;
          within = own.within;
          is = own.is;
          marked = own.marked;
          leads = keeps_up answer.some.index own.own answer.some.at.within own.leads;
        }),
        λ own. (answer.some.each giver).1 (record {
          own = own.own;
          within = own.within;
          is = own.is;
          marked = own.marked;
          leads = keeps_down answer.some.index own.own answer.some.at.within own.marked own.leads;
        }),
      );
    };
  }

-- ---- answers of a content

pub answer_is : (content : Content) (rows : List ZoneRow) (asked ids above : List (List ℕ)) (there candidates : List Bool) → IsFound content rows asked ids above there candidates
    → (id : List ℕ) (found : Option (List (List ℕ))) → Contains asked id → IsAnswer ids above there candidates id found → found ≡ candidates_unless_there content rows id
answer_is content rows asked ids above there candidates is id None inside answer =
    let at = inside_at ids id (is.members id inside) in
    let T : List ℕ → Type 0 = λ x. is_there content rows x ≡ true in
    let here : is_there content rows id ≡ true = subst T at.is (sym (is.there_are at.index at.within) ∙ answer.none at.index (record { within = at.within; is = at.is })) in
    rw here refl
answer_is content rows asked ids above there candidates is id (Some list) inside answer =
    let some = answer.some in
    let T : List ℕ → Type 0 = λ x. is_there content rows x ≡ false in
    let A : List ℕ → Type 0 = λ x. Contains asked x in
    let absent : is_there content rows id ≡ false = subst T some.at.is (sym (is.there_are some.index some.at.within) ∙ some.absent) in
    let asked_here : Contains asked (id_at ids some.index) = subst A (sym some.at.is) inside in
    let R : List ℕ → Type 0 = λ x. Some list ≡ Some (filter (λ giver. is_candidate content rows giver) (givers_of content x)) in
    let found = candidates_found content is.ordered ids above is.are rows candidates some.index list some.at.within some.ascend some.each
    (λ q leads. is.candidates_are some.index q some.at.within asked_here some.absent leads) in
    rw absent (subst R some.at.is (ap Some found))

-- one answer more
pub answers_more : {X Y : Type 0} (g : X → Y) (f : List ℕ → Y) (asked : List (List ℕ)) (i : ℕ) (id : List ℕ) (old new : List X) (x : X) → i < length asked → id ≡ get_or asked i id
    → map g old ≡ map f (take i asked) → new ≡ old ++ x ∷ [] → g x ≡ f id → map g new ≡ map f (take (i + 1) asked)
answers_more {X} {Y} g f asked i id old new x below at was now is =
    made_more f asked i id (g x) (map g old) (map g new) below at was (ap (map g) now ∙ map-append g old (x ∷ [])) is

-- an answer from where an id stands
pub answer_from : (ids above : List (List ℕ)) (there candidates : List Bool) (id : List ℕ) (index : Option ℕ) (found : Option (List (List ℕ)))
    → IfSome index (IsAt ids id) → IfSome index (λ p. mark_of there p ≡ false) → IfNone index ((p : ℕ) → IsAt ids id p → mark_of there p ≡ true)
    → AreFrom ids above candidates index found → IsAnswer ids above there candidates id found
answer_from ids above there candidates id None None at absent none are = record { none = none; some = tt }
answer_from ids above there candidates id None (Some list) at absent none are = absurd are
answer_from ids above there candidates id (Some index) None at absent none are = absurd are
answer_from ids above there candidates id (Some index) (Some list) at absent none are = record {
  none = tt;
  some = record { index = index; at = at; absent = absent; ascend = are.0; each = are.1 };
}

-- ---- marks of the ids that aren't there

abbrev pub AreMarked : List (List ℕ) → List (List ℕ) → List Bool → List Bool → Type 0
AreMarked ids asked there marks = (p : ℕ) → p < length ids → Contains asked (id_at ids p) → mark_of there p ≡ false → mark_of marks p ≡ true

module _ (ids asked : List (List ℕ)) (there : List Bool) (i : ℕ) (id : List ℕ) (up : Ascend ids) (below : i < length asked) (at : id ≡ get_or asked i id) where
  here_or_before : (p : ℕ) → Contains (take (i + 1) asked) (id_at ids p) → Contains (take i asked) (id_at ids p) ⊎ (id ≡ id_at ids p)
  here_or_before p inside =
      let front : take (i + 1) asked ≡ take i asked ++ id ∷ [] = take_more asked i id below ∙ ap (λ x. take i asked ++ x ∷ []) (sym at) in
      let P : List (List ℕ) → Type 0 = λ l. Contains l (id_at ids p) in
      Contains-push_cases (take i asked) id (id_at ids p) (subst P front inside)

  -- an id that is there already, or stands nowhere
  pub marks_pass : (marks : List Bool) → ((p : ℕ) → IsAt ids id p → mark_of there p ≡ true) → AreMarked ids (take i asked) there marks → AreMarked ids (take (i + 1) asked) there marks
  marks_pass marks there_is were p within inside absent = elim (here_or_before p inside) [
    | inl before ↦ were p within before absent
    | inr same ↦ (let on : mark_of there p ≡ true = there_is p (record { within = within; is = sym same }) in absurd (cc))
  ]

  -- one that isn't
  pub marks_put : (marks : List Bool) (index : ℕ) → length marks ≡ length ids → IsAt ids id index → AreMarked ids (take i asked) there marks → AreMarked ids (take (i + 1) asked) there (set marks index true)
  marks_put marks index as_many stands were p within inside absent = elim (cases_eq p index) [
    | inl same ↦
        let M : ℕ → Type 0 = λ k. mark_of (set marks index true) k ≡ true in
        let own = stands.within in
        subst M (sym same) (get_or-set_same marks index true false (omega (arith, own, as_many)))
    | inr other ↦ get_or-set_other marks index p true false other ∙ elim (here_or_before p inside) [
      | inl before ↦ were p within before absent
      | inr same ↦ absurd (other (index_is ids id p index up (record { within = within; is = sym same }) stands))
    ]
  ]

-- ---- all that is found

-- one of some ids, where there is one
pub one_inside : (ids : List (List ℕ)) → (length ids == 0) ≡ false → (id : List ℕ) × Contains ids id
one_inside [] some = absurd (cc some)
one_inside (id ∷ ids) some = (id, first_inside id ids)

pub found_is : (content : Content) (rows : List ZoneRow) (asked ids above below : List (List ℕ)) (there absent candidates : List Bool) (wanted : List (Option ℕ)) → IsInOrder content
    → AreAbove content ids above → ((id : List ℕ) → Contains asked id → Contains ids id) → AreReversed above (length ids) below → AreThere rows ids below there
    → length absent ≡ length ids → AreMarked ids asked there absent → AreLeastSources above absent wanted
    → MarksAre (λ p mark. HasSource wanted p → mark ≡ is_candidate content rows (id_at ids p)) (length ids) candidates → IsFound content rows asked ids above there candidates
found_is content rows asked ids above below there absent candidates wanted ordered are members turned there_are as_many marked least candidates_are = record {
  ordered = ordered;
  are = are;
  members = members;
  there_are = marks_there content ordered ids above are rows below turned there there_are;
  candidates_are = λ p q within inside off leads.
      candidates_are.each q (leads_closed (λ k. k < length ids) (λ u v here link. link.index) within leads) (sourced p q within inside off leads (source_of wanted q) refl);
} where
  sourced : (p q : ℕ) → p < length ids → Contains asked (id_at ids p) → mark_of there p ≡ false → Leads (Links above (length ids)) p q → (o : Option ℕ) → source_of wanted q ≡ o → HasSource wanted q
  sourced p q within inside off leads (Some s) is = record { source = s; is = is }
  sourced p q within inside off leads None is =
      let L : ℕ → Type 0 = λ n. Leads (Links above n) p q in
      absurd (least.unreached q p is (record { is = marked p within inside off }) (subst L (sym as_many) leads))

-- what is kept of the first of a list, and of one more
pub kept_on : {X : Type 0} (p : X → Bool) (xs : List X) (i : ℕ) (d : X) (b : Bool) (old : List X) → i < length xs → b ≡ p (get_or xs i d) → old ≡ filter p (take i xs)
    → old ++ cond b (get_or xs i d ∷ []) [] ≡ filter p (take (i + 1) xs)
kept_on {X} p xs i d b old below is was =
    ap (λ (l : List X). l ++ cond b (get_or xs i d ∷ []) []) was
    ∙ ap (λ (t : Bool). filter p (take i xs) ++ cond t (get_or xs i d ∷ []) []) is
    ∙ sym (filter_more p xs i d below)
