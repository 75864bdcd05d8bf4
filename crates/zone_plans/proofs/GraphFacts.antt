-- Members by their indices.
use Rattle.std.proofs.Common.{◌≡◌, ◌∙◌, ◌+◌, ◌<◌, ℕ, zero, suc, List, [], ◌∷◌, ◌++◌, Bool, true, false, Option, Some, None, length, get_or, take, map, refl, sym, ap, subst, inl, inr, arith}
use Rattle.std.specs.Bool.{OnFalse, OnTrue}
use Rattle.std.specs.Prelude.{◌↔◌}
use Rattle.std.specs.List.{Contains, flat_map}
use Rattle.std.proofs.lemmas.Bool.{cases_lt}
use Rattle.std.proofs.lemmas.List.{get_or_past, take_more, get_or-map}
use Rattle.std.proofs.lemmas.List.Elements.{Contains-append_cases, Contains-append_left, Contains-append_right, Contains-push, Contains-push_cases}
use Rattle.lemmas.proofs.ListFacts.{first_inside}
use Rattle.catalogue.specs.Ids.{Ascend}
use Rattle.catalogue.proofs.IdFacts.{in_order_has}
use Rattle.supersede.specs.Reach.{has}
use Rattle.supersede.proofs.ReachFacts.{has_from}
use Rattle.requisites.specs.Nodes.{mark_of}
use Rattle.requisites.specs.Sources.{HasSource, source_of}
use Rattle.requisites.proofs.SourceFacts.{marked_inside}
use Rattle.verdicts.specs.Indices.{id_at, IsAt, MarksAre}
use Rattle.verdicts.proofs.IndexFacts.{index_is, indexed_inside}
use Rattle.zone_plans.specs.Graphs.{AreAnswered, AreGivenIndices, ArePushed, AreSourced, AreStarts, IsGivenIndex, IsLeftAmong, IsStart}
use Rattle.zone_plans.specs.Readings.{ReadingLists, all_needs}

-- a mark is that of a fact
pub record IsMarkOf (P : Type 0) (mark : Bool) : Type 0 where
  pub on : mark ≡ true → P
  pub off : mark ≡ false → P → ⊥

-- a mark by a test that goes both ways
pub mark_by : (P : Type 0) (mark : Bool) → OnTrue mark P → OnFalse mark (P → ⊥) → IsMarkOf P mark
mark_by P true here none = record { on = λ e. here; off = λ e. absurd (cc) }
mark_by P false here none = record { on = λ e. absurd (cc); off = λ e. none }

pub mark_of_test : (P : Type 0) (mark : Bool) → (mark ≡ true) ↔ P → IsMarkOf P mark
mark_of_test P mark is = record { on = is.0; off = λ e p. let on : mark ≡ true = is.1 p in cc }

on_from : (P : Type 0) (b : Bool) → IsMarkOf P b → b ≡ true → P
on_from P b is e = is.on e

decided : (P : Type 0) (b : Bool) → IsMarkOf P b → P → b ≡ true
decided P true is p = refl
decided P false is p = absurd (is.off refl p)

pub sourced_end : (sources : List (Option ℕ)) (i : ℕ) (marks : List Bool) → i ≡ length sources → MarksAre (λ p mark. IsMarkOf (HasSource sources p) mark) i marks → AreSourced sources marks
sourced_end sources i marks end are = record {
  len = are.len ∙ end;
  marked = λ p on. (are.each p (omega (arith, marked_inside marks p on, are.len))).on on.is;
  whole = λ p had. record { is = decided (HasSource sources p) (mark_of marks p) (are.each p (omega (arith, source_inside sources p had, end))) had };
} where
  source_inside : (sources : List (Option ℕ)) (p : ℕ) → HasSource sources p → p < length sources
  source_inside sources p had = elim (cases_lt p (length sources)) [
    | inl inside ↦ inside
    | inr past ↦ absurd (let none : source_of sources p ≡ None = get_or_past sources p None past in let some : source_of sources p ≡ Some had.source = had.is in cc)
  ]

pub starts_end : (left : List Bool) (sources : List (Option ℕ)) (i : ℕ) (marks : List Bool) → i ≡ length left → MarksAre (λ p mark. IsMarkOf (IsStart left sources p) mark) i marks → AreStarts left sources marks
starts_end left sources i marks end are = record {
  len = are.len ∙ end;
  marked = λ p on. (are.each p (omega (arith, marked_inside marks p on, are.len))).on on.is;
  whole = λ p is. record { is = decided (IsStart left sources p) (mark_of marks p) (are.each p (omega (arith, marked_inside left p is.marked, end))) is };
}

-- ---- what is pushed

pub pushed_none : (ids : List (List ℕ)) (left : List Bool) (old : List ℕ) → ArePushed ids left [] old old
pushed_none ids left old = record {
  keeps = λ q had. had;
  given = λ q had. inl had;
  whole = λ q among. absurd (let none = among.listed in omega (arith, none.1));
}

one_listed : (giver id : List ℕ) → Contains (giver ∷ []) id → giver ≡ id
one_listed giver id listed = elim (Contains-push_cases [] giver id listed) [
  | inl none ↦ absurd (omega (arith, none.1))
  | inr same ↦ same
]

pub pushed_one : (ids : List (List ℕ)) (left : List Bool) (giver : List ℕ) (index : ℕ) (old new : List ℕ) → Ascend ids → IsAt ids giver index → mark_of left index ≡ true → new ≡ old ++ index ∷ [] → ArePushed ids left (giver ∷ []) old new
pushed_one ids left giver index old new ascend at on is =
    let P : List ℕ → Type 0 = λ l. ArePushed ids left (giver ∷ []) old l in
    subst P (sym is) (record {
      keeps = λ q had. Contains-append_left old (index ∷ []) q had;
      given = λ q had. elim (Contains-push_cases old index q had) [
        | inl before ↦ inl before
        | inr same ↦ inr (let Q : ℕ → Type 0 = λ k. IsLeftAmong ids left (giver ∷ []) k in
            let C : List ℕ → Type 0 = λ g. Contains (g ∷ []) (id_at ids index) in
            subst Q same (record { within = at.within; marked = record { is = on }; listed = subst C at.is (first_inside (id_at ids index) []) }))
      ];
      whole = λ q among.
          let same : index ≡ q = index_is ids giver index q ascend at (record { within = among.within; is = sym (one_listed giver (id_at ids q) among.listed) }) in
          let Q : ℕ → Type 0 = λ k. Contains (old ++ index ∷ []) k in
          subst Q same (Contains-push old index);
    })

pub pushed_unmarked : (ids : List (List ℕ)) (left : List Bool) (giver : List ℕ) (index : ℕ) (old : List ℕ) → Ascend ids → IsAt ids giver index → mark_of left index ≡ false → ArePushed ids left (giver ∷ []) old old
pushed_unmarked ids left giver index old ascend at off = record {
  keeps = λ q had. had;
  given = λ q had. inl had;
  whole = λ q among.
      absurd (let same : q ≡ index = index_is ids giver q index ascend (record { within = among.within; is = sym (one_listed giver (id_at ids q) among.listed) }) at in
      let Q : ℕ → Type 0 = λ k. mark_of left k ≡ true in
      let on : mark_of left index ≡ true = subst Q same among.marked.is in cc);
}

pub pushed_absent : (ids : List (List ℕ)) (left : List Bool) (giver : List ℕ) (old : List ℕ) → (Contains ids giver → ⊥) → ArePushed ids left (giver ∷ []) old old
pushed_absent ids left giver old none = record {
  keeps = λ q had. had;
  given = λ q had. inl had;
  whole = λ q among. absurd (none (indexed_inside ids giver q (record { within = among.within; is = sym (one_listed giver (id_at ids q) among.listed) })));
}

pub pushed_more : (ids : List (List ℕ)) (left : List Bool) (givers : List (List ℕ)) (i : ℕ) (giver : List ℕ) (a b c : List ℕ) → i < length givers → giver ≡ get_or givers i giver
    → ArePushed ids left (take i givers) a b → ArePushed ids left (giver ∷ []) b c → ArePushed ids left (take (i + 1) givers) a c
pushed_more ids left givers i giver a b c below at first second =
    let e : take (i + 1) givers ≡ take i givers ++ giver ∷ [] = take_more givers i giver below ∙ ap (λ z. take i givers ++ z ∷ []) (sym at) in
    let P : List (List ℕ) → Type 0 = λ l. ArePushed ids left l a c in
    subst P (sym e) (record {
      keeps = λ q had. second.keeps q (first.keeps q had);
      given = λ q had. elim (second.given q had) [
        | inl before ↦ elim (first.given q before) [
          | inl old ↦ inl old
          | inr among ↦ inr (record { within = among.within; marked = among.marked; listed = Contains-append_left (take i givers) (giver ∷ []) (id_at ids q) among.listed })
        ]
        | inr among ↦ inr (record { within = among.within; marked = among.marked; listed = Contains-append_right (take i givers) (giver ∷ []) (id_at ids q) among.listed })
      ];
      whole = λ q among. elim (Contains-append_cases (take i givers) (giver ∷ []) (id_at ids q) among.listed) [
        | inl before ↦ second.keeps q (first.whole q (record { within = among.within; marked = among.marked; listed = before }))
        | inr here ↦ second.whole q (record { within = among.within; marked = among.marked; listed = here })
      ];
    })

-- ---- what is given

pub given_none : (f : List ℕ → Option (List (List ℕ))) (ids : List (List ℕ)) (left : List Bool) → AreGivenIndices f ids left [] []
given_none f ids left = record {
  given = λ q had. absurd (omega (arith, had.1));
  whole = λ q is. absurd (let none = is.needed in omega (arith, none.1));
}

module _ (f : List ℕ → Option (List (List ℕ))) (ids : List (List ℕ)) (left : List Bool) (needs : List (List ℕ)) (need : List ℕ) where
  wider : (q : ℕ) → IsGivenIndex f ids left needs q → IsGivenIndex f ids left (needs ++ need ∷ []) q
  wider q is = record { need = is.need; needed = Contains-append_left needs (need ∷ []) is.need is.needed; givers = is.givers; answer = is.answer; gives = is.gives }

  answered : (answer : Option (List (List ℕ))) (old new : List ℕ) → f need ≡ answer → AreGivenIndices f ids left needs old → AreAnswered ids left answer old new → AreGivenIndices f ids left (needs ++ need ∷ []) new
  answered None old new e a same =
      let P : List ℕ → Type 0 = λ l. AreGivenIndices f ids left (needs ++ need ∷ []) l in
      subst P (sym same) (record {
        given = λ q had. wider q (a.given q had);
        whole = λ q is. elim (Contains-push_cases needs need is.need is.needed) [
          | inl before ↦ a.whole q (record { need = is.need; needed = before; givers = is.givers; answer = is.answer; gives = is.gives })
          | inr here ↦ absurd (let Q : List ℕ → Type 0 = λ n. f n ≡ None in let none : f is.need ≡ None = subst Q here e in let some : f is.need ≡ Some is.givers = is.answer in cc)
        ];
      })
  answered (Some givers) old new e a pushed = record {
    given = λ q had. elim (pushed.given q had) [
      | inl before ↦ wider q (a.given q before)
      | inr among ↦ record { need = need; needed = Contains-push needs need; givers = givers; answer = e; gives = among }
    ];
    whole = λ q is. elim (Contains-push_cases needs need is.need is.needed) [
      | inl before ↦ pushed.keeps q (a.whole q (record { need = is.need; needed = before; givers = is.givers; answer = is.answer; gives = is.gives }))
      | inr here ↦
          (let Q : List ℕ → Type 0 = λ n. f n ≡ Some is.givers in
          let own : f need ≡ Some is.givers = subst Q (sym here) is.answer in
          let same : is.givers ≡ givers = (cc) in
          let R : List (List ℕ) → Type 0 = λ g. IsLeftAmong ids left g q in
          pushed.whole q (subst R same is.gives))
    ];
  }

pub given_more : (f : List ℕ → Option (List (List ℕ))) (ids : List (List ℕ)) (left : List Bool) (needs : List (List ℕ)) (i : ℕ) (need : List ℕ) (answer : Option (List (List ℕ))) (old new : List ℕ)
    → i < length needs → need ≡ get_or needs i need → f need ≡ answer → AreGivenIndices f ids left (take i needs) old → AreAnswered ids left answer old new → AreGivenIndices f ids left (take (i + 1) needs) new
given_more f ids left needs i need answer old new below at e a is =
    let taken : take (i + 1) needs ≡ take i needs ++ need ∷ [] = take_more needs i need below ∙ ap (λ z. take i needs ++ z ∷ []) (sym at) in
    let P : List (List ℕ) → Type 0 = λ l. AreGivenIndices f ids left l new in
    subst P (sym taken) (answered f ids left (take i needs) need answer old new e a is)

-- ---- lookups

-- what a member needs is among all that is needed
pub need_listed : (readings : List ReadingLists) (k : ℕ) (d : ReadingLists) (need : List ℕ) → k < length readings → Contains (get_or readings k d).needs need → Contains (flat_map (λ (r : ReadingLists). r.needs) readings) need
need_listed [] k d need below inside = absurd (omega arith)
need_listed (r ∷ rs) zero d need below inside = Contains-append_left r.needs (flat_map (λ (r : ReadingLists). r.needs) rs) need inside
need_listed (r ∷ rs) (suc k) d need below inside = Contains-append_right r.needs (flat_map (λ (r : ReadingLists). r.needs) rs) need (need_listed rs k d need (omega arith) inside)

pub need_asked : (readings : List ReadingLists) (asked : List (List ℕ)) (k : ℕ) (reading : ReadingLists) (need : List ℕ) → asked ≡ all_needs readings → k < length readings → reading ≡ get_or readings k reading → Contains reading.needs need → has asked need ≡ true
need_asked readings asked k reading need are below at inside =
    let N : ReadingLists → Type 0 = λ r. Contains r.needs need in
    let P : List (List ℕ) → Type 0 = λ l. has l need ≡ true in
    subst P (sym are) (has_from (all_needs readings) need ((in_order_has (flat_map (λ (r : ReadingLists). r.needs) readings) need).1 (need_listed readings k reading need below (subst N at inside))))

-- ---- what a loop reads

pub element_inside : {X : Type 0} (xs : List X) (i : ℕ) (x : X) → i < length xs → x ≡ get_or xs i x → Contains xs x
element_inside xs i x below at = (i, below, sym at)

pub item_inside : (xs : List (List ℕ)) (i : ℕ) (x : List ℕ) → i < length xs → x ≡ get_or xs i x → Contains xs x
item_inside xs i x below at = (i, below, sym at)

pub list_of_item : {X : Type 0} (f : X → List (List ℕ)) (xs : List X) (i : ℕ) (x : X) → i < length xs → x ≡ get_or xs i x → get_or (map f xs) i [] ≡ f x
list_of_item f xs i x below at = get_or-map f xs i x [] below ∙ ap f (sym at)
