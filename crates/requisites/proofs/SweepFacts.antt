-- Nodes that lose their marks.
use Rattle.std.proofs.Common.{◌≡◌, ◌≢◌, ℕ, ◌+◌, ◌<◌, List, Bool, true, false, Option, length, get_or, set, refl, sym, ap, ◌∙◌, subst, inl, inr, arith}
use Rattle.std.specs.Prelude.{if◌then◌else◌}
use Rattle.std.proofs.lemmas.Bool.{cases_eq, cases_lt}
use Rattle.std.proofs.lemmas.List.{get_or-set_same, get_or-set_other}
use Rattle.std.proofs.lemmas.List.Sums.{sum_by-set}
use Rattle.std.proofs.lemmas.Grind.{common_steps}
use Rattle.requisites.specs.Nodes.{IsMarked, mark_of, row}
use Rattle.requisites.specs.Good.{AreMet, AreSwept, HasOpenNeed, marked_count}
use Rattle.requisites.specs.declared.nodes.Nodes.{Nodes}

-- a mark that is left is another's
pub mark_left : (marks : List Bool) (i p : ℕ) → i < length marks → IsMarked (set marks i false) p → (p ≢ i) × IsMarked marks p
mark_left marks i p h marked =
    elim (cases_eq p i) [
      | inl e ↦ absurd (let off : mark_of (set marks i false) i ≡ false = get_or-set_same marks i false false h in let on : mark_of (set marks i false) i ≡ true = (let P : ℕ → Type 0 = λ k. mark_of (set marks i false) k ≡ true in subst P e marked.is) in cc)
      | inr ne ↦ (ne, record { is = sym (get_or-set_other marks i p false false ne) ∙ marked.is })
    ]

pub mark_stays : (marks : List Bool) (i p : ℕ) → p ≢ i → IsMarked marks p → IsMarked (set marks i false) p
mark_stays marks i p ne marked = record { is = get_or-set_other marks i p false false ne ∙ marked.is }

pub count_falls : (marks : List Bool) (i : ℕ) → i < length marks → IsMarked marks i → marked_count (set marks i false) < marked_count marks
count_falls marks i h marked =
    let weight : Bool → ℕ = λ b. if b then 1 else 0 in
    let one : weight (get_or marks i false) ≡ 1 = ap weight marked.is in
    let sums : marked_count (set marks i false) + weight (get_or marks i false) ≡ marked_count marks + 0 = sum_by-set weight marks i false false h in
    omega arith

pub swept_none : (nodes : Nodes) (givers : List (Option ℕ)) (marks : List Bool) → AreSwept nodes givers 0 marks marks false
swept_none nodes givers marks = record {
  len = refl;
  falls = λ p marked. marked;
  fell_for = λ p marked. inl marked;
  at_most = omega arith;
  fewer = λ e. absurd (cc);
  same = λ e. refl;
  met = λ e p h marked. absurd (omega arith);
}

-- the node i has an open need
pub swept_falls : (nodes : Nodes) (givers : List (Option ℕ)) (i : ℕ) (old marks : List Bool) (fell : Bool) → AreSwept nodes givers i old marks fell → i < length marks → IsMarked marks i → HasOpenNeed nodes givers i → AreSwept nodes givers (i + 1) old (set marks i false) true
swept_falls nodes givers i old marks fell a h marked unmet = record {
  len = (let e : length (set marks i false) ≡ length marks = grind (arith, common_steps) in e ∙ a.len);
  falls = λ p left. a.falls p (mark_left marks i p h left).1;
  fell_for = λ p was. elim (a.fell_for p was) [
    | inl still ↦ elim (cases_eq p i) [
      | inl e ↦ inr (let P : ℕ → Type 0 = λ k. HasOpenNeed nodes givers k in subst P (sym e) unmet)
      | inr ne ↦ inl (mark_stays marks i p ne still)
    ]
    | inr reason ↦ inr reason
  ];
  at_most = omega (arith, count_falls marks i h marked, a.at_most);
  fewer = λ e. omega (arith, count_falls marks i h marked, a.at_most);
  same = λ e. absurd (cc);
  met = λ e p below was. absurd (cc);
}

-- the needs of the node i are met, if it is marked
pub swept_stays : (nodes : Nodes) (givers : List (Option ℕ)) (i : ℕ) (old marks : List Bool) (fell : Bool) → AreSwept nodes givers i old marks fell → (IsMarked marks i → AreMet nodes givers (row nodes.needs i)) → AreSwept nodes givers (i + 1) old marks fell
swept_stays nodes givers i old marks fell a met = record {
  len = a.len;
  falls = a.falls;
  fell_for = a.fell_for;
  at_most = a.at_most;
  fewer = a.fewer;
  same = a.same;
  met = λ e p below was. elim (cases_lt p i) [
    | inl before ↦ a.met e p before was
    | inr after ↦
        (let same : p ≡ i = omega arith in
        let P : ℕ → Type 0 = λ k. AreMet nodes givers (row nodes.needs k) in
        subst P (sym same) (met (let Q : ℕ → Type 0 = λ k. IsMarked marks k in subst Q same (let R : List Bool → Type 0 = λ m. IsMarked m p in subst R (sym (a.same e)) was))))
  ];
}

-- the invariant for what a branch left
pub swept_left : (nodes : Nodes) (givers : List (Option ℕ)) (i : ℕ) (old m m' : List Bool) (f f' : Bool) → m' ≡ m → f' ≡ f → AreSwept nodes givers i old m f → AreSwept nodes givers i old m' f'
swept_left nodes givers i old m m' f f' same_m same_f a =
    let P : List Bool → Type 0 = λ k. AreSwept nodes givers i old k f' in
    let Q : Bool → Type 0 = λ b. AreSwept nodes givers i old m b in
    subst P (sym same_m) (subst Q (sym same_f) a)
