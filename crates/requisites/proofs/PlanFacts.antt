-- What is left when nothing falls any more is a plan, and no plan loses a member.
use Rattle.std.proofs.Common.{◌≡◌, ℕ, ◌+◌, ◌≤◌, ◌⊎◌, List, [], ◌∷◌, ◌++◌, Bool, true, false, Option, length, take, drop, refl, sym, ◌∙◌, subst, inl, inr, arith, suc, zero}
use Rattle.std.specs.List.{Contains}
use Rattle.std.proofs.lemmas.List.{take_all, take-append-le}
use Rattle.std.proofs.lemmas.List.Elements.{Contains-append_left, Contains-append_right, Contains-append_cases, Contains-push, Contains-push_cases}
use Rattle.requisites.specs.Leads.{Leads}
use Rattle.requisites.specs.World.{IsGood, IsPlan}
use Rattle.requisites.specs.Nodes.{IsMarked, Links, mark_of, row, world}
use Rattle.requisites.specs.Sources.{AreLeastSources}
use Rattle.requisites.specs.Good.{AreGood, AreMarksLeft, AreMet, AreSwept, HasOpenNeed}
use Rattle.requisites.specs.declared.nodes.Nodes.{Nodes}
use Rattle.requisites.proofs.SourceFacts.{marked_inside}

-- the marked nodes, counted from k
marked_from : List Bool → ℕ → List ℕ
marked_from [] k = []
marked_from (true ∷ marks) k = k ∷ marked_from marks (k + 1)
marked_from (false ∷ marks) k = marked_from marks (k + 1)

pub contains_first : (k : ℕ) (rest : List ℕ) → Contains (k ∷ rest) k
contains_first k rest = Contains-append_left (k ∷ []) rest k (Contains-push [] k)

pub contains_rest : (k q : ℕ) (rest : List ℕ) → Contains rest q → Contains (k ∷ rest) q
contains_rest k q rest inside = Contains-append_right (k ∷ []) rest q inside

pub contains_cases : (k q : ℕ) (rest : List ℕ) → Contains (k ∷ rest) q → (k ≡ q) ⊎ Contains rest q
contains_cases k q rest inside = elim (Contains-append_cases (k ∷ []) rest q inside) [
  | inl first ↦ elim (Contains-push_cases [] k q first) [ inl none ↦ absurd (omega (arith, none.1)) | inr e ↦ inl e ]
  | inr later ↦ inr later
]

marked_listed : (marks : List Bool) (k i q : ℕ) → q ≡ k + i → mark_of marks i ≡ true → Contains (marked_from marks k) q
unfolding marked_from
marked_listed [] k i q e on = absurd (cc)
marked_listed (true ∷ marks) k zero q e on = let same : k ≡ q = omega arith in let P : ℕ → Type 0 = λ j. Contains (k ∷ marked_from marks (k + 1)) j in subst P same (contains_first k (marked_from marks (k + 1)))
marked_listed (true ∷ marks) k (suc i) q e on = contains_rest k q (marked_from marks (k + 1)) (marked_listed marks (k + 1) i q (omega arith) on)
marked_listed (false ∷ marks) k zero q e on = absurd (cc)
marked_listed (false ∷ marks) k (suc i) q e on = marked_listed marks (k + 1) i q (omega arith) on

-- the index of a listed one, counted from k
record IsAt (marks : List Bool) (k q : ℕ) : Type 0 where
  index : ℕ
  is : q ≡ k + index
  marked : mark_of marks index ≡ true

one_on : (b : Bool) (marks : List Bool) (k q : ℕ) → IsAt marks (k + 1) q → IsAt (b ∷ marks) k q
one_on b marks k q a = record { index = suc a.index; is = omega (arith, a.is); marked = a.marked }

listed_marked : (marks : List Bool) (k q : ℕ) → Contains (marked_from marks k) q → IsAt marks k q
unfolding marked_from
listed_marked [] k q inside = absurd (omega (arith, inside.1))
listed_marked (true ∷ marks) k q inside = elim (contains_cases k q (marked_from marks (k + 1)) inside) [
  | inl same ↦ record { index = zero; is = omega arith; marked = refl }
  | inr later ↦ one_on true marks k q (listed_marked marks (k + 1) q later)
]
listed_marked (false ∷ marks) k q inside = one_on false marks k q (listed_marked marks (k + 1) q inside)

-- the marked nodes as a list
pub marked_indices : List Bool → List ℕ
marked_indices marks = marked_from marks 0

pub marked-indices : (marks : List Bool) (p : ℕ) → IsMarked marks p → Contains (marked_indices marks) p
unfolding marked_indices
marked-indices marks p marked = marked_listed marks 0 p p (omega arith) marked.is

pub indices-marked : (marks : List Bool) (p : ℕ) → Contains (marked_indices marks) p → IsMarked marks p
unfolding marked_indices
indices-marked marks p inside = let at = listed_marked marks 0 p inside in let same : at.index ≡ p = omega (arith, at.is) in record { is = (let P : ℕ → Type 0 = λ j. mark_of marks j ≡ true in subst P same at.marked) }

pub left_begins : (nodes : Nodes) (marks : List Bool) → marks ≡ nodes.candidates.items → AreMarksLeft nodes marks
left_begins nodes marks e = let P : List Bool → Type 0 = λ m. AreMarksLeft nodes m in subst P (sym e) (record {
  len = refl;
  candidates = λ p marked. marked;
  keep = λ p good. good.plan.candidates p good.member;
})

-- a good node has no open need
pub good_has_none : (nodes : Nodes) (marks : List Bool) (givers : List (Option ℕ)) (p : ℕ) → AreMarksLeft nodes marks → AreLeastSources nodes.supersedes marks givers → IsGood (world nodes) p → HasOpenNeed nodes givers p → ⊥
good_has_none nodes marks givers p left sources good unmet =
    let r = unmet.need in
    elim (good.plan.needs_met p r good.member unmet.is_open.needs) [
      | inl there ↦ (let on : mark_of nodes.there.items r ≡ true = there.is in let off : mark_of nodes.there.items r ≡ false = unmet.is_open.absent in cc)
      | inr given ↦ sources.unreached r given.giver unmet.is_open.ungiven
          (left.keep given.giver (record { members = good.members; plan = good.plan; member = given.member }))
          (let P : ℕ → Type 0 = λ n. Leads (Links nodes.supersedes n) given.giver r in subst P (sym left.len) given.gives)
    ]

pub left_swept : (nodes : Nodes) (i : ℕ) (old new : List Bool) (givers : List (Option ℕ)) (fell : Bool) → AreMarksLeft nodes old → AreLeastSources nodes.supersedes old givers → AreSwept nodes givers i old new fell → AreMarksLeft nodes new
left_swept nodes i old new givers fell left sources swept = record {
  len = swept.len ∙ left.len;
  candidates = λ p marked. left.candidates p (swept.falls p marked);
  keep = λ p good. elim (swept.fell_for p (left.keep p good)) [
    | inl still ↦ still
    | inr unmet ↦ absurd (good_has_none nodes old givers p left sources good unmet)
  ];
}

-- where each need of each marked node is met, the marked nodes are a plan
pub left_is_plan : (nodes : Nodes) (marks : List Bool) (givers : List (Option ℕ)) → AreMarksLeft nodes marks → AreLeastSources nodes.supersedes marks givers → ((p : ℕ) → IsMarked marks p → AreMet nodes givers (row nodes.needs p)) → IsPlan (world nodes) (marked_indices marks)
left_is_plan nodes marks givers left sources met = record {
  candidates = λ p inside. left.candidates p (indices-marked marks p inside);
  needs_met = λ p r inside needs. elim ((met p (indices-marked marks p inside)).met r needs) [
    | inl there ↦ inl there
    | inr had ↦ (let least = sources.reached r had.source had.is in inr (record {
      giver = had.source;
      member = marked-indices marks had.source least.marked;
      gives = (let P : ℕ → Type 0 = λ n. Leads (Links nodes.supersedes n) had.source r in subst P left.len least.leads);
    }))
  ];
}

pub good_found : (nodes : Nodes) (i : ℕ) (old new : List Bool) (givers : List (Option ℕ)) (fell : Bool) → fell ≡ false → i ≡ length old → AreMarksLeft nodes old → AreLeastSources nodes.supersedes old givers → AreSwept nodes givers i old new fell → AreGood nodes new givers
good_found nodes i old new givers fell none whole left sources swept =
    let P : List Bool → Type 0 = λ m. AreGood nodes m givers in
    subst P (sym (swept.same none)) (record {
      len = left.len;
      marked = λ p marked. record {
        members = marked_indices old;
        plan = left_is_plan nodes old givers left sources (λ q on. swept.met none q (omega (arith, marked_inside old q on)) on);
        member = marked-indices old p marked;
      };
      unmarked = left.keep;
      given_by = sources;
    })

-- a part that is lent whole comes back whole
pub lent_whole : {X : Type 0} (n : ℕ) (new old : List X) → n ≡ length new → take n (new ++ drop (length new) old) ≡ new
lent_whole n new old e =
    let within : n ≤ length new = omega arith in
    let all : length new ≤ n = omega arith in
    take-append-le n new (drop (length new) old) within ∙ take_all n new all

-- the sources that a round found, of lists read through references
pub read_sources : (nodes : Nodes) (lists : List (List ℕ)) (marks : List Bool) (given givers : List (Option ℕ)) → lists ≡ nodes.supersedes → given ≡ givers → AreLeastSources lists marks givers → AreLeastSources nodes.supersedes marks given
read_sources nodes lists marks given givers same_lists same_givers sources =
    let P : List (List ℕ) → Type 0 = λ l. AreLeastSources l marks given in
    let Q : List (Option ℕ) → Type 0 = λ g. AreLeastSources lists marks g in
    subst P same_lists (subst Q (sym same_givers) sources)

pub good_given : (nodes : Nodes) (marks : List Bool) (given givers : List (Option ℕ)) → given ≡ givers → AreGood nodes marks given → AreGood nodes marks givers
good_given nodes marks given givers same a = let P : List (Option ℕ) → Type 0 = λ g. AreGood nodes marks g in subst P same a

pub good_marks : (nodes : Nodes) (marks lent : List Bool) (givers : List (Option ℕ)) → lent ≡ marks → AreGood nodes marks givers → AreGood nodes lent givers
good_marks nodes marks lent givers same a = let P : List Bool → Type 0 = λ m. AreGood nodes m givers in subst P (sym same) a

-- ---- one round, by the givers that it found

-- where nothing falls, what is left is good
pub round_good : (nodes : Nodes) (old new : List Bool) (given givers : List (Option ℕ)) (fell : Bool) → fell ≡ false → AreMarksLeft nodes old → given ≡ givers → AreLeastSources nodes.supersedes old givers
    → AreSwept nodes given (length old) old new fell → AreGood nodes new givers
round_good nodes old new given givers fell none left same sources swept =
    good_given nodes new given givers same
    (good_found nodes (length old) old new given fell none refl left (read_sources nodes nodes.supersedes old given givers refl same sources) swept)

-- what is good keeps its mark
pub round_left : (nodes : Nodes) (old new : List Bool) (given givers : List (Option ℕ)) (fell : Bool) → AreMarksLeft nodes old → given ≡ givers → AreLeastSources nodes.supersedes old givers
    → AreSwept nodes given (length old) old new fell → AreMarksLeft nodes new
round_left nodes old new given givers fell left same sources swept =
    left_swept nodes (length old) old new given fell left (read_sources nodes nodes.supersedes old given givers refl same sources) swept
