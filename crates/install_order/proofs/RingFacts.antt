-- Nodes that need one another.
use Rattle.std.proofs.Common.{◌≡◌, ℕ, ◌+◌, ◌<◌, ◌≤◌, List, [], ◌∷◌, ◌++◌, Bool, Option, Some, None, length, refl, sym, subst, inl, inr, arith}
use Rattle.std.specs.Prelude.{IfNone, IfSome}
use Rattle.std.specs.List.{Contains}
use Rattle.std.proofs.lemmas.Bool.{cases_lt}
use Rattle.std.proofs.lemmas.List.Elements.{Contains-append_left, Contains-push, Contains-push_cases}
use Rattle.requisites.specs.Leads.{IsPath, Leads}
use Rattle.requisites.specs.Nodes.{AreReversed, IsMarked, Links}
use Rattle.requisites.specs.Sources.{AreLeastSources, HasSource, IsLeastSource, source_of}
use Rattle.requisites.proofs.LeadsFacts.{leads_itself, leads_more, leads_closed}
use Rattle.requisites.proofs.SourceFacts.{marked_inside}
use Rattle.install_order.specs.Rings.{AreReached, IsAnyLeft, IsGreatestRoot, IsOnly, IsReached, IsRing, IsRoot}

-- ---- lists that lead on, and back

path_joined : {A : Type 0} (Step : A → A → Type 0) (x y z : A) (list : List A) → Leads Step x y → IsPath Step y list z → Leads Step x z
path_joined {A} Step x y z [] leads same = let P : A → Type 0 = λ w. Leads Step x w in subst P same leads
path_joined Step x y z (w ∷ ws) leads path = path_joined Step x w z ws (leads_more leads path.0) path.1

pub leads_joined : {A : Type 0} {Step : A → A → Type 0} {x y z : A} → Leads Step x y → Leads Step y z → Leads Step x z
leads_joined {A} {Step} {x} {y} {z} first second = path_joined Step x y z second.list first second.path

pub leads_step : {A : Type 0} {Step : A → A → Type 0} {x y : A} → Step x y → Leads Step x y
leads_step {A} {Step} {x} {y} step = leads_more (leads_itself Step x) step

-- from y links of rows that were turned lead back to x
record LeadsBack (turned : List (List ℕ)) (n x y : ℕ) : Type 0 where
  pub inside : y < n
  pub back : Leads (Links turned n) y x

back : (needs turned : List (List ℕ)) (n x y : ℕ) → AreReversed needs n turned → x < n → Leads (Links needs n) x y → LeadsBack turned n x y
back needs turned n x y reversed inside leads =
    leads_closed (λ z. LeadsBack turned n x z)
    (λ u v had link. record {
      inside = link.index;
      back = leads_joined (leads_step (record { listed = reversed.turned u v link; index = had.inside })) had.back;
    })
    (record { inside = inside; back = leads_itself (Links turned n) x }) leads

-- where they lead from y to x, links lead from x to y
pub forth : (needs turned : List (List ℕ)) (n x y : ℕ) → AreReversed needs n turned → Leads (Links turned n) y x → Leads (Links needs n) x y
forth needs turned n x y reversed leads =
    leads_closed (λ z. Leads (Links needs n) z y)
    (λ u v had link. leads_joined (leads_step (reversed.only v u link.listed)) had)
    (leads_itself (Links needs n) y) leads

-- ---- roots

pub record IsGreatestSoFar (left : List Bool) (sources : List (Option ℕ)) (i p : ℕ) : Type 0 where
  pub root : IsRoot left sources p
  pub greatest : (q : ℕ) → q < i → IsRoot left sources q → q ≤ p

abbrev pub IsGreatestBelow : List Bool → List (Option ℕ) → ℕ → Option ℕ → Type 0
IsGreatestBelow left sources i None = (q : ℕ) → q < i → IsRoot left sources q → ⊥
IsGreatestBelow left sources i (Some p) = IsGreatestSoFar left sources i p

pub greatest_takes : (left : List Bool) (sources : List (Option ℕ)) (i : ℕ) (found : Option ℕ) → found ≡ Some i → IsRoot left sources i → IsGreatestBelow left sources (i + 1) found
greatest_takes left sources i found e root =
    let P : Option ℕ → Type 0 = λ o. IsGreatestBelow left sources (i + 1) o in
    let here : IsGreatestBelow left sources (i + 1) (Some i) = record { root = root; greatest = λ q below is. omega arith } in
    subst P (sym e) here

same_root : (left : List Bool) (sources : List (Option ℕ)) (q i : ℕ) → q ≡ i → IsRoot left sources q → IsRoot left sources i
same_root left sources q i same is = let P : ℕ → Type 0 = λ k. IsRoot left sources k in subst P same is

passes_on : (left : List Bool) (sources : List (Option ℕ)) (i : ℕ) (found : Option ℕ) → (IsRoot left sources i → ⊥) → IsGreatestBelow left sources i found → IsGreatestBelow left sources (i + 1) found
passes_on left sources i None none a = λ q below is. elim (cases_lt q i) [
  | inl before ↦ a q before is
  | inr after ↦ none (same_root left sources q i (omega arith) is)
]
passes_on left sources i (Some p) none a = record {
  root = a.root;
  greatest = λ q below is. elim (cases_lt q i) [
    | inl before ↦ a.greatest q before is
    | inr after ↦ absurd (none (same_root left sources q i (omega arith) is))
  ];
}

pub greatest_passes : (left : List Bool) (sources : List (Option ℕ)) (i : ℕ) (was found : Option ℕ) → found ≡ was → (IsRoot left sources i → ⊥) → IsGreatestBelow left sources i was → IsGreatestBelow left sources (i + 1) found
greatest_passes left sources i was found same none a =
    let P : Option ℕ → Type 0 = λ o. IsGreatestBelow left sources (i + 1) o in
    subst P (sym same) (passes_on left sources i was none a)

pub greatest_some : (left : List Bool) (sources : List (Option ℕ)) (i : ℕ) (found : Option ℕ) → i ≡ length left → IsGreatestBelow left sources i found → IfSome found (λ p. IsGreatestRoot left sources p)
greatest_some left sources i None end a = tt
greatest_some left sources i (Some p) end a = record { root = a.root; greatest = λ q is. a.greatest q (omega (arith, marked_inside left q is.marked, end)) is }

pub greatest_none : (left : List Bool) (sources : List (Option ℕ)) (i : ℕ) (found : Option ℕ) → i ≡ length left → IsGreatestBelow left sources i found → IfNone found ((q : ℕ) → IsRoot left sources q → ⊥)
greatest_none left sources i None end a = λ q is. a q (omega (arith, marked_inside left q is.marked, end)) is
greatest_none left sources i (Some p) end a = tt

-- ---- the nodes that are reached

module _ (left : List Bool) (sources : List (Option ℕ)) (i : ℕ) where
  pub reached_more : (nodes nodes' : List ℕ) → nodes' ≡ nodes ++ i ∷ [] → IsReached left sources i → AreReached left sources i nodes → AreReached left sources (i + 1) nodes'
  reached_more nodes nodes' now is was =
      let T : List ℕ → Type 0 = λ l. AreReached left sources (i + 1) l in
      subst T (sym now) (record {
        reached = λ p inside. elim (Contains-push_cases nodes i p inside) [
          | inl before ↦ was.reached p before
          | inr same ↦ (let P : ℕ → Type 0 = λ k. IsReached left sources k in subst P same is)
        ];
        whole = λ p h on. elim (cases_lt p i) [
          | inl before ↦ Contains-append_left nodes (i ∷ []) p (was.whole p before on)
          | inr after ↦ (let same : i ≡ p = omega arith in let P : ℕ → Type 0 = λ k. Contains (nodes ++ i ∷ []) k in subst P same (Contains-push nodes i))
        ];
      })

  pub reached_skip : (nodes nodes' : List ℕ) → nodes' ≡ nodes → (IsReached left sources i → ⊥) → AreReached left sources i nodes → AreReached left sources (i + 1) nodes'
  reached_skip nodes nodes' same off was =
      let T : List ℕ → Type 0 = λ l. AreReached left sources (i + 1) l in
      subst T (sym same) (record {
        reached = was.reached;
        whole = λ p h on. elim (cases_lt p i) [
          | inl before ↦ was.whole p before on
          | inr after ↦ absurd (let here : p ≡ i = omega arith in let P : ℕ → Type 0 = λ k. IsReached left sources k in off (subst P here on))
        ];
      })

-- ---- what a root leads to

module _ (needs turned : List (List ℕ)) (left : List Bool) (sources : List (Option ℕ)) (reversed : AreReversed needs (length left) turned) (are : AreLeastSources turned left sources) where
  -- the root to which a node leads
  pub record RootBelow (p : ℕ) : Type 0 where
    pub root : ℕ
    pub is : IsRoot left sources root
    pub source : IsLeastSource turned left (length left) p root

  sourced : (p : ℕ) → IsMarked left p → (o : Option ℕ) → source_of sources p ≡ o → HasSource sources p
  sourced p marked None e = absurd (are.unreached p p e marked (leads_itself (Links turned (length left)) p))
  sourced p marked (Some s) e = record { source = s; is = e }

  pub root_below : (p : ℕ) → IsMarked left p → RootBelow p
  root_below p marked =
      let had = sourced p marked (source_of sources p) refl in
      let s = had.source in
      let least = are.reached p s had.is in
      let own = sourced s least.marked (source_of sources s) refl in
      let up = are.reached s own.source own.is in
      let low : own.source ≤ s = up.least s least.marked (leads_itself (Links turned (length left)) s) in
      let high : s ≤ own.source = least.least own.source up.marked (leads_joined up.leads least.leads) in
      let same : own.source ≡ s = omega arith in
      let P : ℕ → Type 0 = λ k. source_of sources s ≡ Some k in
      record { root = s; is = record { marked = least.marked; own = subst P same own.is }; source = least }

  -- what the greatest root leads to and is left leads back to it
  pub leads_back : (root p : ℕ) → IsGreatestRoot left sources root → IsMarked left p → Leads (Links needs (length left)) root p → Leads (Links needs (length left)) p root
  leads_back root p greatest marked leads =
      let below = root_below p marked in
      let s = below.root in
      let to_s : Leads (Links needs (length left)) p s = forth needs turned (length left) p s reversed below.source.leads in
      let high : s ≤ root = greatest.greatest s below.is in
      let own = are.reached root root greatest.root.own in
      let from_root = back needs turned (length left) root s reversed (marked_inside left root greatest.root.marked) (leads_joined leads to_s) in
      let low : root ≤ s = own.least s below.source.marked from_root.back in
      let same : s ≡ root = omega arith in
      let P : ℕ → Type 0 = λ k. Leads (Links needs (length left)) p k in
      subst P same to_s

  -- the nodes that are left and that only the greatest root leads to are a ring
  module _ (root : ℕ) (only : List Bool) (reached : List (Option ℕ)) (ring : List ℕ) (greatest : IsGreatestRoot left sources root) (one : IsOnly (length left) root only) (from : AreLeastSources needs only reached) (found : AreReached left reached (length left) ring) where
    in_left : (x y : ℕ) → Leads (Links needs (length only)) x y → Leads (Links needs (length left)) x y
    in_left x y leads = let P : ℕ → Type 0 = λ k. Leads (Links needs k) x y in subst P one.len leads

    in_only : (x y : ℕ) → Leads (Links needs (length left)) x y → Leads (Links needs (length only)) x y
    in_only x y leads = let P : ℕ → Type 0 = λ k. Leads (Links needs k) x y in subst P (sym one.len) leads

    from_root : (p : ℕ) → Contains ring p → Leads (Links needs (length left)) root p
    from_root p member =
        let had = (found.reached p member).sourced in
        let least = from.reached p had.source had.is in
        let same : had.source ≡ root = one.only had.source least.marked in
        let P : ℕ → Type 0 = λ k. Leads (Links needs (length left)) k p in
        subst P same (in_left had.source p least.leads)

    has_source : (p : ℕ) → Leads (Links needs (length left)) root p → (o : Option ℕ) → source_of reached p ≡ o → HasSource reached p
    has_source p leads None e = absurd (from.unreached p root e (one.marked (marked_inside left root greatest.root.marked)) (in_only root p leads))
    has_source p leads (Some s) e = record { source = s; is = e }

    member_of : (p : ℕ) → IsMarked left p → Leads (Links needs (length left)) root p → Contains ring p
    member_of p marked leads = found.whole p (marked_inside left p marked) (record { marked = marked; sourced = has_source p leads (source_of reached p) refl })

    pub is_ring : IsRing needs left ring
    is_ring = record {
      first = root;
      begun = member_of root greatest.root.marked (leads_itself (Links needs (length left)) root);
      marked = λ p member. (found.reached p member).marked;
      closed = λ p q member link marked. member_of q marked (leads_more (from_root p member) link);
      together = λ p q first second. leads_joined (leads_back root p greatest (found.reached p first).marked (from_root p first)) (from_root q second);
    }

  pub some_root : IsAnyLeft left → ((q : ℕ) → IsRoot left sources q → ⊥) → ⊥
  some_root any none = let below = root_below any.node any.marked in none below.root below.is
