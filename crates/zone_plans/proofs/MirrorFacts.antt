-- Another marked node that leads to a node, by the nodes in their order and in the order turned round.
use Rattle.std.proofs.Common.{◌≡◌, ◌∙◌, ℕ, ◌+◌, ◌<◌, ◌≤◌, List, [], ◌∷◌, ◌++◌, Bool, true, Option, Some, None, length, get_or, take, sym, ap, subst, inl, inr, arith}
use Rattle.std.specs.List.{Contains}
use Rattle.std.proofs.lemmas.List.{take_more}
use Rattle.std.proofs.lemmas.List.Elements.{Contains-append_left, Contains-push, Contains-push_cases}
use Rattle.lemmas.proofs.ListFacts.{none_inside}
use Rattle.requisites.specs.Leads.{Leads}
use Rattle.requisites.specs.Nodes.{IsMarked, Links, mark_of, row}
use Rattle.requisites.specs.Sources.{AreLeastSources, IsLeastSource, source_of}
use Rattle.requisites.proofs.LeadsFacts.{leads_closed, leads_itself, leads_more}
use Rattle.requisites.proofs.SourceFacts.{marked_inside}
use Rattle.verdicts.specs.Indices.{MarksAre, RowsAre}
use Rattle.zone_plans.specs.Climbs.{AreMirrored, IsMirrored, IsOther, MarksMirrored, mirror}

pub mirror_inside : (n p : ℕ) → p < n → mirror n p < n
mirror_inside n p inside = omega (arith, inside)

pub mirror_back : (n p : ℕ) → p < n → mirror n (mirror n p) ≡ p
mirror_back n p inside = omega (arith, inside)

one_mirrored : (n p q : ℕ) → p < n → q < n → mirror n p ≡ mirror n q → p ≡ q
one_mirrored n p q first second same = omega (arith, first, second, same)

-- ---- rows and marks

pub mirrored_none : (n : ℕ) → IsMirrored n [] []
mirrored_none n q inside = (λ had. absurd (none_inside (mirror n q) had), λ had. absurd (none_inside q had))

mirrored_push : (n : ℕ) (old new : List ℕ) (p : ℕ) → p < n → IsMirrored n old new → IsMirrored n (old ++ p ∷ []) (new ++ mirror n p ∷ [])
mirrored_push n old new p below are q inside = (
  λ had. elim (Contains-push_cases new (mirror n p) (mirror n q) had) [
    | inl before ↦ Contains-append_left old (p ∷ []) q ((are q inside).0 before)
    | inr same ↦ (let P : ℕ → Type 0 = λ k. Contains (old ++ p ∷ []) k in subst P (one_mirrored n p q below inside same) (Contains-push old p))
  ],
  λ had. elim (Contains-push_cases old p q had) [
    | inl before ↦ Contains-append_left new (mirror n p ∷ []) (mirror n q) ((are q inside).1 before)
    | inr same ↦ (let P : ℕ → Type 0 = λ k. Contains (new ++ mirror n p ∷ []) (mirror n k) in subst P same (Contains-push new (mirror n p)))
  ],
)

mirrored_skip : (n : ℕ) (old new : List ℕ) (p : ℕ) → n ≤ p → IsMirrored n old new → IsMirrored n (old ++ p ∷ []) new
mirrored_skip n old new p past are q inside = (
  λ had. Contains-append_left old (p ∷ []) q ((are q inside).0 had),
  λ had. elim (Contains-push_cases old p q had) [
    | inl before ↦ (are q inside).1 before
    | inr same ↦ absurd (omega (arith, past, inside, same))
  ],
)

taken : (xs : List ℕ) (i x : ℕ) → i < length xs → x ≡ get_or xs i x → take (i + 1) xs ≡ take i xs ++ x ∷ []
taken xs i x below at = take_more xs i x below ∙ ap (λ (z : ℕ). take i xs ++ z ∷ []) (sym at)

pub mirrored_more : (n : ℕ) (xs : List ℕ) (i x : ℕ) (old new : List ℕ) → i < length xs → x ≡ get_or xs i x → x < n → IsMirrored n (take i xs) old → new ≡ old ++ mirror n x ∷ [] → IsMirrored n (take (i + 1) xs) new
mirrored_more n xs i x old new below at inside are is =
    let P : List ℕ → Type 0 = λ l. IsMirrored n l new in
    let Q : List ℕ → Type 0 = λ l. IsMirrored n (take i xs ++ x ∷ []) l in
    subst P (sym (taken xs i x below at)) (subst Q (sym is) (mirrored_push n (take i xs) old x inside are))

pub mirrored_past : (n : ℕ) (xs : List ℕ) (i x : ℕ) (old : List ℕ) → i < length xs → x ≡ get_or xs i x → n ≤ x → IsMirrored n (take i xs) old → IsMirrored n (take (i + 1) xs) old
mirrored_past n xs i x old below at past are =
    let P : List ℕ → Type 0 = λ l. IsMirrored n l old in
    subst P (sym (taken xs i x below at)) (mirrored_skip n (take i xs) old x past are)

-- row by row
pub rows_mirrored : (n i : ℕ) (old new : List (List ℕ)) → n ≤ i → RowsAre (λ p r. IsMirrored n (row old (mirror n p)) r) i new → AreMirrored n old new
rows_mirrored n i old new whole are = record {
  each = λ p inside.
      let P : ℕ → Type 0 = λ k. IsMirrored n (row old k) (row new (mirror n p)) in
      subst P (mirror_back n p inside) (are.each (mirror n p) (omega (arith, inside, whole)));
}

pub marks_mirrored : (n i : ℕ) (old new : List Bool) → i ≡ n → MarksAre (λ p m. m ≡ mark_of old (mirror n p)) i new → MarksMirrored n old new
marks_mirrored n i old new whole are = record {
  len = are.len ∙ whole;
  each = λ p inside. are.each (mirror n p) (omega (arith, inside, whole)) ∙ ap (mark_of old) (mirror_back n p inside);
}

-- ---- what leads to a node

module _ (n : ℕ) (lists others : List (List ℕ)) (are : AreMirrored n lists others) where
  record Turned (m q : ℕ) : Type 0 where
    within : q < n
    leads : Leads (Links others n) (mirror n m) (mirror n q)

  pub leads_there : (m p : ℕ) → m < n → Leads (Links lists n) m p → Leads (Links others n) (mirror n m) (mirror n p)
  leads_there m p inside leads =
      (leads_closed (λ q. Turned m q)
      (λ u v here step. record {
        within = step.index;
        leads = leads_more here.leads (record { listed = (are.each u here.within v step.index).1 step.listed; index = mirror_inside n v step.index });
      })
      (record { within = inside; leads = leads_itself (Links others n) (mirror n m) }) leads).leads

pub turned_back : (n : ℕ) (lists others : List (List ℕ)) → AreMirrored n lists others → AreMirrored n others lists
turned_back n lists others are = record {
  each = λ p inside. λ q within.
      let at = mirror_inside n p inside in
      let other = mirror_inside n q within in
      let both = are.each (mirror n p) at (mirror n q) other in
      let R : ℕ → Type 0 = λ k. Contains (row others k) q in
      let S : ℕ → Type 0 = λ k. Contains (row others (mirror n (mirror n p))) k in (
        λ had. subst R (mirror_back n p inside) (subst S (mirror_back n q within) (both.1 had)),
        λ had. both.0 (subst S (sym (mirror_back n q within)) (subst R (sym (mirror_back n p inside)) had)),
      );
}

module _ (n : ℕ) (lists others : List (List ℕ)) (marks mirrored : List Bool) (least turned : List (Option ℕ))
    (as_many : length marks ≡ n) (first : AreLeastSources lists marks least) (last : AreLeastSources others mirrored turned)
    (rows : AreMirrored n lists others) (signs : MarksMirrored n marks mirrored) (p : ℕ) (inside : p < n) where
  marked_there : (m : ℕ) → IsMarked marks m → m < n
  marked_there m marked = omega (arith, marked_inside marks m marked, as_many)

  least_at : (s : ℕ) → source_of least p ≡ Some s → IsLeastSource lists marks n p s
  least_at s e = let P : ℕ → Type 0 = λ k. IsLeastSource lists marks k p s in subst P as_many (first.reached p s e)

  last_at : (t : ℕ) → source_of turned (mirror n p) ≡ Some t → IsLeastSource others mirrored n (mirror n p) t
  last_at t e = let P : ℕ → Type 0 = λ k. IsLeastSource others mirrored k (mirror n p) t in subst P signs.len (last.reached (mirror n p) t e)

  turned_mark : (m : ℕ) → m < n → IsMarked marks m → IsMarked mirrored (mirror n m)
  turned_mark m within marked = record { is = signs.each m within ∙ marked.is }

  -- no marked node leads to it
  pub other_none : source_of least p ≡ None → IsOther lists n marks p None
  other_none e = λ m marked leads. absurd (let P : ℕ → Type 0 = λ k. Leads (Links lists k) m p in first.unreached p m e marked (subst P (sym as_many) leads))

  pub other_first : (s : ℕ) → source_of least p ≡ Some s → (s ≡ p → ⊥) → IsOther lists n marks p (Some s)
  other_first s e ne = let l = least_at s e in record { is_other = ne; marked = l.marked; leads = l.leads }

  pub other_gone : source_of turned (mirror n p) ≡ None → IsOther lists n marks p None
  other_gone e = λ m marked leads. absurd (
      let within = marked_there m marked in
      let P : ℕ → Type 0 = λ k. Leads (Links others k) (mirror n m) (mirror n p) in
      last.unreached (mirror n p) (mirror n m) e (turned_mark m within marked) (subst P (sym signs.len) (leads_there n lists others rows m p within leads)))

  turned_inside : (t : ℕ) → IsMarked mirrored t → t < n
  turned_inside t marked = omega (arith, marked_inside mirrored t marked, signs.len)

  pub other_last : (t : ℕ) → source_of turned (mirror n p) ≡ Some t → (mirror n t ≡ p → ⊥) → IsOther lists n marks p (Some (mirror n t))
  other_last t e ne =
      let l = last_at t e in
      let within = turned_inside t l.marked in
      let P : ℕ → Type 0 = λ k. Leads (Links lists n) (mirror n t) k in
      let M : ℕ → Type 0 = λ k. mark_of mirrored k ≡ true in
      record {
        is_other = ne;
        marked = record { is = sym (signs.each (mirror n t) (mirror_inside n t within)) ∙ subst M (sym (mirror_back n t within)) l.marked.is };
        leads = subst P (mirror_back n p inside) (leads_there n others lists (turned_back n lists others rows) t (mirror n p) within l.leads);
      }

  -- the least and the greatest are the node itself
  pub other_alone : (s t : ℕ) → source_of least p ≡ Some s → s ≡ p → source_of turned (mirror n p) ≡ Some t → mirror n t ≡ p → IsOther lists n marks p None
  other_alone s t e same f back = λ m marked leads.
      let within = marked_there m marked in
      let low = (least_at s e).least m marked leads in
      let l = last_at t f in
      let high = l.least (mirror n m) (turned_mark m within marked) (leads_there n lists others rows m p within leads) in
      omega (arith, low, high, same, back, within, inside, turned_inside t l.marked)
