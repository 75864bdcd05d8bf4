-- Walks by rows of indices, each with its number.
use Rattle.std.proofs.Common.{◌≡◌, ◌∙◌, ℕ, ◌+◌, ◌<◌, ◌≤◌, List, [], ◌∷◌, ◌++◌, length, take, set, get_or, refl, sym, ap, subst, inl, inr, append_assoc, arith}
use Rattle.std.specs.Prelude.{◌↔◌}
use Rattle.std.specs.List.{Contains}
use Rattle.std.proofs.lemmas.Bool.{cases_eq}
use Rattle.std.proofs.lemmas.List.{append-nil, get_or-set_other, get_or-set_same, length-set, take_all, take_more}
use Rattle.std.proofs.lemmas.List.Elements.{Contains-append_cases, Contains-append_left, Contains-push}
use Rattle.lemmas.proofs.ListFacts.{first_inside, none_inside}
use Rattle.requisites.specs.Leads.{Leads}
use Rattle.requisites.specs.Nodes.{Links, row}
use Rattle.requisites.proofs.LeadsFacts.{leads_closed, leads_itself, leads_more}
use Rattle.requisites.proofs.OrderFacts.{Takes, drawn_both, takes}
use Rattle.requisites.proofs.SpreadFacts.{in_one}
use Rattle.chains.specs.Climbs.{AreTaken, IsWalking}

-- ---- what a row gives

pub taken_none : (turn : ℕ) (seen order : List ℕ) → AreTaken turn [] seen seen order order
taken_none turn seen order = record {
  more = [];
  goes_on = sym (append-nil order);
  drawn = λ q inside. absurd (none_inside q inside);
  indexed = λ q inside. absurd (none_inside q inside);
  marked = λ were. were;
  whole = λ q inside within. absurd (none_inside q inside);
  stays = λ q is. is;
  bound = λ was. was;
  len = refl;
}

-- an index to which the walk comes now
pub taken_now : (turn index : ℕ) (seen order order' : List ℕ) → index < length seen → order' ≡ order ++ index ∷ [] → AreTaken turn (index ∷ []) seen (set seen index turn) order order'
taken_now turn index seen order order' within now = record {
  more = index ∷ [];
  goes_on = now;
  drawn = λ q inside. inside;
  indexed = λ q inside. (let P : ℕ → Type 0 = λ k. k < length seen in subst P (in_one index q inside) within);
  marked = λ were q is. (let P : List ℕ → Type 0 = λ l. Contains l q in subst P (sym now) (elim (cases_eq q index) [
    | inl same ↦ (let Q : ℕ → Type 0 = λ k. Contains (order ++ index ∷ []) k in subst Q (sym same) (Contains-push order index))
    | inr other ↦ Contains-append_left order (index ∷ []) q (were q (sym (get_or-set_other seen index q turn 0 other) ∙ is))
  ]));
  whole = λ q inside below. (let P : ℕ → Type 0 = λ k. get_or (set seen index turn) k 0 ≡ turn in subst P (in_one index q inside) (get_or-set_same seen index turn 0 within));
  stays = λ q is. elim (cases_eq q index) [
    | inl same ↦ (let P : ℕ → Type 0 = λ k. get_or (set seen index turn) k 0 ≡ turn in subst P (sym same) (get_or-set_same seen index turn 0 within))
    | inr other ↦ get_or-set_other seen index q turn 0 other ∙ is
  ];
  bound = λ was q. elim (cases_eq q index) [
    | inl same ↦ (let P : ℕ → Type 0 = λ k. get_or (set seen index turn) k 0 ≤ turn in subst P (sym same) (omega (arith, get_or-set_same seen index turn 0 within)))
    | inr other ↦ omega (arith, get_or-set_other seen index q turn 0 other, was q)
  ];
  len = length-set seen index turn;
}

-- an index to which it has come, or that is no index
pub taken_before : (turn index : ℕ) (seen order : List ℕ) → (index < length seen → get_or seen index 0 ≡ turn) → AreTaken turn (index ∷ []) seen seen order order
taken_before turn index seen order here = record {
  more = [];
  goes_on = sym (append-nil order);
  drawn = λ q inside. absurd (none_inside q inside);
  indexed = λ q inside. absurd (none_inside q inside);
  marked = λ were. were;
  whole = λ q inside within. (let P : ℕ → Type 0 = λ k. k < length seen → get_or seen k 0 ≡ turn in subst P (in_one index q inside) here within);
  stays = λ q is. is;
  bound = λ was. was;
  len = refl;
}

pub taken_more : (turn : ℕ) (listed : List ℕ) (i index : ℕ) (a b c x y z : List ℕ) → i < length listed → index ≡ get_or listed i index → AreTaken turn (take i listed) a b x y → AreTaken turn (index ∷ []) b c y z
    → AreTaken turn (take (i + 1) listed) a c x z
taken_more turn listed i index a b c x y z below at first second =
    let front : take (i + 1) listed ≡ take i listed ++ index ∷ [] = take_more listed i index below ∙ ap (λ k. take i listed ++ k ∷ []) (sym at) in
    let T : List ℕ → Type 0 = λ l. AreTaken turn l a c x z in
    subst T (sym front) (record {
      more = first.more ++ second.more;
      goes_on = second.goes_on ∙ ap (λ l. l ++ second.more) first.goes_on ∙ append_assoc x first.more second.more;
      drawn = drawn_both first.more second.more (take i listed) (index ∷ []) first.drawn second.drawn;
      indexed = λ q inside. elim (Contains-append_cases first.more second.more q inside) [
        | inl before ↦ first.indexed q before
        | inr now ↦ (let within = second.indexed q now in omega (arith, within, first.len))
      ];
      marked = λ were. second.marked (first.marked were);
      whole = λ q inside within. elim (Contains-append_cases (take i listed) (index ∷ []) q inside) [
        | inl before ↦ second.stays q (first.whole q before within)
        | inr now ↦ second.whole q now (omega (arith, within, first.len))
      ];
      stays = λ q is. second.stays q (first.stays q is);
      bound = λ was. second.bound (first.bound was);
      len = second.len ∙ first.len;
    })

pub taken_all : (turn : ℕ) (listed : List ℕ) (i : ℕ) (a b x y : List ℕ) → length listed ≤ i → AreTaken turn (take i listed) a b x y → AreTaken turn listed a b x y
taken_all turn listed i a b x y end taken = let T : List ℕ → Type 0 = λ l. AreTaken turn l a b x y in subst T (take_all i listed end) taken

-- ---- the walk

module _ (rows : List (List ℕ)) (n start turn : ℕ) where
  pub walk_begins : (seen seen' order : List ℕ) → length seen ≡ n → start < n → ((q : ℕ) → get_or seen q 0 < turn) → AreTaken turn (start ∷ []) seen seen' [] order → IsWalking rows n start turn seen' order 0
  walk_begins seen seen' order len within fresh taken = record {
    begun = marked start (taken.whole start (first_inside start []) (omega (arith, within, len)));
    marked = marked;
    closed = λ p q inside link. absurd (none_inside p inside);
    reached = λ q inside.
        (let P : List ℕ → Type 0 = λ l. Contains l q in
        let Q : ℕ → Type 0 = λ k. Leads (Links rows n) start k in
        subst Q (in_one start q (taken.drawn q (subst P taken.goes_on inside))) (leads_itself (Links rows n) start));
    bound = taken.bound (λ q. let less = fresh q in omega (arith, less));
    within = omega arith;
    len = taken.len ∙ len;
  } where
    marked : (q : ℕ) → get_or seen' q 0 ≡ turn → Contains order q
    marked = taken.marked (λ q is. let less = fresh q in absurd (omega (arith, less, is)))

  pub walk_goes_on : (seen seen' order order' own : List ℕ) (at next : ℕ) → at < length order → next ≡ get_or order at next → own ≡ row rows next → AreTaken turn own seen seen' order order'
      → IsWalking rows n start turn seen order at → IsWalking rows n start turn seen' order' (at + 1)
  walk_goes_on seen seen' order order' own at next below is own_is taken was = record {
    begun = on.kept start was.begun;
    marked = taken.marked was.marked;
    closed = λ p q inside link. elim (on.taken p inside) [
      | inl before ↦ on.kept q (was.closed p q before link)
      | inr same ↦
          let R : ℕ → Type 0 = λ k. Contains (row rows k) q in
          let L : List ℕ → Type 0 = λ l. Contains l q in
          let listed : Contains own q = subst L (sym own_is) (subst R (sym same) link.listed) in
          let index = link.index in
          taken.marked was.marked q (taken.whole q listed (omega (arith, index, was.len)))
    ];
    reached = λ q inside. (
        let L : List ℕ → Type 0 = λ l. Contains l q in
        elim (Contains-append_cases order taken.more q (subst L taken.goes_on inside)) [
          | inl before ↦ was.reached q before
          | inr now ↦
              let index = taken.indexed q now in
              leads_more (was.reached next on.here) (record { listed = subst L own_is (taken.drawn q now); index = omega (arith, index, was.len) })
        ]);
    bound = taken.bound was.bound;
    within = on.within;
    len = taken.len ∙ was.len;
  } where
    on : Takes order order' at next
    on = takes order order' taken.more taken.goes_on at next below is

  pub walk_ends : (seen order : List ℕ) (at : ℕ) → length order ≤ at → IsWalking rows n start turn seen order at → (q : ℕ) → Contains order q ↔ Leads (Links rows n) start q
  walk_ends seen order at whole was q = (
    was.reached q,
    λ leads.
        let all = take_all at order whole in
        let P : ℕ → List ℕ → Type 0 = λ p l. Contains l p in
        leads_closed (λ p. Contains order p) (λ p r here link. let Q : List ℕ → Type 0 = λ l. Contains l p in was.closed p r (subst Q (sym all) here) link) was.begun leads,
  )
