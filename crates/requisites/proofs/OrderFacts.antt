-- A list of nodes that grows at its end, where a walk takes one node after the other from it.
use Rattle.std.proofs.Common.{◌≡◌, ◌∙◌, ◌⊎◌, ℕ, ◌+◌, ◌<◌, ◌≤◌, List, [], ◌∷◌, ◌++◌, length, get_or, take, inl, inr, sym, ap, subst, arith}
use Rattle.std.specs.List.{Contains}
use Rattle.std.proofs.lemmas.List.{length-append, take-append-le, take_more}
use Rattle.std.proofs.lemmas.List.Elements.{Contains-append_cases, Contains-append_left, Contains-append_right, Contains-push_cases}

-- what each of two lists draws from another, both draw from both
pub drawn_both : (first second one other : List ℕ) → ((q : ℕ) → Contains first q → Contains one q) → ((q : ℕ) → Contains second q → Contains other q)
    → (q : ℕ) → Contains (first ++ second) q → Contains (one ++ other) q
drawn_both first second one other by_first by_second q inside = elim (Contains-append_cases first second q inside) [
  | inl before ↦ Contains-append_left one other q (by_first q before)
  | inr now ↦ Contains-append_right one other q (by_second q now)
]

-- A list from which a node is taken next, and what it grows to.
pub record Takes (order order' : List ℕ) (at next : ℕ) : Type 0 where
  pub kept : (q : ℕ) → Contains order q → Contains order' q
  pub here : Contains order next
  pub taken : (q : ℕ) → Contains (take (at + 1) order') q → Contains (take at order) q ⊎ (next ≡ q)
  pub within : at + 1 ≤ length order'

module _ (order order' more : List ℕ) (goes_on : order' ≡ order ++ more) where
  -- what it has it keeps
  order_keeps : (q : ℕ) → Contains order q → Contains order' q
  order_keeps q inside = let L : List ℕ → Type 0 = λ l. Contains l q in subst L (sym goes_on) (Contains-append_left order more q inside)

  order_grows : length order ≤ length order'
  order_grows = omega (arith, ap length goes_on ∙ length-append order more)

  -- what was taken, with the node that is taken next
  order_front : (at next : ℕ) → at < length order → next ≡ get_or order at next → take (at + 1) order' ≡ take at order ++ next ∷ []
  order_front at next below is =
      ap (take (at + 1)) goes_on ∙ take-append-le (at + 1) order more (omega (arith, below)) ∙ take_more order at next below
      ∙ ap (λ k. take at order ++ k ∷ []) (sym is)

  pub takes : (at next : ℕ) → at < length order → next ≡ get_or order at next → Takes order order' at next
  takes at next below is = record {
    kept = order_keeps;
    here = (at, below, sym is);
    taken = λ q inside. (let L : List ℕ → Type 0 = λ l. Contains l q in Contains-push_cases (take at order) next q (subst L (order_front at next below is) inside));
    within = omega (arith, below, order_grows);
  }
