-- Which members another one outdoes, by index and by id.
use Rattle.std.proofs.Common.{◌≡◌, ◌&&◌, ◌||◌, ℕ, ◌<◌, List, [], Bool, true, false, length, refl, sym, subst, inl, inr, arith}
use Rattle.std.specs.Prelude.{not}
use Rattle.std.specs.List.{Contains, list_any}
use Rattle.std.specs.Ordering.{is_lt}
use Rattle.std.specs.declared.cmp.Ordering.{Ordering}
use Rattle.std.specs.declared.cmp.Ordering.TheVariants.{Equal, Greater, Less}
use Rattle.std.proofs.lemmas.Bool.{cases_eq, not-true, and_from, false_from_ne_true, not_from_false}
use Rattle.lemmas.proofs.ListFacts.{any_at, any_from, first_true, second_true}
use Rattle.lemmas.proofs.TestFacts.{same_test}
use Rattle.holddata.proofs.CategoryFacts.{less_by}
use Rattle.catalogue.specs.Content.{Content}
use Rattle.catalogue.specs.Ids.{Ascend, id_cmp, same_id}
use Rattle.catalogue.proofs.IdFacts.{itself, one_id}
use Rattle.supersede.specs.Giving.{gives}
use Rattle.supersede.specs.Leading.{Gives}
use Rattle.supersede.proofs.LeadingFacts.{gives_is}
use Rattle.requisites.specs.Nodes.{row}
use Rattle.install_order.specs.Left.{is_outdone}
use Rattle.install_order.proofs.LeftFacts.{Outdoes, outdone_so, so_outdone}
use Rattle.verdicts.specs.Indices.{id_at}
use Rattle.verdicts.proofs.IndexFacts.{at_inside, below_at, inside_at, one_index, order_down}
use Rattle.verdicts.proofs.OrderFacts.{not_below_itself}
use Rattle.zone_plans.specs.Members.{is_less, outdoes}

less_lt : (o : Ordering) → o ≡ Less → is_lt o ≡ true
less_lt Less e = refl
less_lt Equal e = absurd (cc e)
less_lt Greater e = absurd (cc e)

less_not : (o : Ordering) → o ≡ Less → o ≡ Greater → ⊥
less_not Less e f = cc f
less_not Equal e f = cc e
less_not Greater e f = cc e

or_by : (b c : Bool) → (c ≡ true → b ≡ true) → (b || not c) ≡ true
or_by true c then = refl
or_by false true then = absurd (let on : false ≡ true = then refl in cc)
or_by false false then = refl

by_or : (b c : Bool) → (b || not c) ≡ true → c ≡ true → b ≡ true
by_or true c h on = refl
by_or false true h on = absurd (cc)
by_or false false h on = absurd (cc)

module _ (content : Content) (ids above : List (List ℕ)) (ascend : Ascend ids)
    (given_at : (p q : ℕ) → Contains (row above p) q → Gives content (id_at ids q) (id_at ids p))
    (at_given : (p q : ℕ) → p < length ids → q < length ids → Gives content (id_at ids q) (id_at ids p) → Contains (row above p) q)
    (within : (p q : ℕ) → Contains (row above p) q → q < length ids) where
  less_at : (p q : ℕ) → p < q → q < length ids → is_less (id_at ids p) (id_at ids q) ≡ true
  less_at p q less inside = less_lt (id_cmp (id_at ids p) (id_at ids q)) (below_at ids p q [] ascend less inside)

  at_less : (p q : ℕ) → p < length ids → q < length ids → is_less (id_at ids p) (id_at ids q) ≡ true → p < q
  at_less p q inside other h =
      let less = less_by (id_cmp (id_at ids p) (id_at ids q)) h in
      let at_most = order_down ids p q [] ascend inside (less_not (id_cmp (id_at ids p) (id_at ids q)) less) in
      elim (cases_eq p q) [
        | inl same ↦ (let P : ℕ → Type 0 = λ k. id_cmp (id_at ids p) (id_at ids k) ≡ Less in absurd (not_below_itself (id_at ids p) (subst P (sym same) less)))
        | inr ne ↦ omega arith
      ]

  outdone_id : (p q : ℕ) → p < length ids → Outdoes above p q → outdoes content (id_at ids p) (id_at ids q) ≡ true
  outdone_id p q inside o =
      let other = within p q o.gives in
      and_from (not (same_id (id_at ids q) (id_at ids p))) (gives content (id_at ids q) (id_at ids p) && (is_less (id_at ids p) (id_at ids q) || not (gives content (id_at ids p) (id_at ids q))))
      (not_from_false (same_id (id_at ids q) (id_at ids p)) (false_from_ne_true (same_id (id_at ids q) (id_at ids p)) (λ on. o.is_other (one_index ids q p [] ascend other inside (one_id (id_at ids q) (id_at ids p) on)))))
      (and_from (gives content (id_at ids q) (id_at ids p)) (is_less (id_at ids p) (id_at ids q) || not (gives content (id_at ids p) (id_at ids q)))
      ((gives_is content (id_at ids q) (id_at ids p)).1 (given_at p q o.gives))
      (or_by (is_less (id_at ids p) (id_at ids q)) (gives content (id_at ids p) (id_at ids q))
      (λ back. less_at p q (o.greater (at_given q p other inside ((gives_is content (id_at ids p) (id_at ids q)).0 back))) other)))

  id_outdone : (p q : ℕ) → p < length ids → q < length ids → outdoes content (id_at ids p) (id_at ids q) ≡ true → Outdoes above p q
  id_outdone p q inside other h =
      let apart = first_true (not (same_id (id_at ids q) (id_at ids p))) (gives content (id_at ids q) (id_at ids p) && (is_less (id_at ids p) (id_at ids q) || not (gives content (id_at ids p) (id_at ids q)))) h in
      let rest = second_true (not (same_id (id_at ids q) (id_at ids p))) (gives content (id_at ids q) (id_at ids p) && (is_less (id_at ids p) (id_at ids q) || not (gives content (id_at ids p) (id_at ids q)))) h in
      let gave = first_true (gives content (id_at ids q) (id_at ids p)) (is_less (id_at ids p) (id_at ids q) || not (gives content (id_at ids p) (id_at ids q))) rest in
      let order = second_true (gives content (id_at ids q) (id_at ids p)) (is_less (id_at ids p) (id_at ids q) || not (gives content (id_at ids p) (id_at ids q))) rest in
      record {
        gives = at_given p q inside other ((gives_is content (id_at ids q) (id_at ids p)).0 gave);
        is_other = λ same.
            let off = not-true (same_id (id_at ids q) (id_at ids p)) apart in
            let P : ℕ → Type 0 = λ k. same_id (id_at ids q) (id_at ids k) ≡ true in
            let on : same_id (id_at ids q) (id_at ids p) ≡ true = subst P same (itself (id_at ids q)) in
            cc;
        greater = λ back.
            at_less p q inside other
            (by_or (is_less (id_at ids p) (id_at ids q)) (gives content (id_at ids p) (id_at ids q)) order
            ((gives_is content (id_at ids p) (id_at ids q)).1 (given_at q p back)));
      }

  pub outdone_is : (p : ℕ) → p < length ids → is_outdone above p ≡ list_any (outdoes content (id_at ids p)) ids
  outdone_is p inside =
      same_test (is_outdone above p) (list_any (outdoes content (id_at ids p)) ids)
      (λ on.
      let by = outdone_so above p on in
      any_at (outdoes content (id_at ids p)) ids (id_at ids by.0) (at_inside ids by.0 (within p by.0 by.1.gives)) (outdone_id p by.0 inside by.1))
      (λ on.
      let found = any_from (outdoes content (id_at ids p)) ids on in
      let at = inside_at ids found.element found.member in
      let P : List ℕ → Type 0 = λ x. outdoes content (id_at ids p) x ≡ true in
      so_outdone above p at.index (id_outdone p at.index inside at.within (subst P (sym at.is) found.passes)))
