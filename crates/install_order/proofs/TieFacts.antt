-- What ties the nodes of a ring.
use Rattle.std.proofs.Common.{◌≡◌, ℕ, ◌+◌, List, [], ◌∷◌, ◌++◌, Bool, Option, length, sym, subst, inl, inr, arith}
use Rattle.std.specs.List.{Contains}
use Rattle.std.proofs.lemmas.Bool.{cases_eq, cases_lt}
use Rattle.std.proofs.lemmas.List.{get_or_append_left, get_or_past, get_or_push, length-append}
use Rattle.requisites.specs.Leads.{Leads}
use Rattle.requisites.specs.Nodes.{AreReversed, Links, row}
use Rattle.requisites.specs.Sources.{AreLeastSources}
use Rattle.requisites.proofs.LeadsFacts.{leads_closed, leads_itself, leads_more}
use Rattle.install_order.specs.Rings.{AreTied, AreWithin}
use Rattle.install_order.proofs.ReadFacts.{none_in}
use Rattle.install_order.proofs.RingFacts.{forth}

-- the rows have one row more
pub within_more : (needs within within' : List (List ℕ)) (i : ℕ) (own : List ℕ) → length within ≡ i → within' ≡ within ++ own ∷ [] → ((q : ℕ) → Contains own q → Contains (row needs i) q) → AreWithin needs within → (length within' ≡ i + 1) × AreWithin needs within'
within_more needs within within' i own len now here was =
    let P : List (List ℕ) → Type 0 = λ l. (length l ≡ i + 1) × AreWithin needs l in
    subst P (sym now) (more, each)
  where
    more : length (within ++ own ∷ []) ≡ i + 1
    more = omega (arith, length-append within (own ∷ []))

    each : AreWithin needs (within ++ own ∷ [])
    each p q listed = elim (cases_lt p i) [
      | inl before ↦ (let P : List ℕ → Type 0 = λ l. Contains l q in was p q (subst P (get_or_append_left within (own ∷ []) [] p (omega arith)) listed))
      | inr after ↦ elim (cases_eq p i) [
        | inl e ↦
            (let P : List ℕ → Type 0 = λ l. Contains l q in
            let Q : ℕ → Type 0 = λ k. Contains (row needs k) q in
            subst Q (sym e) (here q (subst P (get_or_push within own [] p (omega arith)) listed)))
        | inr ne ↦ (let P : List ℕ → Type 0 = λ l. Contains l q in none_in q (subst P (get_or_past (within ++ own ∷ []) p [] (omega (arith, more))) listed))
      ]
    ]

-- links of rows within others are links of these
wider : (needs within : List (List ℕ)) (n x y : ℕ) → AreWithin needs within → Leads (Links within n) x y → Leads (Links needs n) x y
wider needs within n x y inside leads =
    leads_closed (λ z. Leads (Links needs n) x z) (λ u v had link. leads_more had (record { listed = inside u v link.listed; index = link.index })) (leads_itself (Links needs n) x) leads

pub are_tied : (needs within back : List (List ℕ)) (firsts : List Bool) (n : ℕ) (from to : List (Option ℕ)) → length firsts ≡ n → AreWithin needs within → AreReversed within n back → AreLeastSources within firsts from → AreLeastSources back firsts to → AreTied needs n from to
are_tied needs within back firsts n from to len inside reversed down up =
    record {
      leads = λ p first is. (let G : ℕ → Type 0 = λ k. Leads (Links within k) first p in wider needs within n first p inside (subst G len (down.reached p first is).leads));
      back = λ p first is. (let G : ℕ → Type 0 = λ k. Leads (Links back k) first p in wider needs within n p first inside (forth within back n p first reversed (subst G len (up.reached p first is).leads)));
    }
