-- The members of some steps, one step after the other.
use Rattle.std.proofs.Common.{◌≡◌, ◌∙◌, ◌+◌, ◌<◌, ℕ, List, [], ◌∷◌, ◌++◌, length, get_or, take, map, sym, ap, arith, add-zero, append_assoc}
use Rattle.std.proofs.lemmas.List.{append-nil, length-take, take_more}
use Rattle.plan_reports.specs.Members.{MemberLists, members_from}

members_more : (at : ℕ → List ℕ → MemberLists) (n : ℕ) (steps : List (List (List ℕ))) (step : List (List ℕ)) → members_from at n (steps ++ step ∷ []) ≡ members_from at n steps ++ map (at (n + length steps)) step
members_more at n [] step = append-nil (map (at n) step) ∙ ap (λ k. map (at k) step) (sym (add-zero n))
members_more at n (first ∷ steps) step =
    let later : members_from at (n + 1) (steps ++ step ∷ []) ≡ members_from at (n + 1) steps ++ map (at (n + 1 + length steps)) step = members_more at (n + 1) steps step in
    let number : n + 1 + length steps ≡ n + length (first ∷ steps) = omega arith in
    ap (λ l. map (at n) first ++ l) later
    ∙ sym (append_assoc (map (at n) first) (members_from at (n + 1) steps) (map (at (n + 1 + length steps)) step))
    ∙ ap (λ k. (map (at n) first ++ members_from at (n + 1) steps) ++ map (at k) step) number

-- after one more step
pub steps_more : (at : ℕ → List ℕ → MemberLists) (steps : List (List (List ℕ))) (i : ℕ) (step : List (List ℕ)) (old new : List MemberLists) → i < length steps → step ≡ get_or steps i []
    → old ≡ members_from at 1 (take i steps) → new ≡ old ++ map (at (i + 1)) step → new ≡ members_from at 1 (take (i + 1) steps)
steps_more at steps i step old new below is was now =
    let number : i + 1 ≡ 1 + length (take i steps) = omega (arith, length-take i steps) in
    now
    ∙ ap (λ l. l ++ map (at (i + 1)) step) was
    ∙ ap (λ k. members_from at 1 (take i steps) ++ map (at k) step) number
    ∙ sym (members_more at 1 (take i steps) step)
    ∙ ap (λ z. members_from at 1 (take i steps ++ z ∷ [])) is
    ∙ ap (members_from at 1) (sym (take_more steps i [] below))
