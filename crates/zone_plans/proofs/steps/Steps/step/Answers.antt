use Rattle.std.proofs.Common.{◌∙◌, ◌<◌, [], List, ℕ, get_or, length, map, sym, ap, subst, arith}
use Rattle.std.specs.List.{Contains}
use Rattle.std.proofs.lemmas.List.{length-map, get_or-map}
use Rattle.lemmas.proofs.ResultFacts.{ok_so}
use Rattle.verdicts.specs.Indices.{id_at}
use Rattle.zone_plans.proofs.steps.Steps.step.Goals as goal

pub ids_at-requires : goal.ids_at-requires
ids_at-requires c = λ p inside.
    let ids = c.self.inside.ids.items in
    let rows = c.self.inside.rows in
    let L : List (List (List ℕ)) → Type 0 = λ l. c.args.index < length l in
    let below : c.args.index < length (map (λ (s : List ℕ). map (id_at ids) s) rows) = subst L (sym c.self.view_is) c.requires in
    let len = length-map rows (λ (s : List ℕ). map (id_at ids) s) in
    let P : List ℕ → Type 0 = λ l. Contains l p in
    let Q : List (List ℕ) → Type 0 = λ l. p < length l in
    subst Q (sym c.deref.ensures.value) (c.self.invariant c.args.index p (omega (arith, below, len)) (subst P c.row.ensures inside))

pub returns : goal.returns
returns c =
    let ids = c.self.inside.ids.items in
    let rows = c.self.inside.rows in
    let L : List (List (List ℕ)) → Type 0 = λ l. c.args.index < length l in
    let below : c.args.index < length (map (λ (s : List ℕ). map (id_at ids) s) rows) = subst L (sym c.self.view_is) c.requires in
    let len = length-map rows (λ (s : List ℕ). map (id_at ids) s) in
    ok_so c.ids_at.result c.ids_at.ensures (λ found is.
    is
    ∙ ap (λ (l : List (List ℕ)). map (id_at l) c.row.result.now) c.deref.ensures.value
    ∙ ap (map (id_at ids)) c.row.ensures
    ∙ sym (get_or-map (λ (s : List ℕ). map (id_at ids) s) rows c.args.index [] [] (omega (arith, below, len)))
    ∙ ap (λ (l : List (List (List ℕ))). get_or l c.args.index []) c.self.view_is)
