use Rattle.std.proofs.Common.{◌∙◌, List, ℕ, sym, ap, subst}
use Rattle.std.specs.List.{Contains}
use Rattle.std.specs.List.{filter}
use Rattle.std.specs.Prelude.{not}
use Rattle.zone_plans.specs.Choices.{is_given, or_all}
use Rattle.zone_plans.proofs.tops.tops.Goals as goal

pub returns : goal.returns
returns c = λ content climb inside.
    let ids = c.args.ids.items in
    let M : List (List ℕ) → Type 0 = λ l. (id : List ℕ) → Contains l id → Contains c.args.climb.now.ids.items id in
    c.or_all.ensures
    ∙ ap (λ (kept : List (List ℕ)). or_all kept ids)
    (c.in_ok-top.ensures content climb (subst M (sym c.deref.ensures.value) inside)
    ∙ ap (λ (l : List (List ℕ)). filter (λ id. not (is_given content l id)) l) c.deref.ensures.value)
