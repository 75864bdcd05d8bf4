use Rattle.std.proofs.Common.{◌≡◌, ◌∙◌, List, Option, ℕ, length, subst, sym, ap}
use Rattle.lemmas.proofs.ResultFacts.{ok_so}
use Rattle.zone_plans.specs.Graphs.{AreSourced}
use Rattle.zone_plans.proofs.MarkFacts.{members_by}
use Rattle.zone_plans.proofs.steps.member_marks.Goals as goal

pub returns : goal.returns
returns c =
    let sources = c.in_ok-sources.sources.items in
    let len : length c.deref.result.now ≡ length c.args.starts.now = c.deref.ensures.len ∙ c.in_ok-sources.ensures.len in
    let same : length sources ≡ length c.args.starts.now = ap (λ (l : List (Option ℕ)). length l) (sym c.deref.ensures.value) ∙ len in
    ok_so c.sourced.result c.sourced.ensures (λ members are.
    let T : List (Option ℕ) → Type 0 = λ l. AreSourced l members.items in
    members_by c.args.needs.now c.args.starts.now sources members.items same c.in_ok-sources.ensures.sources (subst T c.deref.ensures.value are))
