use Rattle.std.proofs.Common.{◌∙◌, List, ap, refl, subst, sym, ℕ}
use Rattle.std.specs.List.{Contains}
use Rattle.lemmas.proofs.ResultFacts.{ok_so}
use Rattle.verdicts.specs.Indices.{IsAt}
use Rattle.chains.specs.NodeVerdicts.{IsWithin, verdict_at}
use Rattle.chains.specs.Surveys.{IsSurvey, SurveyLists}
use Rattle.chains.proofs.NodeVerdictFacts.{verdict_here, verdict_outside, verdict_within}
use Rattle.chains.proofs.surveying.Survey.verdict.Goals as goal

pub returns-in_default : goal.returns-in_default
returns-in_default c = λ content rows is.
    let members = c.self.inside.cut.members.items in
    let S : SurveyLists → Type 0 = λ survey. IsSurvey content rows survey in
    let P : List (List ℕ) → Type 0 = λ l. Contains l c.args.id.now → ⊥ in
    let here = subst S (sym c.self.view_is) is in
    verdict_outside content rows members c.args.id.now _ here.whole (subst P c.deref.ensures.value c.in_default.ensures.none) refl

pub by_ids-requires : goal.by_ids-requires
by_ids-requires c =
    let cut = c.self.inside.cut in
    let P : List (List ℕ) → Type 0 = λ l. IsWithin l c.in_ok-verdict.verdict in
    subst P (sym c.deref-2.ensures.value) (verdict_within cut.members.items cut.nodes c.in-Some.index c.in_ok-verdict.verdict c.self.invariant.within c.in_ok-verdict.ensures)

pub returns : goal.returns
returns c = ok_so c.by_ids.result c.by_ids.ensures (λ judged same content rows is.
    let cut = c.self.inside.cut in
    let S : SurveyLists → Type 0 = λ survey. IsSurvey content rows survey in
    let P : List (List ℕ) → Type 0 = λ l. IsAt l c.args.id.now c.in-Some.index in
    let here = subst S (sym c.self.view_is) is in
    verdict_here content rows cut.members.items cut.nodes c.self.invariant.ascend here.cut
    c.args.id.now c.in-Some.index c.in_ok-verdict.verdict _
    (subst P c.deref.ensures.value c.in-Some.ensures.some)
    (verdict_within cut.members.items cut.nodes c.in-Some.index c.in_ok-verdict.verdict c.self.invariant.within c.in_ok-verdict.ensures)
    c.in_ok-verdict.ensures (same ∙ ap (λ l. verdict_at l c.in_ok-verdict.verdict) c.deref-2.ensures.value))
