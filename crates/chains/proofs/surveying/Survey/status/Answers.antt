use Rattle.std.proofs.Common.{◌∙◌, List, ap, subst, sym, ℕ}
use Rattle.std.specs.List.{Contains}
use Rattle.requisites.specs.Nodes.{mark_of}
use Rattle.verdicts.specs.Indices.{IsAt}
use Rattle.chains.specs.Surveys.{IsSurvey, SurveyLists, status_by}
use Rattle.chains.proofs.NodeVerdictFacts.{lack_outside, status_here}
use Rattle.chains.proofs.surveying.Survey.status.Goals as goal

pub returns-in_default : goal.returns-in_default
returns-in_default c = λ content rows is.
    let S : SurveyLists → Type 0 = λ survey. IsSurvey content rows survey in
    let P : List (List ℕ) → Type 0 = λ l. Contains l c.args.id.now → ⊥ in
    lack_outside content rows c.self.inside.cut.members.items c.args.id.now (subst S (sym c.self.view_is) is).whole (subst P c.deref.ensures.value c.in_default.ensures.none)

pub returns : goal.returns
returns c = λ content rows is.
    let cut = c.self.inside.cut in
    let found = c.self.inside.resolution in
    let index = c.in-Some.index in
    let S : SurveyLists → Type 0 = λ survey. IsSurvey content rows survey in
    let P : List (List ℕ) → Type 0 = λ l. IsAt l c.args.id.now index in
    c.status_by.ensures
    ∙ ap (λ good. status_by good c.is_marked-candidate.result) (c.is_marked-good.ensures ∙ ap (λ l. mark_of l index) c.deref-2.ensures.value)
    ∙ ap (status_by (mark_of found.good.items index)) (c.is_marked-candidate.ensures ∙ ap (λ l. mark_of l index) c.deref-3.ensures.value)
    ∙ status_here content rows cut.members.items cut.nodes found.good.items found.givers.items c.args.id.now index (subst S (sym c.self.view_is) is).cut c.self.invariant.resolved
    (subst P c.deref.ensures.value c.in-Some.ensures.some)
