use Rattle.std.proofs.Common.{◌∙◌, ◌<◌, List, ap, length, map, subst, sym, ℕ}
use Rattle.std.specs.List.{Contains}
use Rattle.lemmas.proofs.ResultFacts.{ok_so}
use Rattle.catalogue.specs.Ids.{Ascend}
use Rattle.verdicts.specs.Indices.{id_at, AreIndicesOf}
use Rattle.chains.specs.Surveys.{IsSurvey, SurveyLists}
use Rattle.chains.proofs.UnitedFacts.{plans_ascend, plans_within, united_here}
use Rattle.chains.proofs.surveying.Survey.united.Goals as goal

pub ids_at-requires : goal.ids_at-requires
ids_at-requires c =
    let cut = c.self.inside.cut in
    let plans = c.in_ok-plans.plans.items in
    let P : List ℕ → Type 0 = λ l. (q : ℕ) → Contains l q → q < length c.deref-3.result.now in
    let M : List (List ℕ) → Type 0 = λ l. (q : ℕ) → Contains plans q → q < length l in
    let within = plans_within cut.members.items cut.nodes c.deref-2.result.now plans c.self.invariant.within c.in_ok-plans.ensures.chosen in
    subst P (sym c.deref-4.ensures.value) (subst M (sym c.deref-3.ensures.value) within)

pub returns-clause-united : goal.returns-clause-united
returns-clause-united c = ok_so c.ids_at.result c.ids_at.ensures (λ found same content rows is.
    let cut = c.self.inside.cut in
    let members = cut.members.items in
    let ids = c.args.ids.now in
    let starts = c.deref-2.result.now in
    let plans = c.in_ok-plans.plans.items in
    let S : SurveyLists → Type 0 = λ survey. IsSurvey content rows survey in
    let I : List (List ℕ) → Type 0 = λ l. AreIndicesOf l ids c.put_indices.new.indices.items in
    let J : List ℕ → Type 0 = λ l. AreIndicesOf members ids l in
    let here = subst S (sym c.self.view_is) is in
    let indices = subst J (sym c.deref-2.ensures.value) (subst I c.deref.ensures.value c.in_ok-put_indices.ensures) in
    let within = plans_within members cut.nodes starts plans c.self.invariant.within c.in_ok-plans.ensures.chosen in
    same ∙ ap (λ l. map (id_at l) c.deref-4.result.now) c.deref-3.ensures.value ∙ ap (map (id_at members)) c.deref-4.ensures.value
    ∙ united_here content rows members cut.nodes c.self.invariant.ascend here.cut here.whole ids starts plans indices c.in_ok-plans.ensures.chosen
    (plans_ascend members plans c.self.invariant.ascend c.in_ok-plans.ensures.ascends within))

pub returns-clause-ascend : goal.returns-clause-ascend
returns-clause-ascend c = ok_so c.ids_at.result c.ids_at.ensures (λ found same.
    let cut = c.self.inside.cut in
    let members = cut.members.items in
    let plans = c.in_ok-plans.plans.items in
    let A : List (List ℕ) → Type 0 = λ l. Ascend l in
    let within = plans_within members cut.nodes c.deref-2.result.now plans c.self.invariant.within c.in_ok-plans.ensures.chosen in
    subst A (sym (same ∙ ap (λ l. map (id_at l) c.deref-4.result.now) c.deref-3.ensures.value ∙ ap (map (id_at members)) c.deref-4.ensures.value))
    (plans_ascend members plans c.self.invariant.ascend c.in_ok-plans.ensures.ascends within))
