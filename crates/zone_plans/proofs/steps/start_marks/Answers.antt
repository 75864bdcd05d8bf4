use Rattle.std.proofs.Common.{List, Option, Bool, ℕ, subst}
use Rattle.lemmas.proofs.ResultFacts.{ok_so}
use Rattle.requisites.specs.Sources.{AreLeastSources}
use Rattle.zone_plans.specs.Graphs.{AreStarts}
use Rattle.zone_plans.proofs.MarkFacts.{starts_by}
use Rattle.zone_plans.proofs.steps.start_marks.Goals as goal

pub returns : goal.returns
returns c =
    let sources = c.in_ok-sources.sources.items in
    let marks = c.in_ok-marks.marks.items in
    let S : List Bool → Type 0 = λ l. AreLeastSources c.args.above.now l sources in
    ok_so c.left_and_sourced.result c.left_and_sourced.ensures (λ starts are.
    let T : List (Option ℕ) → Type 0 = λ l. AreStarts c.args.left.now l starts.items in
    starts_by c.args.ids.now c.args.above.now c.args.left.now c.args.chosen.now marks sources starts.items c.requires.len c.in_ok-marks.ensures
    (subst S c.deref.ensures.value c.in_ok-sources.ensures.sources) (subst T c.deref-2.ensures.value are))
