use Rattle.std.proofs.Common.{◌∙◌, List, Bool, ℕ, ap, length, subst, sym}
use Rattle.std.specs.Prelude.{not}
use Rattle.std.proofs.lemmas.List.FromFn.{length-map-range_with_len}
use Rattle.std.specs.Global.{Vec}
use Rattle.std.proofs.lemmas.List.{length-map}
use Rattle.lemmas.proofs.ResultFacts.{ok_both, ok_so}
use Rattle.mcs_reader.specs.declared.id.Id.{Id}
use Rattle.verdicts.specs.Indices.{AreIndicesOf, RowsAre}
use Rattle.verdicts.specs.Candidates.{candidates_unless_there}
use Rattle.install_order.specs.Left.{is_outdone}
use Rattle.install_order.specs.Steps.{AreInOrder, AreSteps, IsClosed}
use Rattle.zone_plans.specs.Graphs.{AreGiven, AreReachedFrom, AreStartsOf, list_at, lists_of}
use Rattle.zone_plans.proofs.MarkFacts.{reached_closed, within_by}
use Rattle.zone_plans.proofs.StepFacts.{are_zone_steps}
use Rattle.zone_plans.proofs.steps.step_rows.Goals as goal

pub steps-requires : goal.steps-requires
steps-requires c =
    let needs = c.in_ok-needs.needs in
    let members = c.in_ok-members.members.items in
    let S : List Bool → Type 0 = λ l. AreReachedFrom needs l members in
    let P : List Bool → Type 0 = λ l. IsClosed needs l in
    subst P (sym c.deref-4.ensures.value)
    (reached_closed needs c.in_ok-starts.starts.items members (subst S c.deref-3.ensures.value c.in_ok-members.ensures))

pub start_marks-requires-clause-len : goal.start_marks-requires-clause-len
start_marks-requires-clause-len c =
    ap length (c.deref-2.ensures.value ∙ c.in_ok-left.ensures.marks)
    ∙ length-map-range_with_len (λ p. not (is_outdone c.in_ok-above.above p)) 0 (length c.args.ids.now)

pub returns-clause-within : goal.returns-clause-within
returns-clause-within c =
    let ids = c.args.ids.now in
    let members = c.in_ok-members.members.items in
    let starts = c.in_ok-starts.starts.items in
    let S : List Bool → Type 0 = λ l. AreReachedFrom c.in_ok-needs.needs l members in
    let T : List (List ℕ) → List Bool → Type 0 = λ steps l. AreInOrder c.in_ok-needs.needs l steps in
    let O : List Bool → Type 0 = λ l. AreStartsOf ids c.in_ok-above.above l c.args.chosen.now starts in
    ok_so c.steps.result c.steps.ensures.order (λ steps stepped.
    within_by ids c.in_ok-needs.needs starts members steps ((subst S c.deref-3.ensures.value c.in_ok-members.ensures).len ∙ (subst O c.deref-2.ensures.value c.in_ok-starts.ensures).len)
    (let U : List Bool → Type 0 = λ l. T steps l in subst U c.deref-4.ensures.value stepped))

pub returns-clause-steps : goal.returns-clause-steps
returns-clause-steps c =
    let ids = c.args.ids.now in
    let readings = c.args.readings.now in
    let needs = c.in_ok-needs.needs in
    let left = c.in_ok-left.left.items in
    let starts = c.in_ok-starts.starts.items in
    let members = c.in_ok-members.members.items in
    ok_so c.steps.result (ok_both _ _ c.steps.result c.steps.ensures.order c.steps.ensures.steps) (λ steps told. λ content rows are known read asked answers good.
    let G : List Bool → Type 0 = λ l. AreGiven (candidates_unless_there content rows) ids l readings needs in
    let O : List Bool → Type 0 = λ l. AreStartsOf ids c.in_ok-above.above l c.args.chosen.now starts in
    let S : List Bool → Type 0 = λ l. AreReachedFrom needs l members in
    let T : List Bool → Type 0 = λ l. AreInOrder needs l steps in
    let V : List Bool → Type 0 = λ l. AreSteps needs l steps in
    let lists = lists_of c.args.givers.now in
    let R : ℕ → Type 0 = λ n. RowsAre (λ p indices. AreIndicesOf ids (list_at lists p) indices) n c.in_ok-above.above in
    let indexed = subst R (sym (length-map c.args.givers.now (λ (l : Vec Id). l.items))) c.in_ok-above.ensures in
    are_zone_steps content rows c.args.chosen.now ids readings lists c.in_ok-above.above left needs starts members steps
    c.requires.ascend are good read known indexed c.in_ok-left.ensures.left
    (subst G c.deref.ensures.value (c.in_ok-needs.ensures (candidates_unless_there content rows) answers asked))
    (subst O c.deref-2.ensures.value c.in_ok-starts.ensures)
    (subst S c.deref-3.ensures.value c.in_ok-members.ensures)
    (subst T c.deref-4.ensures.value told.0) c.in_ok-left.ensures.marks (subst V c.deref-4.ensures.value told.1))
