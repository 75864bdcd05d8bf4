use Rattle.std.proofs.Common.{◌∙◌, List, ap, subst, sym, ℕ}
use Rattle.lemmas.proofs.ResultFacts.{ok_so}
use Rattle.verdicts.specs.Indices.{IsAt}
use Rattle.chains.specs.NodeVerdicts.{IsWithin, verdict_at}
use Rattle.chains.proofs.NodeVerdictFacts.{verdict_within}
use Rattle.chains.proofs.PlanFacts.{part_within, planned}
use Rattle.chains.specs.Frames.{ids_in}
use Rattle.chains.proofs.planning.plan.Goals as goal

pub by_ids-requires : goal.by_ids-requires
by_ids-requires c =
    let frame = c.args.frame.now in
    let nodes = c.in_ok-nodes.nodes in
    let P : List (List ℕ) → Type 0 = λ l. IsWithin l c.in_ok-verdict.verdict in
    subst P (sym c.ids-2.ensures.value)
    (verdict_within (ids_in frame.nodes) nodes c.in-Some.index c.in_ok-verdict.verdict
    (part_within c.args.zone.now frame.nodes nodes c.in_ok-nodes.ensures.candidates c.in_ok-nodes.ensures.needs) c.in_ok-verdict.ensures)

pub returns : goal.returns
returns c = record {
  verdict = ok_so c.by_ids.result c.by_ids.ensures (λ judged same content start is inside.
      let nodes = c.in_ok-nodes.nodes in
      let said = c.in_ok-nodes.ensures in
      let P : List (List ℕ) → Type 0 = λ l. IsAt l c.args.id.now c.in-Some.index in
      planned c.args.zone.now c.args.frame.now nodes c.ids.ensures.ascend said.candidates said.needs said.supersedes said.there
      c.args.id.now c.in-Some.index c.in_ok-verdict.verdict _ (subst P c.ids.ensures.value c.in-Some.ensures.some) c.in_ok-verdict.ensures
      (same ∙ ap (λ l. verdict_at l c.in_ok-verdict.verdict) c.ids-2.ensures.value) content start is);
}
