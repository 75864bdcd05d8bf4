use Rattle.std.proofs.Common.{◌∙◌, ◌≡◌, ◌<◌, Bool, List, ap, length, subst, sym, ℕ}
use Rattle.std.specs.List.{filter}
use Rattle.lemmas.proofs.ResultFacts.{ok_so}
use Rattle.requisites.specs.Nodes.{mark_of}
use Rattle.verdicts.specs.Indices.{id_at}
use Rattle.chains.specs.Frames.{ids_in}
use Rattle.verdicts.specs.Verdicts.{is_good}
use Rattle.chains.proofs.PlanFacts.{marks_good}
use Rattle.chains.proofs.planning.good.Goals as goal

pub returns : goal.returns
returns c = record {
  good = ok_so c.marked_ids.result c.marked_ids.ensures (λ ids those content start is.
      let frame = c.args.frame.now in
      let said = c.in_ok-nodes.ensures in
      let marks = c.in_ok-resolution.resolution.good.items in
      let f = is_good content c.args.zone.now in
      let P : List (List ℕ) → Type 0 = λ l. (p : ℕ) → p < length l → mark_of c.deref.result.now p ≡ f (id_at l p) in
      let Q : List Bool → Type 0 = λ l. (p : ℕ) → p < length (ids_in frame.nodes) → mark_of l p ≡ f (id_at (ids_in frame.nodes) p) in
      let are = marks_good c.args.zone.now frame c.in_ok-nodes.nodes c.ids.ensures.ascend said.candidates said.needs said.supersedes said.there
      marks c.in_ok-resolution.resolution.givers.items c.in_ok-resolution.ensures.good content start is in
      those f (subst P (sym c.ids.ensures.value) (subst Q (sym c.deref.ensures.value) are)) ∙ ap (filter f) c.ids.ensures.value);
}
