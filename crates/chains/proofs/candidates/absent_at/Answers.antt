use Rattle.std.proofs.Common.{◌≡◌, ◌∙◌, ℕ, true, subst, sym}
use Rattle.requisites.specs.Nodes.{mark_of}
use Rattle.verdicts.proofs.IndexFacts.{index_is}
use Rattle.chains.proofs.candidates.absent_at.Goals as goal

pub returns-then-is_marked-clause-none : goal.returns-then-is_marked-clause-none
returns-then-is_marked-clause-none c = λ p at.
    let P : ℕ → Type 0 = λ q. mark_of c.args.there.now q ≡ true in
    subst P (index_is c.args.ids.now c.args.id.now c.in_ok-index.index p c.requires c.in_ok-index.ensures.some at) (sym c.is_marked.ensures ∙ c.if-is_marked.true)
