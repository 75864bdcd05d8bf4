use Rattle.std.proofs.Common.{◌∙◌, ℕ, List, Option, sym, subst}
use Rattle.requisites.specs.Nodes.{row}
use Rattle.requisites.specs.Good.{AreMet, IsLeastOpen}
use Rattle.requisites.proofs.PickFacts.{unmarked}
use Rattle.requisites.proofs.VerdictFacts.{held_for, met_is_good}
use Rattle.requisites.proofs.verdict.verdict_of_node.Goals as goal

pub unreachable-requires : goal.unreachable-requires
unreachable-requires c =
    let nodes = c.args.nodes.now in
    let good = c.args.resolution.now.good.items in
    let givers = c.args.resolution.now.givers.items in
    let x = c.args.node in
    let P : List (Option ℕ) → Type 0 = λ g. AreMet nodes g (row nodes.needs x) in
    let is_good = met_is_good nodes good givers x c.requires (sym c.is_candidate.ensures ∙ c.if-not-is_candidate.false) (subst P c.deref.ensures.value c.in-None.ensures.none) in
    unmarked good x (sym c.is_good.ensures ∙ c.if-is_good.false) (c.requires.unmarked x is_good)

pub returns : goal.returns
returns c =
    let nodes = c.args.nodes.now in
    let good = c.args.resolution.now.good.items in
    let givers = c.args.resolution.now.givers.items in
    let x = c.args.node in
    let P : List (Option ℕ) → Type 0 = λ g. IsLeastOpen nodes g (row nodes.needs x) c.in-Some.need in
    held_for nodes good givers x c.in-Some.need c.requires (sym c.is_good.ensures ∙ c.if-is_good.false) (sym c.is_candidate.ensures ∙ c.if-not-is_candidate.false) (subst P c.deref.ensures.value c.in-Some.ensures.some)
