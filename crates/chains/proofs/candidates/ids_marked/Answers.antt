use Rattle.std.proofs.Common.{◌∙◌, List, ℕ, subst}
use Rattle.std.specs.List.{Contains}
use Rattle.lemmas.proofs.ListFacts.{kept_from}
use Rattle.requisites.specs.Nodes.{mark_of}
use Rattle.chains.proofs.candidates.ids_marked.Goals as goal

pub ids_at-requires : goal.ids_at-requires
ids_at-requires c = λ q inside.
    let P : List ℕ → Type 0 = λ l. Contains l q in
    c.requires q (kept_from (mark_of c.args.marks.now) c.args.indices.now q (subst P (c.deref.ensures.value ∙ c.in_ok-those.ensures) inside)).member
