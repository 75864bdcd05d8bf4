use Rattle.std.proofs.Common.{◌<◌, List, length, subst, sym, ℕ}
use Rattle.std.specs.List.{Contains}
use Rattle.requisites.specs.declared.verdict.Verdict.{Verdict}
use Rattle.chains.specs.NodeVerdicts.{IsWithin}
use Rattle.chains.proofs.node_verdicts.by_ids.Goals as goal

pub ids_at-requires : goal.ids_at-requires
ids_at-requires c =
    let P : List ℕ → Type 0 = λ l. (q : ℕ) → Contains l q → q < length c.args.members.now in
    let Q : Verdict → Type 0 = λ v. IsWithin c.args.members.now v in
    subst P (sym c.deref.ensures.value) (subst Q c.in-Good.is c.requires)
