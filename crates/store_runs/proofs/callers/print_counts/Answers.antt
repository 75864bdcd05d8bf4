use Rattle.std.proofs.Common.{◌≡◌, Err, IfErr, inr, refl, rules, subst, sym}
use Rattle.std.proofs.KnownBytes.{Keeps-refl}
use Rattle.run_parts.specs.ProgramFault.{of_program}
use Rattle.run_parts.specs.declared.fault.ProgramFault.TheVariants.{Memory}
use Rattle.store_runs.specs.Callers.{IsLineLost}
use Rattle.store_runs.proofs.CallersFacts.{line_lost}
use Rattle.store_runs.proofs.callers.print_counts.Goals as goal

pub returns-in_err-line-clause-fault : goal.returns-in_err-line-clause-fault
returns-in_err-line-clause-fault g c =
    let kept = g.W.Write.contents c.args.writer.now in
    let is : c.from_residual.result ≡ Err (of_program Memory) = search (rules, c.from_residual.ensures) in
    subst (λ result. IfErr result (λ fault. IsLineLost fault c.args.counts.now kept kept)) (sym is) (inr (refl, Keeps-refl kept))

pub returns-clause-ok : goal.returns-clause-ok
returns-clause-ok g c = search (rules, c.printed.ensures.ok)

pub returns-clause-fault : goal.returns-clause-fault
returns-clause-fault g c =
    line_lost c.printed.result c.args.counts.now _ _ c.printed.ensures.fault (search (rules, c.printed.ensures.err))
