use Rattle.std.proofs.Common.{inl, inr}
use Rattle.std.proofs.KnownBytes.{Keeps-refl}
use Rattle.store_runs.specs.Callers.{store_set}
use Rattle.store_runs.proofs.CallersFacts.{line_told}
use Rattle.store_runs.proofs.callers.set_and_print.Goals as goal

pub returns-in-Ok : goal.returns-in-Ok
returns-in-Ok g c =
    line_told c.print_counts.result (store_set g.S.Store c.args.callers.now c.args.store.now c.set_callers.new.self) c.in-Ok.counts _ _ c.in-Ok.ensures c.print_counts.ensures.ok c.print_counts.ensures.fault

pub returns-in-Err : goal.returns-in-Err
returns-in-Err g c = inr ((c.in-Err.fault, c.of_store.ensures, inl c.in-Err.ensures), Keeps-refl _)
