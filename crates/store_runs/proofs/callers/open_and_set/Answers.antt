use Rattle.std.proofs.Common.{inr}
use Rattle.std.proofs.KnownBytes.{Keeps-refl}
use Rattle.run_parts.specs.Outputs.{fault_in}
use Rattle.store_runs.proofs.CallersFacts.{over_connection}
use Rattle.store_runs.proofs.callers.open_and_set.Goals as goal

pub returns-in-Ok : goal.returns-in-Ok
returns-in-Ok g c =
    over_connection g.S.Store c.args.callers.now c.args.conn c.into_connection.result c.in-Ok.store c.set_and_print-outcome.new.store c.in-Ok.ensures.opened c.into_connection.ensures
    (fault_in c.set_and_print-outcome.result) _ _ c.set_and_print-outcome.ensures

pub returns-in-Err : goal.returns-in-Err
returns-in-Err g c = inr ((c.in-Err.fault, c.of_store.ensures, inr (c.in-Err.ensures.rested, c.in-Err.ensures.reads, c.in-Err.ensures.cause)), Keeps-refl _)
