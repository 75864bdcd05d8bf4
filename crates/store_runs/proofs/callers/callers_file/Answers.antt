use Rattle.std.proofs.Common.{refl, subst, sym}
use Rattle.sqlite_wal.specs.Files.{image_at}
use Rattle.run_parts.specs.Outputs.{outputs_of}
use Rattle.store_runs.specs.NamedStore.{HasRows}
use Rattle.store_runs.proofs.CallersFacts.{not_set_over, set_over_files}
use Rattle.store_runs.proofs.callers.callers_file.Goals as goal

pub returns-in-Ok-connect : goal.returns-in-Ok-connect
returns-in-Ok-connect g c =
    let files = g.F.Files.known_file c.args.files.now in
    let run = c.run_callers-status in
    set_over_files files (g.S.Stores.asked c.args.stores.now) (g.S.Stores.asked c.connect.new.self) (image_at g.D.Start) c.end.result c.args.store.now c.args.callers.now c.as_slice.result.now
    (subst (HasRows (files c.args.callers.now)) (sym c.as_slice.ensures.value) c.in-Ok.ensures.rows)
    (outputs_of g.O.Write.contents g.E.Write.contents c.args.output.now run.new.writer c.args.errors.now run.new.errors) run.result.0
    c.in-Ok-connect.conn run.result.1 c.in-Ok-connect.ensures.found c.end.ensures c.in-Ok-connect.ensures.asked run.ensures

pub returns : goal.returns
returns g c =
    let told = c.told-in-Err-connect in
    not_set_over (g.F.Files.known_file c.args.files.now) (g.S.Stores.asked c.args.stores.now) (g.S.Stores.asked c.connect.new.self) (image_at g.D.Start) c.in-Err-connect.ended
    c.args.store.now c.args.callers.now c.in-Ok.callers.items c.in-Ok.ensures.rows
    (outputs_of g.O.Write.contents g.E.Write.contents c.args.output.now c.args.output.now c.args.errors.now told.new.errors)
    told.result c.in-Err-connect.fault c.of_store.result c.in-Err-connect.ensures.refused c.of_store.ensures refl told.ensures.told told.ensures.status c.in-Err-connect.ensures.asked
