use Rattle.std.proofs.KnownBytes.{Keeps-refl}
use Rattle.sqlite_wal.specs.Files.{image_at}
use Rattle.run_parts.specs.Outputs.{outputs_of}
use Rattle.store_runs.proofs.MigratingFacts.{not_connected, over_files}
use Rattle.store_runs.proofs.migrating.migrate_file.Goals as goal

pub returns-in-Ok : goal.returns-in-Ok
returns-in-Ok g c =
    let run = c.run_migrate-status in
    over_files (g.S.Stores.asked c.args.stores.now) (g.S.Stores.asked c.connect.new.self) (image_at g.D.Start) c.args.store.now
    (outputs_of g.W.Write.contents g.E.Write.contents c.args.writer.now run.new.writer c.args.errors.now run.new.errors) run.result c.end.result
    c.in-Ok.conn run.new.conn c.in-Ok.ensures.found c.end.ensures run.ensures.rested run.ensures.stopped run.ensures.run c.in-Ok.ensures.asked

pub returns-in-Err : goal.returns-in-Err
returns-in-Err g c =
    let told = c.told in
    not_connected (g.S.Stores.asked c.args.stores.now) (g.S.Stores.asked c.connect.new.self) (image_at g.D.Start) c.args.store.now
    (outputs_of g.W.Write.contents g.E.Write.contents c.args.writer.now c.args.writer.now c.args.errors.now told.new.errors) told.result c.in-Err.ended
    c.in-Err.fault c.of_store.result c.in-Err.ensures.refused c.of_store.ensures (Keeps-refl (g.W.Write.contents c.args.writer.now))
    told.ensures.told told.ensures.status c.in-Err.ensures.asked
