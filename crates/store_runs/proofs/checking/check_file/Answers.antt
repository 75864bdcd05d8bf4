use Rattle.std.proofs.Common.{refl}
use Rattle.std.proofs.KnownBytes.{Keeps-refl}
use Rattle.sqlite_wal.specs.Files.{image_at}
use Rattle.run_parts.specs.Outputs.{outputs_of}
use Rattle.store_runs.specs.Checking.{in_no_table}
use Rattle.store_runs.specs.Desk.{of_store}
use Rattle.store_runs.proofs.CheckFacts.{looked_through, not_connected}
use Rattle.store_runs.proofs.checking.check_file.Goals as goal

pub returns-in-Ok : goal.returns-in-Ok
returns-in-Ok g c =
    let run = c.run_check-status in
    looked_through c.args.explain (g.S.Stores.asked c.args.stores.now) (g.S.Stores.asked c.connect.new.self) (image_at g.D.Start) c.end.result c.args.store.now
    (outputs_of g.W.Write.contents g.E.Write.contents c.args.writer.now run.new.writer c.args.errors.now run.new.errors) run.result c.in-Ok.conn run.new.conn
    c.in-Ok.ensures.found c.end.ensures run.ensures.rested run.ensures.reads run.ensures.run c.in-Ok.ensures.asked

pub returns-in-Err : goal.returns-in-Err
returns-in-Err g c =
    let told = c.told_unopened in
    not_connected c.args.explain (g.S.Stores.asked c.args.stores.now) (g.S.Stores.asked c.connect.new.self) (image_at g.D.Start) c.in-Err.ended c.args.store.now
    (outputs_of g.W.Write.contents g.E.Write.contents c.args.writer.now c.args.writer.now c.args.errors.now told.new.errors) told.result
    c.in-Err.fault (in_no_table (of_store c.in-Err.fault)) refl c.in-Err.ensures.refused (Keeps-refl (g.W.Write.contents c.args.writer.now))
    told.ensures.told told.ensures.status c.in-Err.ensures.asked
