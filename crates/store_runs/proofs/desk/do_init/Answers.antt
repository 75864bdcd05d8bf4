use Rattle.std.proofs.Common.{inr, refl, subst, sym}
use Rattle.std.proofs.KnownBytes.{Keeps-refl}
use Rattle.sqlite_wal.specs.Files.{image_at}
use Rattle.run_parts.specs.Outputs.{outputs_of}
use Rattle.run_parts.specs.Files.{IsContent}
use Rattle.store_runs.proofs.DeskFacts.{made_over_files, not_connected, not_read}
use Rattle.store_runs.proofs.desk.do_init.Goals as goal

pub returns-in-Err : goal.returns-in-Err
returns-in-Err g c =
    let outputs = outputs_of g.O.Write.contents g.E.Write.contents c.args.output.now c.args.output.now c.args.errors.now c.refuse.new.errors in
    inr (inr (not_read c.in-Err.fault outputs c.refuse.result c.in-Err.ensures.fault (Keeps-refl (g.O.Write.contents c.args.output.now)) c.refuse.ensures.told c.refuse.ensures.status, tt, refl))

pub returns-in-Ok-connect : goal.returns-in-Ok-connect
returns-in-Ok-connect g c =
    let files = g.F.Files.known_file c.args.files.now in
    let run = c.run_init-status in
    made_over_files files (g.S.Stores.asked c.args.stores.now) (g.S.Stores.asked c.connect.new.self) (image_at g.D.Start) c.end.result c.args.store.now c.args.callers.now c.as_slice-source.result.now
    c.fault_of-fault.result (record { content = subst (IsContent (files c.args.callers.now)) (sym c.as_slice-source.ensures.value) c.in-Ok.ensures.bytes; fault_is = c.fault_of-fault.ensures }) c.args.sums c.if_missing.result c.if_missing.ensures
    (outputs_of g.O.Write.contents g.E.Write.contents c.args.output.now run.new.writer c.args.errors.now run.new.errors) run.result c.in-Ok-connect.conn run.new.conn
    c.in-Ok-connect.ensures.asked c.in-Ok-connect.ensures.found c.end.ensures run.ensures.rested run.ensures.stopped run.ensures.run

pub returns : goal.returns
returns g c =
    let files = g.F.Files.known_file c.args.files.now in
    let told = c.told in
    not_connected files (g.S.Stores.asked c.args.stores.now) (g.S.Stores.asked c.connect.new.self) (image_at g.D.Start) c.in-Err-connect.ended
    c.args.store.now c.args.callers.now c.as_slice-source.result.now
    c.fault_of-fault.result (record { content = subst (IsContent (files c.args.callers.now)) (sym c.as_slice-source.ensures.value) c.in-Ok.ensures.bytes; fault_is = c.fault_of-fault.ensures }) c.args.sums c.if_missing.result c.if_missing.ensures
    (outputs_of g.O.Write.contents g.E.Write.contents c.args.output.now c.args.output.now c.args.errors.now told.new.errors) told.result c.in-Err-connect.refused c.of_unopened.result
    c.in-Err-connect.ensures.asked c.in-Err-connect.ensures.refused c.of_unopened.ensures (Keeps-refl (g.O.Write.contents c.args.output.now)) told.ensures.told told.ensures.status
