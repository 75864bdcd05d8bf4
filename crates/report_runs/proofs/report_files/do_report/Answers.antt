use Rattle.std.proofs.KnownBytes.{Keeps-refl}
use Rattle.run_parts.specs.Outputs.{Outputs, outputs_of}
use Rattle.report_runs.specs.Contents.{inputs_in}
use Rattle.report_runs.specs.declared.report_files.Unread.TheVariants as why
use Rattle.report_runs.proofs.ReportFilesFacts.{are_named, stopped}
use Rattle.report_runs.proofs.report_files.do_report.Goals as goal

-- each input that was read stands in a file that has a name
pub print-requires : goal.print-requires
print-requires g c =
    are_named (g.S.Files.known_file c.args.surroundings.now) c.args.files.now (inputs_in c.in-Ok.contents)
    (g.I.Read.remaining c.args.input.now) (g.I.Read.remaining c.read_files.new.input) c.in-Ok.ensures.inputs

-- memory ran out for the zone's name
pub returns-in-Err : goal.returns-in-Err
returns-in-Err g c =
    let outputs : Outputs = outputs_of g.O.Write.contents g.E.Write.contents c.args.output.now c.args.output.now c.args.errors.now c.tell_unread.new.errors in
    stopped (g.S.Files.known_file c.args.surroundings.now) c.args.question c.args.files.now (g.I.Read.remaining c.args.input.now) (g.I.Read.remaining c.args.input.now)
    outputs c.tell_unread.result why.Memory tt (Keeps-refl outputs.output) c.tell_unread.ensures.told c.tell_unread.ensures.status

-- a file can't be read
pub returns-in-Err-read_files : goal.returns-in-Err-read_files
returns-in-Err-read_files g c =
    let outputs : Outputs =
    outputs_of g.O.Write.contents g.E.Write.contents c.args.output.now c.args.output.now c.args.errors.now c.tell_unread-in-Err-read_files.new.errors in
    stopped (g.S.Files.known_file c.args.surroundings.now) c.args.question c.args.files.now (g.I.Read.remaining c.args.input.now) (g.I.Read.remaining c.read_files.new.input)
    outputs c.tell_unread-in-Err-read_files.result c.in-Err-read_files.unread c.in-Err-read_files.ensures.fault (Keeps-refl outputs.output)
    c.tell_unread-in-Err-read_files.ensures.told c.tell_unread-in-Err-read_files.ensures.status
