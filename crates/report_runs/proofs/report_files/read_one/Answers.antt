use Rattle.std.proofs.Common.{rules, ◌≡◌, ◌≢◌, codes}
use Rattle.report_runs.proofs.ReportFilesFacts.{file_read, input_read}
use Rattle.report_runs.proofs.report_files.read_one.Goals as goal

pub returns-then-is_standard_input-clause-read : goal.returns-then-is_standard_input-clause-read
returns-then-is_standard_input-clause-read g c =
    let minus : c.args.name.now ≡ codes "-" = search rules in
    input_read (g.S.Files.known_file c.args.surroundings.now) c.args.name.now c.read_input.result _ _ minus c.read_input.ensures.ok c.read_input.ensures.taken

pub returns-in-Ok-clause-read : goal.returns-in-Ok-clause-read
returns-in-Ok-clause-read g c =
    let other : c.args.name.now ≢ codes "-" = search rules in
    file_read (g.S.Files.known_file c.args.surroundings.now) c.args.name.now c.read_input-in-Ok.result _ (g.I.Read.remaining c.args.input.now) other c.in-Ok.ensures.file c.read_input-in-Ok.ensures.ok
