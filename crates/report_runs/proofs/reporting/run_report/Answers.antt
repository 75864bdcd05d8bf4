use Rattle.std.proofs.Common.{map}
use Rattle.file_reports.specs.Lists.{inputs_of}
use Rattle.report_runs.proofs.ReportingFacts.{fault_named}
use Rattle.report_runs.proofs.reporting.run_report.Goals as goal

-- the input that has a fault stands in a file that has a name
pub tell_fault-requires : goal.tell_fault-requires
tell_fault-requires g c =
    let asked = c.args.asked.now in
    fault_named asked.files.now asked.question asked.zone (inputs_of asked.lists (map (λ body. body.items) c.args.publications.items)) c.in-Err.told
    (g.W.Write.contents c.args.writer.now) (g.W.Write.contents c.print_report.new.writer) c.requires c.in-Err.ensures.output
