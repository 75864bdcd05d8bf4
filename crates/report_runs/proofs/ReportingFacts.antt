-- The input that has a fault stands in a file that has a name.
use Rattle.std.proofs.Common.{ℕ, List, inl, inr, Option, Some, None, sym, subst}
use Rattle.std.specs.Prelude.{IfSome}
use Rattle.file_reports.proofs.InputFacts.{fault_given}
use Rattle.file_reports.specs.Inputs.{Inputs, IsGiven}
use Rattle.file_reports.specs.Reports.{with_counts}
use Rattle.file_reports.specs.declared.fault.Input.{Input}
use Rattle.file_reports.specs.declared.fault.Input.TheVariants as input
use Rattle.file_reports.specs.declared.fault.InputFault.{InputFault}
use Rattle.report_runs.specs.Reporting.{AreNamed, HasName, IsReportOutput, made_by, read_by, report_text}
use Rattle.run_parts.specs.declared.report_files.ReportFiles.{ReportFiles}
use Rattle.report_runs.specs.declared.reporting.Question.{Question}
use Rattle.questions.specs.declared.report.Report.TheVariants.{ErrSysmods, MissingFix}
use Rattle.report_runs.specs.declared.reporting.Question.TheVariants.{Chain, Report}

-- what a report reads is given
given_of : (question : Question) (inputs : Inputs) (at : Input) → IsGiven (read_by question inputs) at → IsGiven inputs at
given_of (Report ErrSysmods) inputs input.Zone there = tt
given_of (Report ErrSysmods) inputs input.Categories there = absurd (cc there)
given_of (Report ErrSysmods) inputs input.Received there = there
given_of (Report ErrSysmods) inputs (input.Publication index) there = there
given_of (Report MissingFix) inputs at there = there
given_of (Chain sysmod) inputs input.Zone there = tt
given_of (Chain sysmod) inputs input.Categories there = absurd (cc there)
given_of (Chain sysmod) inputs input.Received there = absurd (cc there)
given_of (Chain sysmod) inputs (input.Publication index) there = there

-- the input that has a fault stands in a file that has a name
pub fault_named : (files : ReportFiles) (question : Question) (zone : List ℕ) (inputs : Inputs) (told : InputFault) (old new : Option (List ℕ)) → AreNamed files inputs
    → IsReportOutput (Some told) (made_by question zone inputs) old new → HasName files told.input
fault_named files question zone inputs told old new named (inl cut) = subst (λ (told : InputFault). HasName files told.input) (sym cut.0) tt
fault_named files question zone inputs told old new named (inr refused) =
    by told.input (fault_given (with_counts (report_text question zone)) (read_by question inputs) told refused.0)
  where
    by : (at : Option Input) → IfSome at (IsGiven (read_by question inputs)) → HasName files at
    by None there = tt
    by (Some at) there = named at (given_of question inputs at there)
