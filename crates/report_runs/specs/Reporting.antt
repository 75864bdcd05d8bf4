-- The report from files, by its inputs.
use Rattle.std.specs.Prelude.{◌≡◌, ◌⊎◌, ◌++◌, ℕ, Bool, true, false, List, Option, Some, None, Result, Ok, Err, IsSome, codes, length, map, option_map, slice_get, string_bytes}
use Rattle.std.specs.Io.KnownBytes.{Appends, Keeps}
use Rattle.faults.specs.FaultText.{text_of}
use Rattle.faults.specs.declared.any.AnyFault.{AnyFault}
use Rattle.file_reports.specs.Inputs.{Inputs, IsFirstFault, IsGiven, Refused, Said}
use Rattle.file_reports.specs.Lists.{inputs_of}
use Rattle.file_reports.specs.Reports.{chain_text_said, err_text_said, made_from, missing_text_said, with_counts}
use Rattle.file_reports.specs.declared.texts.Counts.{Counts}
use Rattle.file_reports.specs.declared.fault.Input.{Input}
use Rattle.file_reports.specs.declared.fault.Input.TheVariants.{Zone, Categories, Received, Publication}
use Rattle.file_reports.specs.declared.fault.InputFault.{InputFault}
use Rattle.transfer.specs.Transfer.{AppendsFront}
use Rattle.run_parts.specs.Outputs.{IsMeant, line_in}
use Rattle.run_parts.specs.ProgramFault.{of_program, status_of}
use Rattle.run_parts.specs.declared.fault.ProgramFault.TheVariants.{NotWritten}
use Rattle.run_parts.specs.declared.report_files.ReportFiles.{ReportFiles}
use Rattle.report_runs.specs.Amounts.{read_line}
use Rattle.report_runs.specs.declared.reporting.Question.{Question}
use Rattle.questions.specs.declared.report.Report.TheVariants.{ErrSysmods, MissingFix}
use Rattle.report_runs.specs.declared.reporting.Question.TheVariants.{Chain, Report}
use Rattle.report_runs.specs.declared.reporting.ReportAsked.{ReportAsked}

-- the text of the answer, on a zone of this name; a verdict has a line end after it
abbrev pub report_text : Question → List ℕ → Said → List ℕ
report_text (Report ErrSysmods) zone said = err_text_said zone said
report_text (Report MissingFix) zone said = missing_text_said zone said
report_text (Chain sysmod) zone said = chain_text_said zone sysmod said ++ codes "\n"

-- the inputs that are read for it: only the missing fixes need fix categories, and a verdict needs no received SYSMODs
abbrev pub read_by : Question → Inputs → Inputs
read_by (Report ErrSysmods) inputs = record inputs { categories = None }
read_by (Report MissingFix) inputs = inputs
read_by (Chain sysmod) inputs = record inputs { categories = None; received = None }

-- the text of the report, and how much was published, by the inputs; or the first fault
abbrev pub made_by : Question → List ℕ → Inputs → Result (List ℕ × Counts) Refused
made_by question zone inputs = made_from (with_counts (report_text question zone)) (read_by question inputs)

-- the same, by the lists and publications that a run is handed
abbrev pub made_of : ReportAsked → List (List ℕ) → Result (List ℕ × Counts) Refused
made_of asked publications = made_by asked.question asked.zone (inputs_of asked.lists publications)

-- the name of an input's file
abbrev pub name_of : ReportFiles → Input → Option (List ℕ)
name_of files Zone = Some (string_bytes files.zone)
name_of files Categories = option_map string_bytes files.categories
name_of files Received = option_map string_bytes files.received
name_of files (Publication index) = slice_get (map string_bytes files.publications.items) index

-- each input that is given has a file with a name
abbrev pub AreNamed : ReportFiles → Inputs → Type 0
AreNamed files inputs = (input : Input) → IsGiven inputs input → IsSome (name_of files input)

-- standard error gets the line of a fault with the name of its file, or without one if it is in none
abbrev pub IsToldOf : ReportFiles → AnyFault → Option Input → Option (List ℕ) → Option (List ℕ) → Type 0
IsToldOf files fault None old new = AppendsFront old new (text_of fault)
IsToldOf files fault (Some input) old new =
    (name : List ℕ) × (name_of files input ≡ Some name) × AppendsFront old new (line_in fault name)

-- Serves private contracts alone: the input has a file's name, if there is one.
abbrev pub HasName : ReportFiles → Option Input → Type 0
HasName files None = Unit {0}
HasName files (Some input) = IsSome (name_of files input)

-- a write failed: standard output has a front of the report
abbrev pub IsReportCutShort : InputFault → Result (List ℕ × Counts) Refused → Option (List ℕ) → Option (List ℕ) → Type 0
IsReportCutShort told made old new =
    (told ≡ record { input = None; fault = of_program NotWritten }) × ((all : List ℕ × Counts) × (made ≡ Ok all) × AppendsFront old new all.0)

-- Standard output gets the whole report; a front of it, if a write failed; or nothing, if an input has a fault or memory ran
-- out.
abbrev pub IsReportOutput : Option InputFault → Result (List ℕ × Counts) Refused → Option (List ℕ) → Option (List ℕ) → Type 0
IsReportOutput None made old new = (all : List ℕ × Counts) × (made ≡ Ok all) × Appends old new all.0
IsReportOutput (Some told) made old new = IsReportCutShort told made old new ⊎ (IsFirstFault made told × Keeps old new)

-- after a report standard error gets nothing, or the line that tells how much was read, if that is asked for
abbrev pub IsReadTold : Bool → ℕ → Result (List ℕ × Counts) Refused → Option (List ℕ) → Option (List ℕ) → Type 0
IsReadTold false files made old new = Keeps old new
IsReadTold true files made old new = (all : List ℕ × Counts) × (made ≡ Ok all) × AppendsFront old new (read_line all.1 files)

-- that, or the line that tells the fault, as far as it takes it, and what it means, if that is asked for
abbrev pub IsReportTold : ReportFiles → Result (List ℕ × Counts) Refused → Option InputFault → Option (List ℕ) → Option (List ℕ) → Type 0
IsReportTold files made None old new = IsReadTold files.verbose (length files.publications.items) made old new
IsReportTold files made (Some told) old new = (line : Option (List ℕ)) × IsToldOf files told.fault told.input old line × IsMeant files.explain line new

abbrev pub report_status : Option InputFault → ℕ
report_status None = 0
report_status (Some told) = status_of told.fault.cause

abbrev pub input_fault_in : {T : Type 0} → Result T InputFault → Option InputFault
input_fault_in (Ok _) = None
input_fault_in (Err told) = Some told

-- A whole run: from the inputs to what standard output and standard error get, and the exit status.
pub record IsReportRun (files : ReportFiles) (made : Result (List ℕ × Counts) Refused) (old new old_errors new_errors : Option (List ℕ)) (status : ℕ) : Type 0 where
  pub outcome : Option InputFault
  pub output : IsReportOutput outcome made old new
  pub told : IsReportTold files made outcome old_errors new_errors
  pub status_is : status ≡ report_status outcome
