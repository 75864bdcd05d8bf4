-- No part of what is promised: private contracts cite it. The bytes of a report's files, as they were read.
use Rattle.std.specs.Option.{option_map}
use Rattle.std.specs.Prelude.{ℕ, List, Option, Some, map}
use Rattle.file_reports.specs.Inputs.{Inputs}
use Rattle.report_runs.specs.ReportFiles.{IsFirstUnread}
use Rattle.run_parts.specs.Files.{KnownFile}
use Rattle.run_parts.specs.Outputs.{IsTold, line_in}
use Rattle.run_parts.specs.ProgramFault.{of_program}
use Rattle.run_parts.specs.declared.fault.ProgramFault.TheVariants as program_fault
use Rattle.transfer.specs.Transfer.{AppendsFront}
use Rattle.report_runs.specs.declared.report_files.Contents.{Contents}
use Rattle.report_runs.specs.declared.report_files.Unread.{Unread}
use Rattle.report_runs.specs.declared.report_files.Unread.TheVariants.{File, Memory}

abbrev pub inputs_in : Contents → Inputs
inputs_in contents = record {
  zone = contents.zone.items;
  categories = option_map (λ bytes. bytes.items) contents.categories;
  received = option_map (λ bytes. bytes.items) contents.received;
  publications = map (λ bytes. bytes.items) contents.publications.items;
}

-- why not all files are read: this is the first of these that can't be, or memory ran out
abbrev pub IsUnread : (List ℕ → KnownFile) → List (List ℕ) → Option (List ℕ) → Option (List ℕ) → Unread → Type 0
IsUnread files names input rest (File name) = IsFirstUnread files names name.now input rest
IsUnread files names input rest Memory = Unit {0}

-- standard error has the line that tells it
abbrev pub IsToldAs : Unread → Option (List ℕ) → Option (List ℕ) → Type 0
IsToldAs (File name) old new = AppendsFront old new (line_in (of_program program_fault.NotRead) name.now)
IsToldAs Memory old new = IsTold (Some (of_program program_fault.Memory)) old new
