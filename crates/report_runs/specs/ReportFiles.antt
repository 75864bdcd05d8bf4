-- `errsysmods`, `missingfix` and `chain`: from the names of files to what is read of them, what both streams get, and the
-- exit status.
use Rattle.std.specs.Prelude.{◌≡◌, ◌≢◌, ◌≤◌, ◌<◌, ◌⊎◌, ◌++◌, ℕ, List, [], ◌∷◌, Option, Some, None, IfSome, codes, filter, length, map, option_map, string_bytes, take}
use Rattle.std.specs.Option.{option_and_then, option_to_list}
use Rattle.std.specs.Char.{to_ascii_uppercase}
use Rattle.std.specs.Io.KnownBytes.{Keeps}
use Rattle.std.specs.Path.{path_file_prefix}
use Rattle.std.specs.Str.{bytes_eq}
use Rattle.file_reports.specs.Inputs.{Inputs}
use Rattle.mcs_reader.specs.Id.{id_of}
use Rattle.transfer.specs.Transfer.{AppendsFront, ConsumesUpTo}
use Rattle.report_runs.specs.Holds.{most_read}
use Rattle.run_parts.specs.Outputs.{Outputs, IsExplained, IsMeant, IsTold, line_in}
use Rattle.run_parts.specs.ProgramFault.{of_program}
use Rattle.report_runs.specs.Reporting.{IsReportRun, made_by}
use Rattle.run_parts.specs.Files.{KnownFile, Unknown, Missing, Holds}
use Rattle.run_parts.specs.declared.fault.ProgramFault.TheVariants.{NotRead, Memory}
use Rattle.run_parts.specs.declared.report_files.ReportFiles.{ReportFiles}
use Rattle.report_runs.specs.declared.reporting.Question.{Question}
use Rattle.report_runs.specs.declared.reporting.Question.TheVariants.{Chain}

-- ---- what is read

-- the bytes of a file, up to one byte more than an input may have
abbrev pub IsFrontOf : KnownFile → List ℕ → Type 0
IsFrontOf Unknown bytes = Unit {0}
IsFrontOf Missing bytes = ⊥
IsFrontOf (Holds known) bytes = bytes ≡ take most_read known

-- One file is read: standard input, if its name is `-`, and else the file of that name. From either at most one byte more is
-- read than an input may have.
abbrev pub IsRead : (List ℕ → KnownFile) → List ℕ → List ℕ → Option (List ℕ) → Option (List ℕ) → Type 0
IsRead files name bytes input rest =
    ((name ≡ codes "-") × IfSome input (λ all. bytes ≡ take most_read all) × ConsumesUpTo most_read input rest)
    ⊎ ((name ≢ codes "-") × IsFrontOf (files name) bytes × Keeps input rest)

-- the same of a file that may not be given
abbrev pub IsReadIfGiven : (List ℕ → KnownFile) → Option (List ℕ) → Option (List ℕ) → Option (List ℕ) → Option (List ℕ) → Type 0
IsReadIfGiven files None None input rest = Keeps input rest
IsReadIfGiven files None (Some bytes) input rest = ⊥
IsReadIfGiven files (Some name) None input rest = ⊥
IsReadIfGiven files (Some name) (Some bytes) input rest = IsRead files name bytes input rest

-- the files of these names are read, one after the other, and no other
abbrev pub AreRead : (List ℕ → KnownFile) → List (List ℕ) → List (List ℕ) → Option (List ℕ) → Option (List ℕ) → Type 0
AreRead files [] [] input rest = Keeps input rest
AreRead files [] (bytes ∷ more) input rest = ⊥
AreRead files (name ∷ names) [] input rest = ⊥
AreRead files (name ∷ names) (bytes ∷ more) input rest =
    (between : Option (List ℕ)) × IsRead files name bytes input between × AreRead files names more between rest

-- All files of a report are read: that of the zone, of the categories and of the received SYSMODs, if these are given, and
-- the publications in their order.
pub record AreInputs (files : List ℕ → KnownFile) (names : ReportFiles) (inputs : Inputs) (input rest : Option (List ℕ)) : Type 0 where
  pub after_zone : Option (List ℕ)
  pub after_categories : Option (List ℕ)
  pub after_received : Option (List ℕ)
  pub zone_is : IsRead files (string_bytes names.zone) inputs.zone input after_zone
  pub categories_are : IsReadIfGiven files (option_map string_bytes names.categories) inputs.categories after_zone after_categories
  pub received_is : IsReadIfGiven files (option_map string_bytes names.received) inputs.received after_categories after_received
  pub publications_are : AreRead files (map string_bytes names.publications.items) inputs.publications after_received rest

-- a file that can't be read takes nothing of standard input, unless it is standard input
abbrev pub IsTakenBy : List ℕ → Option (List ℕ) → Option (List ℕ) → Type 0
IsTakenBy name input rest = ((name ≡ codes "-") × ConsumesUpTo most_read input rest) ⊎ ((name ≢ codes "-") × Keeps input rest)

-- A file of this name is the first of these that can't be read: those before it are read, and no other is.
abbrev pub IsFirstUnread : (List ℕ → KnownFile) → List (List ℕ) → List ℕ → Option (List ℕ) → Option (List ℕ) → Type 0
IsFirstUnread files [] name input rest = ⊥
IsFirstUnread files (other ∷ names) name input rest =
    ((name ≡ other) × IsTakenBy name input rest)
    ⊎ ((bytes : List ℕ) × (between : Option (List ℕ)) × IsRead files other bytes input between × IsFirstUnread files names name between rest)

-- ---- what is asked

-- the name of the zone's file, without its folder, up to its first period and in upper case
abbrev pub name_of_file : List ℕ → Option (List ℕ)
name_of_file path = option_map (map to_ascii_uppercase) (path_file_prefix path)

-- the id of the zone: the name that is given, or else that of its file
abbrev pub zone_named : Option (List ℕ) → List ℕ → Option (List ℕ)
zone_named None path = option_and_then id_of (name_of_file path)
zone_named (Some name) path = id_of name

abbrev pub zone_of : ReportFiles → Option (List ℕ)
zone_of names = zone_named (option_map string_bytes names.name) (string_bytes names.zone)

-- those of these names that are `-`
abbrev pub standard_inputs : List (List ℕ) → List (List ℕ)
standard_inputs names = filter (λ name. bytes_eq name (codes "-")) names

-- the names of all files, in the order in which these are read
abbrev pub names_in : ReportFiles → List (List ℕ)
names_in names =
    string_bytes names.zone
    ∷ (option_to_list (option_map string_bytes names.categories)
    ++ (option_to_list (option_map string_bytes names.received) ++ map string_bytes names.publications.items))

-- the number of all names that are `-`
abbrev pub times_standard_input : ReportFiles → ℕ
times_standard_input names = length (standard_inputs (names_in names))

-- ---- a whole run

-- the report of the bytes of all files, on this zone
pub record IsReported (files : List ℕ → KnownFile) (question : Question) (names : ReportFiles) (input rest : Option (List ℕ)) (outputs : Outputs) (status : ℕ) : Type 0 where
  pub zone : List ℕ
  pub zone_is : zone_of names ≡ Some zone
  pub once : times_standard_input names ≤ 1
  pub inputs : Inputs
  pub read : AreInputs files names inputs input rest
  pub printed : IsReportRun names (made_by question zone inputs) outputs.output outputs.written outputs.errors outputs.told status

-- nothing is read, and standard error has a text for people
abbrev pub IsNotAsked : Option (List ℕ) → Option (List ℕ) → Outputs → ℕ → Type 0
IsNotAsked input rest outputs status = Keeps input rest × ((text : List ℕ) × IsExplained text outputs status)

-- standard error has the fault of the first file that can't be read, with its name; or memory ran out
abbrev pub IsUnreadTold : (List ℕ → KnownFile) → ReportFiles → Option (List ℕ) → Option (List ℕ) → Option (List ℕ) → Option (List ℕ) → Type 0
IsUnreadTold files names input rest old new =
    ((name : List ℕ) × IsFirstUnread files (names_in names) name input rest × AppendsFront old new (line_in (of_program NotRead) name))
    ⊎ IsTold (Some (of_program Memory)) old new

-- a run that ends so before it makes anything
pub record IsStopped (files : List ℕ → KnownFile) (names : ReportFiles) (input rest : Option (List ℕ)) (outputs : Outputs) (status : ℕ) : Type 0 where
  pub line : Option (List ℕ)
  pub output : Keeps outputs.output outputs.written
  pub told : IsUnreadTold files names input rest outputs.errors line
  pub meant : IsMeant names.explain line outputs.told
  pub status_is : status ≡ 3

-- `errsysmods` and `missingfix`: the report; or the zone has no name, or a second file is `-`; or a file can't be read, or memory
-- ran out
abbrev pub IsReport : (List ℕ → KnownFile) → Question → ReportFiles → Option (List ℕ) → Option (List ℕ) → Outputs → ℕ → Type 0
IsReport files question names input rest outputs status =
    IsReported files question names input rest outputs status
    ⊎ (((zone_of names ≡ None) ⊎ (1 < times_standard_input names)) × IsNotAsked input rest outputs status)
    ⊎ IsStopped files names input rest outputs status

-- `chain`: the verdict on the SYSMOD of this name, if that is an id
abbrev pub IsChainOf : (List ℕ → KnownFile) → Option (List ℕ) → ReportFiles → Option (List ℕ) → Option (List ℕ) → Outputs → ℕ → Type 0
IsChainOf files None names input rest outputs status = IsNotAsked input rest outputs status
IsChainOf files (Some sysmod) names input rest outputs status = IsReport files (Chain sysmod) names input rest outputs status

abbrev pub IsChain : (List ℕ → KnownFile) → List ℕ → ReportFiles → Option (List ℕ) → Option (List ℕ) → Outputs → ℕ → Type 0
IsChain files name names input rest outputs status = IsChainOf files (id_of name) names input rest outputs status
