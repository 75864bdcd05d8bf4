-- A run: from the words of a command line to what it reads, what both streams get, and the exit status.
use Rattle.std.specs.Prelude.{◌≡◌, ◌≢◌, ◌⊎◌, ℕ, Bool, false, if◌then◌else◌, [], List, map, Option, Some, Result, Ok, Err, IfSome, string_bytes}
use Rattle.std.specs.Io.KnownBytes.{Keeps}
use Rattle.clap.specs.Words.{fault_of}
use Rattle.sqlite_disk.specs.declared.Disk as disk
use Rattle.sqlite_wal.specs.Recovery.{Image}
use Rattle.connections.specs.Rounds.{Log}
use Rattle.connections.specs.declared.rounds.RoundFault.{RoundFault}
use Rattle.command_line.specs.Line.{bureau_app, IsLineOf, seen}
use Rattle.command_line.specs.declared.line.Line.{Line}
use Rattle.command_line.specs.declared.line.Line.TheVariants as line
use Rattle.command_line.specs.declared.line.LineFault.{LineFault}
use Rattle.command_line.specs.declared.line.LineFault.TheVariants as line_fault
use Rattle.report_runs.specs.Holds.{IsHolds}
use Rattle.report_runs.specs.ReportFiles.{IsChain, IsReport}
use Rattle.questions.specs.declared.report.Report.TheVariants.{ErrSysmods, MissingFix}
use Rattle.report_runs.specs.declared.reporting.Question.TheVariants.{Report}
use Rattle.run_parts.specs.Files.{KnownFile, AreContents, IsContent}
pub use Rattle.run_parts.specs.Outputs.{Outputs, IsEndedBy, IsExplained, outputs_of}
use Rattle.run_parts.specs.declared.fault.ProgramFault.TheVariants.{NotRead, Memory}
use Rattle.store_runs.specs.Asked.{Asked, AsksOnce}
use Rattle.store_runs.specs.Checking.{IsCheck}
use Rattle.store_runs.specs.Desk.{of_store}
use Rattle.store_runs.specs.Ended.{IsNothing}
use Rattle.store_runs.specs.NamedStore.{IsCallers, IsInit, IsMigrate}
use Rattle.store_runs.specs.declared.ended.Ended.{Ended}
use Rattle.store_runs.specs.declared.missing.IfMissing.TheVariants.{Refuse}
use Rattle.bureau_program.specs.Replay.{IsReplayRun}
use Rattle.bureau_program.specs.Runs.{GoesOn}
use Rattle.bureau_program.specs.Served.{KeepsServed}
use Rattle.bureau_program.specs.Serving.{IsServeRun, file_ends, session_of}
use Rattle.bureau_program.specs.declared.serving.Service.{Service}

-- `replay CALLERS FILE..`: the callers file and each FILE are read, and nothing else
pub record IsServed (files : List ℕ → KnownFile) (callers : List ℕ) (names : List (List ℕ)) (outputs : Outputs) (status : ℕ) : Type 0 where
  pub source : List ℕ
  pub connections : List (List ℕ)
  pub callers_are : IsContent (files callers) source
  pub files_are : AreContents files names connections
  pub replayed : IsReplayRun source connections outputs.output outputs.written outputs.errors outputs.told status

-- the same, or one of them can't be read, or memory ran out
abbrev pub IsReplay : (List ℕ → KnownFile) → List ℕ → List (List ℕ) → Outputs → ℕ → Type 0
IsReplay files callers names outputs status =
    IsServed files callers names outputs status ⊎ IsEndedBy NotRead outputs status ⊎ IsEndedBy Memory outputs status

-- The facts that a run may find: files by their names; the stores that were asked for before it and by its end; the ports
-- that it asks for, each with the most open connections and whether a log is kept; what ended its rounds, and the rounds
-- before it and by its end.
pub record Found : Type 1 where
  pub files : List ℕ → KnownFile
  pub asked : Asked
  pub asked_after : Asked
  pub ports : ℕ → ℕ → Bool → Type 0
  pub over : RoundFault → Type 0
  pub log : Log
  pub log_after : Log

-- the same, by what is known of the surroundings
abbrev pub found_in : (List ℕ → KnownFile) → Asked → Asked → (ℕ → ℕ → Bool → Type 0) → (RoundFault → Type 0) → Log → Log → Found
found_in files asked asked_after ports over log log_after =
    record { files = files; asked = asked; asked_after = asked_after; ports = ports; over = over; log = log; log_after = log_after }

-- there was no round
abbrev pub NobodyCame : Found → Type 0
NobodyCame found = found.log_after ≡ found.log

module _ (found : Found) (from : Image) {D : Type 0} {g : disk.Ghosts D} where
  -- no store was asked for, and no files of one were opened
  abbrev pub AsksForNone : Ended D g → Type 0
  AsksForNone ended = (found.asked_after ≡ found.asked) × IsNothing ended

  -- `serve --port P --cache N --connections K --open M --log STORE`
  pub record IsServe (service : Service) (name : List ℕ) (outputs : Outputs) (status : ℕ) (ended : Ended D g) : Type 0 where
    pub served : IsServeRun (file_ends (session_of service found.ports found.over found.log found.log_after) from ended) service.port
        outputs.output outputs.written outputs.errors outputs.told status
    pub kept : KeepsServed from found.log found.log_after served.outcome ended
    pub goes_on : GoesOn from found.log found.log_after served.outcome ended
    pub asks : AsksOnce found.asked found.asked_after name Refuse from (λ fault. served.outcome ≡ Some (of_store fault)) ended

  -- The run does what a line says, or tells what is wrong with the words. It reads standard input only if a FILE is `-`,
  -- gets connections only for `serve`, and asks for a store only if a STORE is named.
  abbrev pub IsAnswered : Result Line LineFault → Option (List ℕ) → Option (List ℕ) → Outputs → ℕ → Ended D g → Type 0
  IsAnswered (Ok (line.Holds file)) input rest outputs status ended =
      IsHolds found.files (string_bytes file) input rest outputs status × NobodyCame found × AsksForNone ended
  IsAnswered (Ok (line.Replay cache callers names)) input rest outputs status ended =
      Keeps input rest × IsReplay found.files (string_bytes callers) (map string_bytes names.items) outputs status × NobodyCame found × AsksForNone ended
  IsAnswered (Ok (line.Init store callers sums)) input rest outputs status ended =
      Keeps input rest × NobodyCame found × IsInit found.files found.asked found.asked_after from sums (string_bytes store) (string_bytes callers) outputs status ended
  IsAnswered (Ok (line.Serve port cache connections most_open memory log store)) input rest outputs status ended =
      Keeps input rest × IsServe (record { port = port; cache = cache; connections = connections; most_open = most_open; memory = memory; log = log }) (string_bytes store) outputs status ended
  IsAnswered (Ok (line.Migrate store)) input rest outputs status ended =
      Keeps input rest × NobodyCame found × IsMigrate found.asked found.asked_after from (string_bytes store) outputs status ended
  IsAnswered (Ok (line.ErrSysmods files)) input rest outputs status ended =
      IsReport found.files (Report ErrSysmods) files input rest outputs status × NobodyCame found × AsksForNone ended
  IsAnswered (Ok (line.MissingFix files)) input rest outputs status ended =
      IsReport found.files (Report MissingFix) files input rest outputs status × NobodyCame found × AsksForNone ended
  IsAnswered (Ok (line.Chain sysmod files)) input rest outputs status ended =
      IsChain found.files (string_bytes sysmod) files input rest outputs status × NobodyCame found × AsksForNone ended
  IsAnswered (Ok (line.Check store explain)) input rest outputs status ended =
      Keeps input rest × NobodyCame found × IsCheck explain found.asked found.asked_after from (string_bytes store) outputs status ended
  IsAnswered (Ok (line.Callers store callers)) input rest outputs status ended =
      Keeps input rest × NobodyCame found × IsCallers found.files found.asked found.asked_after from (string_bytes store) (string_bytes callers) outputs status ended
  IsAnswered (Err (line_fault.Words text)) input rest outputs status ended =
      Keeps input rest × IsExplained (string_bytes text) outputs status × NobodyCame found × AsksForNone ended
  IsAnswered (Err line_fault.Memory) input rest outputs status ended = Keeps input rest × IsEndedBy Memory outputs status × NobodyCame found × AsksForNone ended

-- the words are understood as this line; clap has a fault to find in them, or they ask for help; or memory ran out
abbrev pub IsUnderstoodAs : List (List ℕ) → Result Line LineFault → Type 0
IsUnderstoodAs words (Ok asked) = IsLineOf words asked
IsUnderstoodAs words (Err (line_fault.Words text)) = (asked : Line) → IsLineOf words asked → fault_of bureau_app words ≢ []
IsUnderstoodAs words (Err line_fault.Memory) = Unit {0}

-- what is done: the line, as it is done where someone looks on or where nobody does
abbrev pub seen_by : Bool → Result Line LineFault → Result Line LineFault
seen_by watched (Ok asked) = Ok (if watched then seen asked else asked)
seen_by watched (Err fault) = Err fault

-- A whole run of the program, from its words and whether standard error is a terminal, if they are known, and its files to its
-- streams, its status, and what is left of a store's files, which held this as it began.
pub record IsRun (words : Option (List (List ℕ))) (terminal : Option Bool) (found : Found) (from : Image) {D : Type 0} {g : disk.Ghosts D} (input rest : Option (List ℕ)) (outputs : Outputs) (status : ℕ) (ended : Ended D g) : Type 0 where
  pub line : Result Line LineFault
  pub understood : IfSome words (λ known. IsUnderstoodAs known line)
  pub watched : Bool
  pub watches : IfSome terminal (λ known. watched ≡ known)
  pub done : Result Line LineFault
  pub done_is : done ≡ seen_by watched line
  pub answered : IsAnswered found from done input rest outputs status ended
