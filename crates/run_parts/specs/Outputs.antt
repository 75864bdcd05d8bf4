-- The outputs of a run on its two streams, how it ends, and how a run ends that makes nothing.
use Rattle.std.specs.Prelude.{◌≡◌, ◌++◌, ℕ, Bool, true, false, List, Option, Some, None, Result, Ok, Err, codes, decimal}
use Rattle.std.specs.Io.KnownBytes.{Keeps}
use Rattle.faults.specs.FaultText as fault_text
use Rattle.faults.specs.declared.any.AnyFault.{AnyFault}
use Rattle.transfer.specs.Transfer.{AppendsFront}
use Rattle.run_parts.specs.ProgramFault.{of_program, status_of}
use Rattle.run_parts.specs.declared.fault.ProgramFault.{ProgramFault}

-- Standard error gets nothing, or the line that tells the fault, as far as it takes it.
abbrev pub IsTold : Option AnyFault → Option (List ℕ) → Option (List ℕ) → Type 0
IsTold None old new = Keeps old new
IsTold (Some fault) old new = AppendsFront old new (fault_text.text_of fault)

-- the line of a fault with a name after it: that of the file that it is in, or of the table
abbrev pub line_in : AnyFault → List ℕ → List ℕ
line_in fault name = codes "FAULT " ++ decimal fault.number ++ fault_text.place_text fault.place ++ codes " " ++ name ++ codes "\n"

-- the exit status: 0, or that of the fault that ended the run
abbrev pub run_status : Option AnyFault → ℕ
run_status None = 0
run_status (Some fault) = status_of fault.cause

-- the fault that a run ended with, if it had one
abbrev pub fault_in : {T : Type 0} → Result T AnyFault → Option AnyFault
fault_in (Ok _) = None
fault_in (Err fault) = Some fault

-- What standard output and standard error had before a run and have after it, if that is known.
pub record Outputs : Type 0 where
  pub output : Option (List ℕ)
  pub written : Option (List ℕ)
  pub errors : Option (List ℕ)
  pub told : Option (List ℕ)

-- the same, by what is known of each writer
abbrev pub outputs_of : {Output Errors : Type 0} → (Output → Option (List ℕ)) → (Errors → Option (List ℕ)) → Output → Output → Errors → Errors → Outputs
outputs_of contents errors_contents output written errors told = record {
  output = contents output;
  written = contents written;
  errors = errors_contents errors;
  told = errors_contents told;
}

-- a run that ends before it makes anything: standard output stays, standard error has the fault's line, the status is 3
abbrev pub IsEndedBy : ProgramFault → Outputs → ℕ → Type 0
IsEndedBy fault outputs status =
    Keeps outputs.output outputs.written × IsTold (Some (of_program fault)) outputs.errors outputs.told × (status ≡ 3)

-- a run that ends with a fault before it makes anything: standard output stays, standard error has the fault's line
abbrev pub IsToldAlone : AnyFault → Outputs → ℕ → Type 0
IsToldAlone fault outputs status =
    Keeps outputs.output outputs.written × IsTold (Some fault) outputs.errors outputs.told × (status ≡ status_of fault.cause)

-- what follows the line of a fault: a text that says what it means, if that is asked for
abbrev pub IsMeant : Bool → Option (List ℕ) → Option (List ℕ) → Type 0
IsMeant false old new = Keeps old new
IsMeant true old new = (text : List ℕ) × AppendsFront old new text

-- words that are no line: standard error gets a text for the user
abbrev pub IsExplained : List ℕ → Outputs → ℕ → Type 0
IsExplained text outputs status =
    Keeps outputs.output outputs.written × AppendsFront outputs.errors outputs.told text × (status ≡ 2)
