-- The print of `holds`, by the bytes of a source (IBM z/OS SMP/E Reference, `++HOLD`).
use Rattle.std.specs.Prelude.{◌≡◌, ◌≢◌, ℕ, ◌⊎◌, List, codes, take, Option, Some, None, Result, Ok, Err, IfSome}
use Rattle.std.specs.Io.KnownBytes.{Appends, Keeps}
use Rattle.faults.specs.declared.any.AnyFault.{AnyFault}
use Rattle.mcs_reader.specs.McsFault as mcs
use Rattle.mcs_reader.specs.ReadingOf.{reading_of}
use Rattle.mcs_reader.specs.Unread.{Read}
use Rattle.mcs_reader.specs.declared.fault.McsFault.{McsFault}
use Rattle.mcs_reader.specs.declared.fault.McsFault.TheVariants as mcs_fault
use Rattle.mcs_reader.specs.declared.statement.Statement.{Statement}
use Rattle.holddata.specs.BookText.{book_text}
use Rattle.holddata.specs.HoldBook.{book_of, IsLeft}
use Rattle.holddata.specs.HoldFault as hold
use Rattle.holddata.specs.Statements.{changes_of, first_fault}
use Rattle.holddata.specs.declared.hold.Hold.{Hold}
use Rattle.holddata.specs.declared.hold.HoldChange.{HoldChange}
use Rattle.holddata.specs.declared.fault.HoldFault.{HoldFault}
use Rattle.holddata.specs.declared.fault.HoldFault.TheVariants as hold_fault
use Rattle.transfer.specs.Transfer.{AppendsFront, ConsumesUpTo}
use Rattle.run_parts.specs.Files.{KnownFile, IsNotOpened, IsOpened}
use Rattle.run_parts.specs.Outputs.{Outputs, IsEndedBy, IsTold, run_status}
use Rattle.run_parts.specs.ProgramFault.{of_program}
use Rattle.run_parts.specs.declared.fault.ProgramFault.TheVariants.{NotRead, NotWritten, Memory}

-- the most bytes that are read of a source: one more than it may have
abbrev pub most_read : ℕ
most_read = 67108865

-- the fault for a source that isn't read as statements
abbrev pub of_source : McsFault → AnyFault
of_source fault = mcs.told fault

-- the fault for statements that make no hold changes
abbrev pub of_holds : HoldFault → AnyFault
of_holds fault = hold.told fault

-- the hold book that changes leave, in print
abbrev pub print_left : List HoldChange → List ℕ
print_left changes = book_text (book_of changes)

-- the print of the hold book that statements leave, or this fault, which is their first
abbrev pub book_print : Option HoldFault → List Statement → Result (List ℕ) AnyFault
book_print None statements = Ok (print_left (changes_of statements))
book_print (Some fault) statements = Err (of_holds fault)

-- the same, by the reading of a source
abbrev pub print_of_read : Read → Result (List ℕ) AnyFault
print_of_read (Ok statements) = book_print (first_fault statements) statements
print_of_read (Err fault) = Err (of_source fault)

-- the print of the hold book that the statements of a source leave, or its fault
abbrev pub print_of : List ℕ → Result (List ℕ) AnyFault
print_of source = print_of_read (reading_of source)

-- The law of a print: the source is read as statements, and each key of the printed book has the hold that the last of their
-- changes of that key left.
pub record IsBookLeft (source text : List ℕ) : Type 0 where
  pub statements : List Statement
  pub read : reading_of source ≡ Ok statements
  pub book : List Hold
  pub printed : text ≡ book_text book
  pub left : IsLeft (changes_of statements) book

-- memory ran out
abbrev pub IsMemory : AnyFault → Type 0
IsMemory fault = (fault ≡ of_source mcs_fault.Memory) ⊎ (fault ≡ of_holds hold_fault.Memory) ⊎ (fault ≡ of_program Memory)

-- a write failed: standard output has the front of the print
abbrev pub IsCutShort : AnyFault → List ℕ → Option (List ℕ) → Option (List ℕ) → Type 0
IsCutShort fault source old new = (fault ≡ of_program NotWritten) × ((text : List ℕ) × (print_of source ≡ Ok text) × AppendsFront old new text)

-- the source can't be read, has this fault, or memory ran out: standard output stays as it was
abbrev pub IsRefused : AnyFault → List ℕ → Option (List ℕ) → Option (List ℕ) → Type 0
IsRefused fault source old new = ((fault ≡ of_program NotRead) ⊎ IsMemory fault ⊎ (print_of source ≡ Err fault)) × Keeps old new

-- Standard output gets the source's print, or what the fault leaves.
abbrev pub IsOutput : Option AnyFault → List ℕ → Option (List ℕ) → Option (List ℕ) → Type 0
IsOutput None source old new = (text : List ℕ) × (print_of source ≡ Ok text) × Appends old new text
IsOutput (Some fault) source old new = IsCutShort fault source old new ⊎ IsRefused fault source old new

-- The source that was read is all that there is, up to the limit, and the output is as it has to be.
pub record IsPrinted (input old new : Option (List ℕ)) (outcome : Option AnyFault) : Type 0 where
  pub source : List ℕ
  pub read : IfSome input (λ bytes. source ≡ take most_read bytes)
  pub printed : IsOutput outcome source old new

-- A whole run: from what is read to what standard output and standard error get, and the exit status. The reader gives at
-- most one byte more than a source may have.
pub record IsHoldsRun (input rest old new old_errors new_errors : Option (List ℕ)) (status : ℕ) : Type 0 where
  pub outcome : Option AnyFault
  pub taken : ConsumesUpTo most_read input rest
  pub printed : IsPrinted input old new outcome
  pub told : IsTold outcome old_errors new_errors
  pub status_is : status ≡ run_status outcome

-- ---- of a file by its name

-- the hold book of a file's bytes; or the file can't be opened
abbrev pub IsHoldsOf : KnownFile → Outputs → ℕ → Type 0
IsHoldsOf file outputs status =
    ((bytes : Option (List ℕ)) × (rest : Option (List ℕ)) × IsOpened file bytes
    × IsHoldsRun bytes rest outputs.output outputs.written outputs.errors outputs.told status)
    ⊎ (IsNotOpened file × IsEndedBy NotRead outputs status)

-- `holds FILE`: FILE is `-`, and standard input is read; or it isn't, and the file of that name is, and standard input stays
abbrev pub IsHolds : (List ℕ → KnownFile) → List ℕ → Option (List ℕ) → Option (List ℕ) → Outputs → ℕ → Type 0
IsHolds files name input rest outputs status =
    ((name ≡ codes "-") × IsHoldsRun input rest outputs.output outputs.written outputs.errors outputs.told status)
    ⊎ ((name ≢ codes "-") × Keeps input rest × IsHoldsOf (files name) outputs status)
