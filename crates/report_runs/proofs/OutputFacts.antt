-- What standard output gets, by what ends a run.
use Rattle.std.proofs.Common.{◌≡◌, ℕ, ◌⊎◌, inl, inr, List, [], take, Option, Some, None, Ok, Err, IfSome, refl, ap}
use Rattle.std.specs.Io.KnownBytes.{Appends}
use Rattle.std.proofs.KnownBytes.{Keeps-refl}
use Rattle.faults.specs.declared.any.AnyFault.{AnyFault}
use Rattle.faults.specs.Refusal.{IsRefusal}
use Rattle.transfer.specs.Transfer.{AppendsFront}
use Rattle.run_parts.specs.declared.fault.ProgramFault.{ProgramFault}
use Rattle.run_parts.specs.declared.fault.ProgramFault.TheVariants.{NotRead, NotWritten, Memory}
use Rattle.report_runs.specs.Holds.{most_read, print_of, IsMemory, IsPrinted}
use Rattle.run_parts.specs.ProgramFault.{of_program}

-- a source that the reader could give
front_of : (input : Option (List ℕ)) → (source : List ℕ) × IfSome input (λ bytes. source ≡ take most_read bytes)
front_of None = ([], tt)
front_of (Some bytes) = (take most_read bytes, refl)

-- the source isn't there
pub unread : (fault : ProgramFault) (input old : Option (List ℕ)) → IsRefusal Memory (λ f. f ≡ NotRead) fault → IsPrinted input old old (Some (of_program fault))
unread fault input old (inl memory) =
    let front = front_of input in
    record { source = front.0; read = front.1; printed = inr (inr (inl (inr (inr (ap of_program memory)))), Keeps-refl old) }
unread fault input old (inr not_read) =
    let front = front_of input in
    record { source = front.0; read = front.1; printed = inr (inl (ap of_program not_read), Keeps-refl old) }

module _ (source : List ℕ) (input : Option (List ℕ)) (read : IfSome input (λ bytes. source ≡ take most_read bytes)) where
  -- the source has no print
  pub unmade : (fault : AnyFault) (old : Option (List ℕ)) → IsMemory fault ⊎ (print_of source ≡ Err fault) → IsPrinted input old old (Some fault)
  unmade fault old why = record { source = source; read = read; printed = inr (inr why, Keeps-refl old) }

  -- its print was written in part
  pub cut_short : (text : List ℕ) (fault : ProgramFault) (old new : Option (List ℕ)) → print_of source ≡ Ok text → fault ≡ NotWritten → AppendsFront old new text
      → IsPrinted input old new (Some (of_program fault))
  cut_short text fault old new is not_written front =
      record { source = source; read = read; printed = inl (ap of_program not_written, (text, is, front)) }

  -- its print was written
  pub printed : (text : List ℕ) (old new : Option (List ℕ)) → print_of source ≡ Ok text → Appends old new text → IsPrinted input old new None
  printed text old new is all = record { source = source; read = read; printed = (text, is, all) }
