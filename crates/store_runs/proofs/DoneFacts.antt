-- A fault of the store, or of the callers file, is never that a line could not be written.
use Rattle.std.proofs.Common.{◌≡◌, ◌≢◌, ◌⊎◌, ◌<◌, ◌==◌, ◌∙◌, ℕ, List, None, Option, Some, ap, arith, cond, inl, inr, refl, sym}
use Rattle.faults.specs.declared.any.AnyFault.{AnyFault}
use Rattle.bureau_store.specs.CallerFault as callers_fault
use Rattle.bureau_store.specs.declared.fault.CallerFault.{CallerFault}
use Rattle.bureau_store.specs.declared.fault.CallerFault.TheVariants.{BadCaller, CallerHeader, NoPublisher}
use Rattle.bureau_store.specs.declared.fault.CallerFault.TheVariants as callers
use Rattle.bureau_store.specs.declared.fault.StoreFault.{StoreFault}
use Rattle.bureau_store.specs.declared.fault.StoreFault.TheVariants.{Device, Memory, Shape, Size, Version}
use Rattle.sqlite.specs.State.{State}
use Rattle.run_parts.specs.ProgramFault.{of_program}
use Rattle.run_parts.specs.declared.fault.ProgramFault.TheVariants as program
use Rattle.run_parts.specs.declared.fault.ProgramFault.TheVariants.{NotWritten}
use Rattle.store_runs.specs.Desk.{IsInitRefused, of_store}
use Rattle.store_runs.specs.Keeping.{IsDone}

pub some_same : (one other : AnyFault) → ◌≡◌ {A = Option AnyFault} (Some one) (Some other) → one ≡ other
some_same one other same = cc

-- the numbers of two faults that are one
one_number : (one other : AnyFault) → one ≡ other → one.number ≡ other.number
one_number one other same = ap (λ (fault : AnyFault). fault.number) same

-- the fault of the store that has a number
abbrev fault_numbered : ℕ → StoreFault
fault_numbered number = cond (number == 41) Memory (cond (number == 42) Device (cond (number == 43) Size (cond (number == 44) Shape Version)))

numbered : (refused : StoreFault) → fault_numbered (of_store refused).number ≡ refused
numbered Memory = refl
numbered Device = refl
numbered Size = refl
numbered Shape = refl
numbered Version = refl

-- no two of them are told as one
pub told_once : (one other : StoreFault) → of_store one ≡ of_store other → one ≡ other
told_once one other same = sym (numbered one) ∙ ap fault_numbered (one_number (of_store one) (of_store other) same) ∙ numbered other

-- a fault is that of the device, or another
pub is_device : (refused : StoreFault) → (refused ≡ Device) ⊎ (refused ≢ Device)
is_device Device = inl refl
is_device Memory = inr (λ same. cc)
is_device Size = inr (λ same. cc)
is_device Shape = inr (λ same. cc)
is_device Version = inr (λ same. cc)

differ : (fault : AnyFault) (refused : StoreFault) → 50 < fault.number → fault ≡ of_store refused → ⊥
differ fault Memory high same = let one = one_number fault (of_store Memory) same in omega (arith, high, one)
differ fault Device high same = let one = one_number fault (of_store Device) same in omega (arith, high, one)
differ fault Size high same = let one = one_number fault (of_store Size) same in omega (arith, high, one)
differ fault Shape high same = let one = one_number fault (of_store Shape) same in omega (arith, high, one)
differ fault Version high same = let one = one_number fault (of_store Version) same in omega (arith, high, one)

pub no_store_fault : (refused : StoreFault) → of_program NotWritten ≡ of_store refused → ⊥
no_store_fault refused same = differ (of_program NotWritten) refused (omega arith) same

-- nor that memory ran out for the line
pub never_short : (refused : StoreFault) → of_program program.Memory ≡ of_store refused → ⊥
never_short refused same = differ (of_program program.Memory) refused (omega arith) same

-- nor that nobody can be listened to
pub never_unheard : (refused : StoreFault) → of_program program.NotListening ≡ of_store refused → ⊥
never_unheard refused same = differ (of_program program.NotListening) refused (omega arith) same

pub never_done : (refused : StoreFault) (outcome : Option AnyFault) → outcome ≡ Some (of_store refused) → IsDone outcome → ⊥
never_done refused outcome is (inl none) = absurd (let other : ◌≡◌ {A = Option AnyFault} None (Some (of_store refused)) = sym none ∙ is in cc)
never_done refused outcome is (inr lost) = no_store_fault refused (some_same _ _ (sym lost ∙ is))

no_callers_fault : (refused : CallerFault) → of_program NotWritten ≡ callers_fault.told refused → ⊥
no_callers_fault CallerHeader same = let one = one_number (of_program NotWritten) (callers_fault.told CallerHeader) same in omega (arith, one)
no_callers_fault (BadCaller n) same = let one = one_number (of_program NotWritten) (callers_fault.told (BadCaller n)) same in omega (arith, one)
no_callers_fault NoPublisher same = let one = one_number (of_program NotWritten) (callers_fault.told NoPublisher) same in omega (arith, one)
no_callers_fault callers.Memory same = let one = one_number (of_program NotWritten) (callers_fault.told callers.Memory) same in omega (arith, one)

-- what `init` refuses has not been done
pub never_refused : (source : List ℕ) (before after : State) (fault : AnyFault) → fault ≡ of_program NotWritten → IsInitRefused source before after fault → ⊥
never_refused source before after fault is (inl (inl (refused, read, told))) = no_callers_fault refused (sym is ∙ told)
never_refused source before after fault is (inl (inr (inl told))) = no_callers_fault callers.Memory (sym is ∙ told)
never_refused source before after fault is (inl (inr (inr told))) = let one = one_number (of_program NotWritten) (of_program program.Memory) (sym is ∙ told) in omega (arith, one)
never_refused source before after fault is (inr (refused, told, taken, why)) = no_store_fault refused (sym is ∙ told)
