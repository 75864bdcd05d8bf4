-- No part of what is promised: private contracts cite it. The fault of a body, as it is told.
use Rattle.std.specs.Prelude.{◌≡◌, ◌⊎◌, ℕ, List, Result, Err}
use Rattle.faults.specs.FaultText.{text_of}
use Rattle.faults.specs.declared.any.AnyFault.{AnyFault}
use Rattle.faults.specs.declared.fault.Cause.TheVariants.{Input, Machine}

-- the machine is at fault, or the body, which says nothing but the line of this fault
abbrev pub IsTold : {A : Type 0} → Result A (List ℕ) → AnyFault → Type 0
IsTold said fault = (fault.cause ≡ Machine) ⊎ ((fault.cause ≡ Input) × (said ≡ Err (text_of fault)))
