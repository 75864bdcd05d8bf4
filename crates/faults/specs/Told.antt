-- A fault's number, place and cause.
use Rattle.std.specs.Prelude.{ℕ, Some, None}
use Rattle.faults.specs.declared.any.AnyFault.{AnyFault}
use Rattle.faults.specs.declared.fault.Cause.TheVariants.{Input, Machine}

-- the input is at fault, at this line or record
abbrev pub at_place : ℕ → ℕ → AnyFault
at_place number place = record { number = number; place = Some place; cause = Input }

-- the whole input is at fault
abbrev pub of_input : ℕ → AnyFault
of_input number = record { number = number; place = None; cause = Input }

-- the machine is at fault
abbrev pub of_machine : ℕ → AnyFault
of_machine number = record { number = number; place = None; cause = Machine }
