-- Why the program itself can't do what it should, and the exit status of a run that ends with a fault.
use Rattle.std.specs.Prelude.{ℕ}
use Rattle.faults.specs.Told.{of_machine}
use Rattle.faults.specs.declared.any.AnyFault.{AnyFault}
use Rattle.faults.specs.declared.fault.Cause.{Cause}
use Rattle.faults.specs.declared.fault.Cause.TheVariants.{Input, Machine}
use Rattle.transfer.specs.declared.fault.TransferFault.{TransferFault}
use Rattle.transfer.specs.declared.fault.TransferFault.TheVariants as transfer
use Rattle.run_parts.specs.declared.fault.ProgramFault.{ProgramFault}
use Rattle.run_parts.specs.declared.fault.ProgramFault.TheVariants.{NotRead, NotWritten, NotListening, Memory}

-- the program's own faults: the number that is printed, and that the machine is at fault
abbrev pub of_program : ProgramFault → AnyFault
of_program NotRead = of_machine 71
of_program NotWritten = of_machine 72
of_program NotListening = of_machine 73
of_program Memory = of_machine 74

-- the program's fault for a source that can't be read
abbrev pub of_transfer : TransferFault → ProgramFault
of_transfer (transfer.Read error) = NotRead
of_transfer transfer.Memory = Memory

-- The exit status of a run that ends with a fault. A source that is too long is itself at fault.
abbrev pub status_of : Cause → ℕ
status_of Input = 1
status_of Machine = 3
