-- Why a connection isn't served to its end, or a list of them.
use Rattle.faults.specs.Told.{of_input, of_machine}
use Rattle.faults.specs.declared.any.AnyFault.{AnyFault}
use Rattle.transfer.specs.declared.fault.TransferFault.{TransferFault}
use Rattle.transfer.specs.declared.fault.TransferFault.TheVariants as transfer
use Rattle.bureau_http.specs.declared.fault.ConnFault.{ConnFault}
use Rattle.bureau_http.specs.declared.fault.ConnFault.TheVariants.{Read, Write, EndInside, Memory}
use Rattle.bureau_http.specs.declared.fault.RunFault.{RunFault}
use Rattle.bureau_http.specs.declared.fault.RunFault.TheVariants as run

-- The number that is printed, and what is at fault. A client that ends its connection inside a request gave too
-- little.
abbrev pub conn_told : ConnFault → AnyFault
conn_told Read = of_machine 51
conn_told Write = of_machine 52
conn_told EndInside = of_input 53
conn_told Memory = of_machine 54

-- the same of a list of connections
abbrev pub run_told : RunFault → AnyFault
run_told run.Memory = of_machine 54

-- the fault for bytes that weren't read
abbrev pub of_transfer : TransferFault → ConnFault
of_transfer (transfer.Read error) = Read
of_transfer transfer.Memory = Memory
