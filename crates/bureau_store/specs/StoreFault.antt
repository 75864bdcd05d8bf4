-- Why a store refuses a call.
use Rattle.faults.specs.Told.{of_input, of_machine}
use Rattle.faults.specs.declared.any.AnyFault.{AnyFault}
use Rattle.bureau_store.specs.declared.fault.StoreFault.{StoreFault}
use Rattle.bureau_store.specs.declared.fault.StoreFault.TheVariants.{Memory, Device, Size, Shape, Version}

-- The number that is printed, and what is at fault: the machine, or a file that is no store of this version.
abbrev pub told : StoreFault → AnyFault
told Memory = of_machine 41
told Device = of_machine 42
told Size = of_machine 43
told Shape = of_input 44
told Version = of_input 45
