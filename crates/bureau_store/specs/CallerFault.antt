-- Why a callers file isn't taken.
use Rattle.faults.specs.Told.{at_place, of_input, of_machine}
use Rattle.faults.specs.declared.any.AnyFault.{AnyFault}
use Rattle.bureau_store.specs.declared.fault.CallerFault.{CallerFault}
use Rattle.bureau_store.specs.declared.fault.CallerFault.TheVariants.{CallerHeader, BadCaller, NoPublisher, Memory}

-- the number that is printed, the number of the record, if there is one, and what is at fault
abbrev pub told : CallerFault → AnyFault
told CallerHeader = of_input 46
told (BadCaller n) = at_place 47 n
told NoPublisher = of_input 48
told Memory = of_machine 49
