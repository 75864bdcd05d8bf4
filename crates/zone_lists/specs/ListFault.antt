-- Why a list isn't taken.
use Rattle.faults.specs.Told.{at_place, of_input, of_machine}
use Rattle.faults.specs.declared.any.AnyFault.{AnyFault}
use Rattle.zone_lists.specs.declared.fault.ListFault.{ListFault}
use Rattle.zone_lists.specs.declared.fault.ListFault.TheVariants.{Header, BadRecord, BadId, BadState, BadPattern, Repeated, TooMany, Memory}

-- the number that is printed, the number of the record, if there is one, and what is at fault
abbrev pub told : ListFault → AnyFault
told Header = of_input 31
told (BadRecord n) = at_place 32 n
told (BadId n) = at_place 33 n
told (BadState n) = at_place 34 n
told (BadPattern n) = at_place 35 n
told (Repeated n) = at_place 36 n
told TooMany = of_input 37
told Memory = of_machine 38
