-- Why a source isn't read.
use Rattle.faults.specs.Told.{at_place, of_input, of_machine}
use Rattle.faults.specs.declared.any.AnyFault.{AnyFault}
use Rattle.mcs_reader.specs.declared.fault.McsFault.{McsFault}
use Rattle.mcs_reader.specs.declared.fault.McsFault.TheVariants.{NoPeriod, BadVerbSubject, Unbalanced, BadByte, TooLong, Memory}

-- the number that is printed, the line on which the statement begins, if it has one, and what is at fault
abbrev pub told : McsFault → AnyFault
told (NoPeriod line) = at_place 1 line
told (BadVerbSubject line) = at_place 2 line
told (Unbalanced line) = at_place 3 line
told (BadByte line) = at_place 4 line
told TooLong = of_input 5
told Memory = of_machine 6
