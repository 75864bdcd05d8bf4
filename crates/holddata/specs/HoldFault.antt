-- Why statements give no changes.
use Rattle.faults.specs.Told.{at_place, of_machine}
use Rattle.faults.specs.declared.any.AnyFault.{AnyFault}
use Rattle.holddata.specs.declared.fault.HoldFault.{HoldFault}
use Rattle.holddata.specs.declared.fault.HoldFault.TheVariants.{NoKind, TwoKinds, NoReason, BadId, BadDate, BadCategory, Memory}

-- the number that is printed, the line on which the statement begins, if it has one, and what is at fault
abbrev pub told : HoldFault → AnyFault
told (NoKind line) = at_place 11 line
told (TwoKinds line) = at_place 12 line
told (NoReason line) = at_place 13 line
told (BadId line) = at_place 14 line
told (BadDate line) = at_place 15 line
told (BadCategory line) = at_place 16 line
told Memory = of_machine 17
