-- Why statements publish nothing.
use Rattle.faults.specs.Told.{at_place, of_machine}
use Rattle.faults.specs.declared.any.AnyFault.{AnyFault}
use Rattle.holddata.specs.HoldFault as holddata
use Rattle.holddata.specs.declared.fault.HoldFault.{HoldFault}
use Rattle.holddata.specs.declared.fault.HoldFault.TheVariants as hold
use Rattle.catalogue.specs.declared.fault.CatFault.{CatFault}
use Rattle.catalogue.specs.declared.fault.CatFault.TheVariants.{VerOutside, IfOutside, IfFmid, BadId, Held, Memory}

-- The number that is printed, the line on which the statement begins, if it has one, and what is at fault. A hold's fault
-- has its own.
abbrev pub told : CatFault → AnyFault
told (VerOutside line) = at_place 21 line
told (BadId line) = at_place 22 line
told (IfOutside line) = at_place 27 line
told (IfFmid line) = at_place 28 line
told (Held fault) = holddata.told fault
told Memory = of_machine 24

-- the fault of a statement by that of its hold; want of memory stays want of memory
abbrev pub cat_fault_of : HoldFault → CatFault
cat_fault_of hold.Memory = Memory
cat_fault_of (hold.NoKind line) = Held (hold.NoKind line)
cat_fault_of (hold.TwoKinds line) = Held (hold.TwoKinds line)
cat_fault_of (hold.NoReason line) = Held (hold.NoReason line)
cat_fault_of (hold.BadId line) = Held (hold.BadId line)
cat_fault_of (hold.BadDate line) = Held (hold.BadDate line)
cat_fault_of (hold.BadCategory line) = Held (hold.BadCategory line)
