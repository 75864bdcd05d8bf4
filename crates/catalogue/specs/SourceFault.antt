-- Why a source of the published content doesn't answer.
use Rattle.faults.specs.Told.{of_machine}
use Rattle.faults.specs.declared.any.AnyFault.{AnyFault}
use Rattle.catalogue.specs.declared.fault.SourceFault.{SourceFault}
use Rattle.catalogue.specs.declared.fault.SourceFault.TheVariants.{Memory, Device}

-- The number that is printed. Memory and devices belong to the machine.
abbrev pub told : SourceFault → AnyFault
told Memory = of_machine 25
told Device = of_machine 26
