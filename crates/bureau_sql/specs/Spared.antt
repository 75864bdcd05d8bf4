-- The answer of a read that can be spared.
use Rattle.std.specs.Prelude.{Err, None, Ok, Option, Result, Some}
use Rattle.bureau_store.specs.declared.fault.StoreFault.{StoreFault}
use Rattle.bureau_store.specs.declared.fault.StoreFault.TheVariants.{Device, Memory, Shape, Size, Version}

-- nothing if memory ran out
abbrev pub spared : {Answer : Type 0} → Result Answer StoreFault → Result (Option Answer) StoreFault
spared (Ok answer) = Ok (Some answer)
spared (Err Memory) = Ok None
spared (Err Device) = Err Device
spared (Err Size) = Err Size
spared (Err Shape) = Err Shape
spared (Err Version) = Err Version
