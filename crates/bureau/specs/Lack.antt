-- What a call lacked that is answered 503, by what refused it.
use Rattle.std.specs.Prelude.{ℕ, List, codes}
use Rattle.catalogue.specs.declared.fault.SourceFault.{SourceFault}
use Rattle.catalogue.specs.declared.fault.SourceFault.TheVariants as source
use Rattle.bureau_store.specs.declared.fault.StoreFault.{StoreFault}
use Rattle.bureau_store.specs.declared.fault.StoreFault.TheVariants as store
use Rattle.bureau.specs.declared.lack.Lack.{Lack}
use Rattle.bureau.specs.declared.lack.Lack.TheVariants.{Memory, Size, Device}

-- its word in the log
abbrev pub lack_name : Lack → List ℕ
lack_name Memory = codes "memory"
lack_name Size = codes "size"
lack_name Device = codes "device"

abbrev pub lack_of_source : SourceFault → Lack
lack_of_source source.Memory = Memory
lack_of_source source.Device = Device

-- a store that is none, or of another version, is of no use to the desk
abbrev pub lack_of_store : StoreFault → Lack
lack_of_store store.Memory = Memory
lack_of_store store.Size = Size
lack_of_store store.Device = Device
lack_of_store store.Shape = Device
lack_of_store store.Version = Device
