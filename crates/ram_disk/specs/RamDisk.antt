-- A `RamDisk` as contracts see it.
use Rattle.std.specs.Prelude.{◌≡◌, ℕ, List, []}
use Rattle.ram_disk.specs.declared.disk.RamDisk.{RamDisk}

-- the bytes of the file
abbrev pub bytes_of : RamDisk → List ℕ
bytes_of disk = disk.bytes.items

-- nothing was written, and no call has failed
pub record IsFresh (disk : RamDisk) : Type 0 where
  pub empty : bytes_of disk ≡ []
  pub unfailed : disk.faults ≡ 0
