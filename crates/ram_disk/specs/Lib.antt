pub mod RamDisk
