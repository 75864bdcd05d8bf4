-- From the end of a run to the moment when the log was copied into the file of its store.
use Rattle.std.specs.Prelude.{◌≡◌, ◌⊎◌, IsTrue}
use Rattle.sqlite_disk.specs.declared.Disk.{Ghosts}
use Rattle.sqlite_wal.specs.Recovery.{Image}
use Rattle.sqlite_store.specs.FileStore as files
use Rattle.sqlite_store.specs.FileStore.{view}
use Rattle.sqlite_store.specs.declared.store.FileStore.{FileStore}
use Rattle.sqlite.specs.Held.{Held}
use Rattle.store_runs.specs.Ended.{HasEnded, IsCopiedEnd}
use Rattle.store_runs.specs.Keeping.{EndsWell, MayLeave}
use Rattle.store_runs.specs.declared.ended.Ended.{Ended}
use Rattle.store_runs.specs.declared.ended.Ended.TheVariants.{Nothing, Left, Closed}

module _ {D : Type 0} {g : Ghosts D} where
  -- what is there of a database is a connection that was ended
  abbrev pub IsOfConnection : Ended D g → Type 0
  IsOfConnection Nothing = Unit {0}
  IsOfConnection (Left it) = Unit {0}
  IsOfConnection (Closed last) = (conn : Held (FileStore D g)) × HasEnded conn last

  -- if the copy failed and closed the store, its trees are numbered still
  abbrev pub IsNumberedStill : Ended D g → Type 0
  IsNumberedStill Nothing = Unit {0}
  IsNumberedStill (Left it) = Unit {0}
  IsNumberedStill (Closed last) = IsTrue (view last).is_open ⊎ IsTrue (view last).is_numbered

  -- whenever the program stops from then on, it may leave this
  abbrev pub LeavesAtLast : Image → Ended D g → Image → Type 0
  LeavesAtLast from Nothing image = image ≡ from
  LeavesAtLast from (Left it) image = MayLeave it image
  LeavesAtLast from (Closed last) image = (files.state last).may_leave image

  -- A run ended so, and the log was copied into the file, or that failed. By then the disk had returned what was written.
  pub record IsLastOf (from : Image) (ended closed : Ended D g) : Type 0 where
    pub ended_is : IsOfConnection ended
    pub copied : IsCopiedEnd ended closed
    pub well : EndsWell from closed
    pub numbered : IsNumberedStill closed
