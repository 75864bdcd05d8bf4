-- A connection over the files of a store, and what is left of them, wherever a run ends.
use Rattle.std.specs.Prelude.{◌≡◌, ◌⊎◌, false, Bool, IsTrue, None}
use Rattle.bureau_sql.specs.Files.{HoldTrees}
use Rattle.bureau_store.specs.declared.fault.StoreFault.{StoreFault}
use Rattle.bureau_store.specs.declared.fault.StoreFault.TheVariants.{Device, Memory, Shape, Size, Version}
use Rattle.sqlite_disk.specs.Disk.{MoreFaults}
use Rattle.sqlite_disk.specs.declared.Disk.{Ghosts}
use Rattle.sqlite_disk.specs.declared.Files.{Files}
use Rattle.sqlite_wal.specs.Files.{outcomes}
use Rattle.sqlite_wal.specs.Recovery.{Image}
use Rattle.sqlite_trees.specs.Tree.{Trees}
use Rattle.sqlite_trees.specs.View.{IsClean}
use Rattle.sqlite_store.specs.FileStore as files
use Rattle.sqlite_store.specs.FileStore.{recovers, view}
use Rattle.sqlite_store.specs.declared.store.FileStore.{FileStore}
use Rattle.sqlite.specs.Files as sqlite
use Rattle.sqlite.specs.Files.{HoldsDatabase, IsCleanLeft, IsFullLeft, IsOpened, LeavesFiles, faults_left, faults_of, file_state, image_of}
use Rattle.sqlite.specs.Held.{AreDatabases, Held}
use Rattle.sqlite.specs.Start.{FindsIn}
use Rattle.sqlite.specs.State.{HasCleanDisk}
use Rattle.sqlite.specs.declared.file.Leftover.{Leftover}
use Rattle.store_runs.specs.declared.ended.Ended.{Ended}
use Rattle.store_runs.specs.declared.ended.Ended.TheVariants.{Nothing, Left, Closed}

-- Why no connection can be made: memory ran out, or the files can't be opened; or there are none, and none should be made.
abbrev pub IsNotConnected : Bool → StoreFault → Type 0
IsNotConnected makes Memory = Unit {0}
IsNotConnected makes Device = Unit {0}
IsNotConnected makes Shape = makes ≡ false
IsNotConnected makes Size = ⊥
IsNotConnected makes Version = ⊥

module _ {D : Type 0} {g : Ghosts D} where
  -- a new connection, which found what the two files held, and in which a statement may take as many steps as it needs
  pub record HasFound (from : Image) (conn : Held (FileStore D g)) : Type 0 where
    pub opened : HasCleanDisk (file_state conn) → IsOpened conn
    pub found : HasCleanDisk (file_state conn) → FindsIn from (file_state conn)
    pub unlimited : conn.step_limit ≡ None

  -- it is left of two files that held this, and nothing else could be left of them
  pub record IsLeftOf (from : Image) (it : Leftover D g) : Type 0 where
    pub files : Files D
    pub seen : image_of g files ≡ from
    pub only : (image : Image) → outcomes g files.log files.db image → image ≡ from
    pub leaves : IsCleanLeft it → LeavesFiles files it

  -- if no connection could be made: nothing was opened, or this is left of the two files
  abbrev pub IsLeftOver : Image → Ended D g → Type 0
  IsLeftOver from Nothing = Unit {0}
  IsLeftOver from (Left it) = IsLeftOf from it
  IsLeftOver from (Closed last) = ⊥

  -- Files that were opened can't be used: a call on them failed, the database is as long as it may be, or they hold no database and
  -- aren't empty either.
  abbrev pub CannotUse : Files D → Leftover D g → Type 0
  CannotUse files it = MoreFaults (faults_of g files) (faults_left it) ⊎ IsFullLeft it
      ⊎ ((((trees : Trees) × HoldsDatabase (image_of g files) trees) ⊎ sqlite.IsNothing (image_of g files)) → ⊥)

  -- Why an open failed that got these files, if the disk returned what was written: memory ran out, or they can't be used.
  abbrev pub FailsToOpen : StoreFault → Files D → Leftover D g → Type 0
  FailsToOpen fault files it = IsCleanLeft it → (fault ≡ Memory) ⊎ ((fault ≡ Device) × CannotUse files it)

  -- It is so if the files were opened. Of files that can't be opened no reason is known.
  abbrev pub HasCause : (from : Image) → StoreFault → (ended : Ended D g) → IsLeftOver from ended → Type 0
  HasCause from fault Nothing left = Unit {0}
  HasCause from fault (Left it) left = FailsToOpen fault left.files it
  HasCause from fault (Closed last) left = ⊥

  -- A connection that was ended. Whenever the run stops from then on, its files hold a database that a stop of the connection
  -- might have left: the next opening finds it.
  pub record HasEnded (conn : Held (FileStore D g)) (last : FileStore D g) : Type 0 where
    pub clean : IsClean (view last) → HasCleanDisk (file_state conn)
    pub numbered : IsClean (view last) → IsTrue (view last).is_numbered
    pub sound : IsClean (view last) → AreDatabases (recovers last)
    pub trees : (trees : Trees) → recovers last trees → (file_state conn).may_leave trees
    pub left : IsClean (view last) → (left : Image) → (files.state last).may_leave left → HoldTrees (file_state conn).may_leave left

  -- The log was copied into the file, or that failed. Whenever the run stops from then on, the files hold a database that a
  -- stop might have left before. If the copy fails and closes the store, it is taken on trust that its trees are still
  -- numbered.
  pub record IsCopied (old new : FileStore D g) : Type 0 where
    pub clean : IsClean (view new) → IsClean (view old)
    pub left : IsClean (view new) → IsTrue (view old).is_numbered → AreDatabases (recovers old) → IsTrue (view new).is_open ⊎ IsTrue (view new).is_numbered
        → (left : Image) → (files.state new).may_leave left → HoldTrees (recovers old) left

  abbrev pub IsEndOf : Held (FileStore D g) → Ended D g → Type 0
  IsEndOf conn Nothing = ⊥
  IsEndOf conn (Left it) = ⊥
  IsEndOf conn (Closed last) = HasEnded conn last

  -- no files were opened
  abbrev pub IsNothing : Ended D g → Type 0
  IsNothing Nothing = Unit {0}
  IsNothing (Left it) = ⊥
  IsNothing (Closed last) = ⊥

  -- an open failed, and something is left of them
  abbrev pub IsLeft : Ended D g → Type 0
  IsLeft Nothing = ⊥
  IsLeft (Left it) = Unit {0}
  IsLeft (Closed last) = ⊥

  -- they were opened as a database, and the connection was ended
  abbrev pub IsClosed : Ended D g → Type 0
  IsClosed Nothing = ⊥
  IsClosed (Left it) = ⊥
  IsClosed (Closed last) = Unit {0}

  -- the log was copied into the file, if files were opened as a database; else nothing was done
  abbrev pub IsCopiedEnd : Ended D g → Ended D g → Type 0
  IsCopiedEnd Nothing after = after ≡ Nothing
  IsCopiedEnd (Left it) after = after ≡ Left it
  IsCopiedEnd (Closed last) Nothing = ⊥
  IsCopiedEnd (Closed last) (Left it) = ⊥
  IsCopiedEnd (Closed last) (Closed now) = IsCopied last now

  -- No connection to the files could be made. 44 is told only if no files were opened.
  pub record IsRefused (makes : Bool) (from : Image) (fault : StoreFault) (ended : Ended D g) : Type 0 where
    pub why : IsNotConnected makes fault
    pub left : IsLeftOver from ended
    pub cause : HasCause from fault ended left
    pub missing : fault ≡ Shape → IsNothing ended

  -- A connection to the files was made, used so, from what it found to what it left, and ended.
  pub record IsUsed (from : Image) (Uses : Held (FileStore D g) → Held (FileStore D g) → Type 0) (ended : Ended D g) : Type 0 where
    pub found : Held (FileStore D g)
    pub finds : HasFound from found
    pub left : Held (FileStore D g)
    pub used : Uses found left
    pub ends : IsEndOf left ended
