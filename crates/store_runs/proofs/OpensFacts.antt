-- Over the bureau's own store only want of memory, or a fault of the device, is told of an opening.
use Rattle.std.proofs.Common.{◌≡◌, ◌⊎◌, false, inl, inr, subst, sym}
use Rattle.bureau_store.specs.Store.{IsOfRead}
use Rattle.bureau_store.specs.Tables.{Tables}
use Rattle.bureau_store.specs.declared.fault.StoreFault.{StoreFault}
use Rattle.bureau_store.specs.declared.fault.StoreFault.TheVariants.{Device, Memory}
use Rattle.bureau_sql.specs.Files.{HoldsStore}
use Rattle.bureau_sql.specs.Opening.{IsNoStore}
use Rattle.bureau_sql.proofs.FilesFacts.{store_found}
use Rattle.bureau_sql.proofs.OpensFacts.{opens_unless}
use Rattle.sql_tables.specs.Ours.{IsOurs}
use Rattle.sql_tables.specs.Reading.{OnlyReads}
use Rattle.sql_tables.proofs.StopFacts.{was_clean}
use Rattle.sqlite_disk.specs.declared.Disk.{Ghosts}
use Rattle.sqlite_store.specs.FileStore.{view}
use Rattle.sqlite_store.specs.declared.store.FileStore.{FileStore}
use Rattle.sqlite_trees.specs.View.{IsClean}
use Rattle.sqlite_wal.specs.Recovery.{Image}
use Rattle.sqlite.specs.Files.{IsCleanLeft, file_state}
use Rattle.sqlite.specs.Held.{Held}
use Rattle.sqlite.specs.State.{HasCleanDisk}
use Rattle.sqlite.specs.declared.file.Leftover.{Leftover}
use Rattle.store_runs.specs.Ended.{HasEnded, HasFound, IsRefused}
use Rattle.store_runs.specs.declared.ended.Ended.TheVariants.{Left}

memory_or_device : {Cause : Type 0} (fault : StoreFault) → (fault ≡ Memory) ⊎ ((fault ≡ Device) × Cause) → IsOfRead fault
memory_or_device fault (inl memory) = subst IsOfRead (sym memory) tt
memory_or_device fault (inr device) = subst IsOfRead (sym device.0) tt

module _ {D : Type 0} {g : Ghosts D} (from : Image) where
  -- the files were opened, but no connection to them could be made
  pub known_of_left : (it : Leftover D g) (fault : StoreFault) → IsRefused false from fault (Left it) → IsCleanLeft it → IsOfRead fault
  known_of_left it fault refused clean = memory_or_device fault (refused.cause clean)

  module _ (found left : Held (FileStore D g)) (finds : HasFound from found) (reads : OnlyReads (file_state found) (file_state left))
      (last : FileStore D g) (ends : HasEnded left last) (still : IsClean (view last)) (before : Tables) (holds : HoldsStore from before) where
    -- the store is found in a connection that was only read
    pub ours_found : IsOurs (file_state found).committed
    ours_found =
        let clean = was_clean (file_state found) (file_state left) (λ trees. ⊥) reads.survives (ends.clean still) in
        let opened = finds.opened clean in
        (store_found from (file_state found).committed before (opened.1 opened.0.is_open).1 (finds.found clean).holds holds).0

    -- so it is not refused as a store
    pub known_of_found : (fault : StoreFault) → (HasCleanDisk (file_state left) → IsNoStore (file_state found) (file_state left) fault) → IsOfRead fault
    known_of_found fault why =
        memory_or_device fault (opens_unless (file_state found) (file_state left) fault finds.unlimited ours_found (why (ends.clean still)))
