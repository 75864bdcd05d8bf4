-- A run that asks for one store asks for it once.
use Rattle.std.proofs.Common.{List, ℕ}
use Rattle.bureau_store.specs.declared.fault.StoreFault.{StoreFault}
use Rattle.sqlite_disk.specs.declared.Disk.{Ghosts}
use Rattle.sqlite_store.specs.declared.store.FileStore.{FileStore}
use Rattle.sqlite_wal.specs.Recovery.{Image}
use Rattle.sqlite.specs.Held.{Held}
use Rattle.store_runs.specs.Asked.{Agrees, Asked, AsksFor, AsksOnce, Connected, refused_with}
use Rattle.store_runs.specs.Ended.{IsClosed, IsEndOf, IsLeftOver}
use Rattle.store_runs.specs.declared.ended.Ended.{Ended}
use Rattle.store_runs.specs.declared.ended.Ended.TheVariants.{Nothing, Left, Closed}
use Rattle.store_runs.specs.declared.missing.IfMissing.{IfMissing}

module _ {D : Type 0} {g : Ghosts D} where
  end_is_closed : (left : Held (FileStore D g)) (ended : Ended D g) → IsEndOf left ended → IsClosed ended
  end_is_closed left Nothing ends = ends
  end_is_closed left (Left it) ends = ends
  end_is_closed left (Closed last) ends = tt

  refusal_agrees : (Told : StoreFault → Type 0) (fault : StoreFault) (from : Image) (ended : Ended D g) → IsLeftOver from ended → Told fault
      → Agrees Told (refused_with fault ended) ended
  refusal_agrees Told fault from Nothing left told = (tt, told)
  refusal_agrees Told fault from (Left it) left told = (tt, told)
  refusal_agrees Told fault from (Closed last) left told = absurd left

  module _ (old new : Asked) (name : List ℕ) (missing : IfMissing) (from : Image) (Told : StoreFault → Type 0) (ended : Ended D g) where
    -- a connection was made, and ended
    pub once_connected : (left : Held (FileStore D g)) → IsEndOf left ended → AsksFor old new name missing from Connected → AsksOnce old new name missing from Told ended
    once_connected left ends asks = record { answer = Connected; once = asks; agrees = end_is_closed left ended ends }

    -- none could be made
    pub once_refused : (fault : StoreFault) → IsLeftOver from ended → Told fault → AsksFor old new name missing from (refused_with fault ended)
        → AsksOnce old new name missing from Told ended
    once_refused fault left told asks = record { answer = refused_with fault ended; once = asks; agrees = refusal_agrees Told fault from ended left told }
