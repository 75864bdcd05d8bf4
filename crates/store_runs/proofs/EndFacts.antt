-- What a run that ends leaves, and what an open that fails leaves.
use Rattle.std.proofs.Common.{◌≡◌, ◌≢◌, ◌⊎◌, IsTrue, List, ℕ, Bool, [], ◌∷◌, inl, inr, subst, sym}
use Rattle.std.proofs.Math.Logic.{∥∥₁_map}
use Rattle.sqlite_disk.specs.declared.Disk.{Ghosts}
use Rattle.sqlite_disk.specs.declared.Files.{Files}
use Rattle.sqlite_disk.specs.Events.{Event, replay, settled}
use Rattle.sqlite_disk.specs.History.{MayLeave}
use Rattle.sqlite_wal.specs.Recovery.{Image}
use Rattle.sqlite_trees.specs.Tree.{Trees}
use Rattle.sqlite_store.specs.FileStore as files
use Rattle.sqlite_store.specs.FileStore.{recovers, view}
use Rattle.sqlite_store.specs.declared.store.FileStore.{FileStore}
use Rattle.sqlite.specs.Files.{FailsToOpenFiles, HoldsDatabase, file_state}
use Rattle.sqlite.specs.Held.{AreDatabases, Held}
use Rattle.sqlite.specs.declared.error.Error.{Error}
use Rattle.sqlite.specs.declared.error.Error.TheVariants.{SqliteFailure}
use Rattle.sqlite.specs.declared.error.ErrorCode.TheVariants.{OutOfMemory}
use Rattle.sqlite.specs.declared.file.Leftover.{Leftover}
use Rattle.sqlite.proofs.Theorems.{opens_again}
use Rattle.bureau_sql.specs.Files.{HoldTrees}
use Rattle.sqlite_trees.specs.View.{IsClean}
use Rattle.store_runs.specs.Ended.{CannotUse, HasCause, HasEnded, IsLeftOver, IsNotConnected, IsRefused}
use Rattle.store_runs.specs.Keeping.{Leaves}
use Rattle.store_runs.specs.declared.ended.Ended.{Ended}
use Rattle.store_runs.specs.declared.ended.Ended.TheVariants.{Closed}
use Rattle.bureau_store.specs.declared.fault.StoreFault.{StoreFault}
use Rattle.bureau_store.specs.declared.fault.StoreFault.TheVariants.{Device, Memory}

-- each image that a stop leaves holds trees that the connection could leave
pub left_trees : {D : Type 0} {g : Ghosts D} (it : FileStore D g) (May : Trees → Type 0) → IsTrue (view it).is_numbered → AreDatabases (recovers it)
    → ((trees : Trees) → recovers it trees → May trees) → (left : Image) → (files.state it).may_leave left → HoldTrees May left
left_trees it May numbered sound so left may = ∥∥₁_map (opens_again it numbered sound left may) (λ found.
    let r : (trees : Trees) × HoldsDatabase left trees × May trees = (found.0, found.2, so found.0 found.1) in r)

abbrev no_memory : Error
no_memory = SqliteFailure OutOfMemory

-- the same of a connection that was ended, also where the log is copied into the file
pub left_of : {D : Type 0} {g : Ghosts D} (from : Image) (conn : Held (FileStore D g)) (last : FileStore D g) → HasEnded conn last → IsClean (view last)
    → (left : Image) → Leaves from (Closed last) left → HoldTrees (file_state conn).may_leave left
left_of from conn last ends still left (inl may) = ends.left still left may
left_of from conn last ends still left (inr held) = ∥∥₁_map held (λ it.
    let r : (trees : Trees) × HoldsDatabase left trees × (file_state conn).may_leave trees = (it.0, it.1, ends.trees it.0 it.2) in r)

-- a file that was just opened may be left as it was alone
pub fresh_only : (start : List ℕ) (mixes : Bool) (history : List Event) (key : ℕ) → history ≡ settled key ∷ [] → (c : List ℕ)
    → MayLeave mixes (replay start history).seen (replay start history).synced (replay start history).steps c → c ≡ start
fresh_only start mixes history key is c may =
    elim (subst (λ h. MayLeave mixes (replay start h).seen (replay start h).synced (replay start h).steps c) is may) [ inl same ↦ same | inr same ↦ same ]

-- what an open that failed is told as
abbrev ToldAs : Error → StoreFault → Type 0
ToldAs error fault = ((fault ≡ Memory) × (error ≡ no_memory)) ⊎ ((fault ≡ Device) × (error ≢ no_memory))

pub memory_or_device : (error : Error) (fault : StoreFault) → ToldAs error fault → (fault ≡ Memory) ⊎ (fault ≡ Device)
memory_or_device error fault (inl short) = inl short.0
memory_or_device error fault (inr device) = inr device.0

-- why it failed
pub told_why : {D : Type 0} {g : Ghosts D} (files : Files D) (it : Leftover D g) (error : Error) (fault : StoreFault)
    → ToldAs error fault → FailsToOpenFiles files it error → (fault ≡ Memory) ⊎ ((fault ≡ Device) × CannotUse files it)
told_why files it error fault (inl short) fails = inl short.0
told_why files it error fault (inr device) (inl short) = absurd (device.1 short)
told_why files it error fault (inr device) (inr (inl (none, unwanted))) = inr (device.0, inr (inr unwanted))
told_why files it error fault (inr device) (inr (inr (inl (named, more)))) = inr (device.0, inl more)
told_why files it error fault (inr device) (inr (inr (inr (full, at_limit)))) = inr (device.0, inr (inl at_limit))

-- memory ran out, or the files can't be opened
pub refused_by : {D : Type 0} {g : Ghosts D} (makes : Bool) (from : Image) (fault : StoreFault) (ended : Ended D g) → (fault ≡ Memory) ⊎ (fault ≡ Device)
    → (left : IsLeftOver from ended) → HasCause from fault ended left → IsRefused makes from fault ended
refused_by makes from fault ended (inl is) left cause =
    record { why = subst (IsNotConnected makes) (sym is) tt; left = left; cause = cause; missing = λ other. absurd cc }
refused_by makes from fault ended (inr is) left cause =
    record { why = subst (IsNotConnected makes) (sym is) tt; left = left; cause = cause; missing = λ other. absurd cc }
