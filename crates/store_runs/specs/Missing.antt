-- What becomes of a store whose file isn't there.
use Rattle.std.specs.Prelude.{◌≡◌, Bool, true, false, Option, None, Some}
use Rattle.faults.specs.declared.any.AnyFault.{AnyFault}
use Rattle.sqlite_disk.specs.declared.Disk as disk
use Rattle.sqlite_store.specs.FileStore.{view}
use Rattle.sqlite_store.specs.declared.store.FileStore.{FileStore}
use Rattle.sqlite_wal.specs.Recovery.{Image}
use Rattle.sqlite.specs.Files.{IsBlankAs, file_state}
use Rattle.sqlite.specs.Held.{Held}
use Rattle.sqlite.specs.State.{HasCleanDisk}
use Rattle.store_runs.specs.declared.missing.IfMissing.{IfMissing}
use Rattle.store_runs.specs.declared.missing.IfMissing.TheVariants.{Make, Refuse}

-- its file is made
abbrev pub makes : IfMissing → Bool
makes Refuse = false
makes (Make sums) = true

-- the pages of the database that is made end in sums
abbrev pub sums : IfMissing → Bool
sums Refuse = false
sums (Make asked) = asked

-- `init` makes a file for callers without a fault alone.
abbrev pub if_missing : (sums : Bool) → Option AnyFault → IfMissing
if_missing sums None = Make sums
if_missing sums (Some fault) = Refuse

-- A connection to files that held no database yet has made one. The pages end in sums, or don't, as was asked for.
abbrev pub HasSumsAsAsked : {D : Type 0} {g : disk.Ghosts D} → IfMissing → Image → Held (FileStore D g) → Type 0
HasSumsAsAsked missing from conn = HasCleanDisk (file_state conn) → IsBlankAs (sums missing) from → (view conn.store).has_sums ≡ sums missing
