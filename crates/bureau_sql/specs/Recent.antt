-- The reads of a store since its last change, which it answers again.
use Rattle.std.specs.Prelude.{◌≡◌, ◌⊎◌, ℕ, IfSome, IsTrue, List, [], None, Ok, Option, Result, Some, Contains, length, map}
use Rattle.std.specs.Option.{option_map}
use Rattle.bureau_store.specs.Caller.{caller_with}
use Rattle.bureau_store.specs.Tables.{Tables, zone_named}
use Rattle.bureau_store.specs.declared.caller.Caller.{Caller}
use Rattle.holddata.specs.declared.hold.Hold.{Hold}
use Rattle.sqlite.specs.State.{HasCleanDisk, State}
use Rattle.sql_tables.specs.Ours.{IsOurs, held_by}
use Rattle.sql_tables.specs.Stored.{tables_of}
use Rattle.zone_lists.specs.declared.zones.ZoneRow.{ZoneRow}

-- whose token this is
pub record TokenRead : Type 0 where
  pub token : List ℕ
  pub caller : Caller

-- the zones of a client, each with the number of its rows
pub record ZonesRead : Type 0 where
  pub client : List ℕ
  pub zones : List (List ℕ × ℕ)

-- the rows of a client's zone
pub record RowsRead : Type 0 where
  pub client : List ℕ
  pub zone : List ℕ
  pub rows : List ZoneRow

-- the answers of each kind that are kept
pub record RecentLists : Type 0 where
  pub tokens : List TokenRead
  pub zones : List ZonesRead
  pub rows : List RowsRead
  -- how many SYSMODs and holds are published, if that was read
  pub counts : Option (ℕ × ℕ)
  -- all holds, if they were read
  pub book : Option (List Hold)

abbrev pub nothing_read : RecentLists
nothing_read = record { tokens = []; zones = []; rows = []; counts = None; book = None }

-- the tables have what was read
abbrev pub IsTokenOf : Tables → TokenRead → Type 0
IsTokenOf tables read = caller_with tables.callers read.token ≡ Some read.caller

abbrev pub AreZonesOf : Tables → ZonesRead → Type 0
AreZonesOf tables read = read.zones ≡ map (λ zone. (zone.0, length zone.1.rows)) (tables.zones read.client)

abbrev pub AreRowsOf : Tables → RowsRead → Type 0
AreRowsOf tables read = Some read.rows ≡ option_map (λ table. table.rows) (zone_named read.zone (tables.zones read.client))

abbrev pub AreCountsOf : Tables → (ℕ × ℕ) → Type 0
AreCountsOf tables counts = (counts.0 ≡ length tables.content.sysmods) × (counts.1 ≡ length tables.content.holds)

abbrev pub IsBookOf : Tables → List Hold → Type 0
IsBookOf tables holds = holds ≡ tables.content.holds

-- each is what the tables have
pub record AreReadFrom (tables : Tables) (recent : RecentLists) : Type 0 where
  pub tokens : (read : TokenRead) → Contains recent.tokens read → IsTokenOf tables read
  pub zones : (read : ZonesRead) → Contains recent.zones read → AreZonesOf tables read
  pub rows : (read : RowsRead) → Contains recent.rows read → AreRowsOf tables read
  pub counts : IfSome recent.counts (AreCountsOf tables)
  pub book : IfSome recent.book (IsBookOf tables)

-- Of an open connection whose database is ours, each is what the committed tables have.
abbrev pub IsRecent : State → RecentLists → Type 0
IsRecent at recent = HasCleanDisk at → IsTrue at.is_open → IsOurs at.committed → AreReadFrom (tables_of (held_by at.committed)) recent

-- nothing but what was kept before
pub record HasNoMore (old new : RecentLists) : Type 0 where
  pub tokens : (read : TokenRead) → Contains new.tokens read → Contains old.tokens read
  pub zones : (read : ZonesRead) → Contains new.zones read → Contains old.zones read
  pub rows : (read : RowsRead) → Contains new.rows read → Contains old.rows read
  pub counts : new.counts ≡ old.counts
  pub book : new.book ≡ old.book

-- those of before, and what was found now, if anything was
abbrev pub HasMore : {Read Found Fault : Type 0} → (Found → Read → Type 0) → Result Found Fault → List Read → List Read → Type 0
HasMore {Read} {Found} Is found old new =
    (read : Read) → Contains new read → Contains old read ⊎ ((answer : Found) × (found ≡ Ok answer) × Is answer read)

-- the same of what is kept once, a part of the answer
abbrev pub HasNew : {Found Kept Fault : Type 0} → (Found → Kept) → Result Found Fault → Option Kept → Option Kept → Type 0
HasNew {Found} part found old new = (new ≡ old) ⊎ ((answer : Found) × (found ≡ Ok answer) × (new ≡ Some (part answer)))
