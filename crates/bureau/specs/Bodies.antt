-- The meaning of a change's body, or the line of its first fault.
use Rattle.std.specs.Prelude.{ℕ, false, List, Option, Some, None, Result, Ok, Err}
use Rattle.faults.specs.FaultText.{text_of}
use Rattle.mcs_reader.specs.McsFault as mcs
use Rattle.mcs_reader.specs.ReadingOf.{reading_of}
use Rattle.mcs_reader.specs.Unread.{Read}
use Rattle.zone_lists.specs.ListFault as list
use Rattle.zone_lists.specs.ZoneList.{zone_rows_of}
use Rattle.zone_lists.specs.ReceivedList.{received_rows_of}
use Rattle.zone_lists.specs.PatternList.{patterns_of}
use Rattle.zone_lists.specs.declared.fault.ListFault.{ListFault}
use Rattle.zone_lists.specs.declared.zones.ZoneRow.{ZoneRow}
use Rattle.catalogue.specs.CatFault as cat
use Rattle.catalogue.specs.Reading.{changes_of, first_fault}
use Rattle.catalogue.specs.declared.change.Change.{Change}
use Rattle.catalogue.specs.declared.fault.CatFault.{CatFault}

-- the changes that statements publish, unless one of them has a fault
abbrev pub unless : Option CatFault → List Change → Result (List Change) (List ℕ)
unless None changes = Ok changes
unless (Some fault) changes = Err (text_of (cat.told fault))

-- The changes that a source of statements publishes, or the line of its first fault. It is read whole: a
-- fault of reading comes before every fault in the meaning of its statements.
abbrev pub published_by : Read → Result (List Change) (List ℕ)
published_by (Ok statements) = unless (first_fault false statements) (changes_of statements)
published_by (Err fault) = Err (text_of (mcs.told fault))

abbrev pub changes_in : List ℕ → Result (List Change) (List ℕ)
changes_in body = published_by (reading_of body)

-- the entries of a list, or the line of its first fault
abbrev pub list_said : {A : Type 0} → Result A ListFault → Result A (List ℕ)
list_said (Ok what) = Ok what
list_said (Err fault) = Err (text_of (list.told fault))

abbrev pub rows_in : List ℕ → Result (List ZoneRow) (List ℕ)
rows_in body = list_said (zone_rows_of body)

abbrev pub ids_in : List ℕ → Result (List (List ℕ)) (List ℕ)
ids_in body = list_said (received_rows_of body)

abbrev pub patterns_in : List ℕ → Result (List (List ℕ)) (List ℕ)
patterns_in body = list_said (patterns_of body)
