-- The changes of a publication.
use Rattle.std.specs.Prelude.{List, Option, Some, None}
use Rattle.std.specs.List.{filter_map}
use Rattle.holddata.specs.declared.hold.HoldChange.{HoldChange}
use Rattle.catalogue.specs.declared.sysmod.Sysmod.{Sysmod}
use Rattle.catalogue.specs.declared.change.Change.{Change}
use Rattle.catalogue.specs.declared.change.Change.TheVariants.{Whole, OfHold}

-- the record that a change publishes, if it publishes one
abbrev pub record_in : Change → Option Sysmod
record_in (Whole sysmod) = Some sysmod
record_in (OfHold hold) = None

-- the change that it makes of the holds, if it makes one
abbrev pub hold_change_in : Change → Option HoldChange
hold_change_in (Whole sysmod) = None
hold_change_in (OfHold hold) = Some hold

-- the records that changes publish, in order
abbrev pub records_in : List Change → List Sysmod
records_in changes = filter_map record_in changes

-- the changes of the holds among changes, in order
abbrev pub hold_changes_in : List Change → List HoldChange
hold_changes_in changes = filter_map hold_change_in changes
