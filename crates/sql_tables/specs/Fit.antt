-- The values that are written are fit to be read again: ids are ids, and lists ascend if the bureau's lists
-- do.
use Rattle.std.specs.Prelude.{◌≡◌, ℕ, true, List, IsTrue, IfSome, false, is_some}
use Rattle.std.specs.List.{AllByRecursion, list_all}
use Rattle.holddata.specs.Categories.{are_categories}
use Rattle.holddata.specs.Date.{is_date}
use Rattle.holddata.specs.declared.hold.Hold.{Hold}
use Rattle.holddata.specs.declared.hold.HoldChange.TheVariants.{Put, Release}
use Rattle.mcs_reader.specs.Id.{IsId}
use Rattle.catalogue.specs.Conditional.{CondsAscend}
use Rattle.catalogue.specs.Ids.{Ascend}
use Rattle.catalogue.specs.declared.change.Change.{Change}
use Rattle.catalogue.specs.declared.change.Change.TheVariants.{Whole, OfHold}
use Rattle.catalogue.specs.declared.conditional.CondNeed.{CondNeed}
use Rattle.catalogue.specs.declared.sysmod.Sysmod.{Sysmod}
use Rattle.zone_lists.specs.Pattern.{is_pattern}
use Rattle.zone_lists.specs.ZoneList.{RowsAscend}
use Rattle.zone_lists.specs.declared.zones.ZoneRow.{ZoneRow}
use Rattle.bureau_store.specs.Caller.{is_publisher}
use Rattle.bureau_store.specs.Tables.{Tables, zone_named}
use Rattle.bureau_store.specs.declared.caller.Caller.{Caller}
use Rattle.bureau_store.specs.declared.caller.Caller.TheVariants.{Publisher, Client}
use Rattle.bureau_store.specs.Effect.{Effect, publication, zone_put, zone_dropped, received_put, patterns_put}

-- a row of a zone
pub record IsZoneRow (row : ZoneRow) : Type 0 where
  pub sysmod : IsId row.sysmod

-- the rows of a zone
pub record AreZoneRows (rows : List ZoneRow) : Type 0 where
  pub each : AllByRecursion IsZoneRow rows
  pub ascend : RowsAscend rows

abbrev pub AreIds : List (List ℕ) → Type 0
AreIds ids = AllByRecursion IsId ids

abbrev pub IsCond : CondNeed → Type 0
IsCond cond = IsId cond.fmid × IsId cond.need

-- a record of the catalogue
pub record IsRecord (sysmod : Sysmod) : Type 0 where
  pub id : IsId sysmod.id
  pub fmids : AreIds sysmod.fmids
  pub pre : AreIds sysmod.pre
  pub req : AreIds sysmod.req
  pub conds : AllByRecursion IsCond sysmod.conds
  pub conds_ascend : CondsAscend sysmod.conds
  pub sup : AreIds sysmod.sup
  pub ascend : Ascend sysmod.sup

-- a hold
pub record IsHold (hold : Hold) : Type 0 where
  pub sysmod : IsId hold.key.sysmod
  pub reason : IsId hold.key.reason
  pub fmid : IfSome hold.fmid IsId
  pub class : IfSome hold.class IsId
  pub resolver : IfSome hold.resolver IsId
  pub dated : IfSome hold.dated (λ number. IsTrue (is_date number))
  pub categories : IsTrue (are_categories hold.categories)

-- a change that is published; a release needs nothing
abbrev pub IsFitChange : Change → Type 0
IsFitChange (Whole sysmod) = IsRecord sysmod
IsFitChange (OfHold (Put hold)) = IsHold hold
IsFitChange (OfHold (Release key)) = Unit {0}

-- the values that an effect writes
abbrev pub IsFit : Effect → Type 0
IsFit (publication changes) = AllByRecursion IsFitChange changes
IsFit (zone_put zone rows) = IsId zone × AreZoneRows rows
IsFit (zone_dropped zone) = IsId zone
IsFit (received_put ids) = AreIds ids
IsFit (patterns_put zone patterns) = IsId zone × (list_all is_pattern patterns ≡ true)

-- a caller's name is an id, and no client has the publisher's
abbrev pub IsNamed : Caller → Type 0
IsNamed Publisher = Unit {0}
IsNamed (Client name) = IsId name × (is_publisher name ≡ false)

-- the publisher publishes, and clients do all else
abbrev pub IsOwn : Caller → Effect → Type 0
IsOwn Publisher (publication changes) = Unit {0}
IsOwn Publisher (zone_put zone rows) = ⊥
IsOwn Publisher (zone_dropped zone) = ⊥
IsOwn Publisher (received_put ids) = ⊥
IsOwn Publisher (patterns_put zone patterns) = ⊥
IsOwn (Client name) (publication changes) = ⊥
IsOwn (Client name) (zone_put zone rows) = Unit {0}
IsOwn (Client name) (zone_dropped zone) = Unit {0}
IsOwn (Client name) (received_put ids) = Unit {0}
IsOwn (Client name) (patterns_put zone patterns) = Unit {0}

-- patterns are put into a zone that is there
abbrev pub IsAsked : Caller → Effect → Tables → Type 0
IsAsked (Client name) (patterns_put zone patterns) tables =
    is_some (zone_named zone (tables.zones name)) ≡ true
IsAsked (Client name) (publication changes) tables = Unit {0}
IsAsked (Client name) (zone_put zone rows) tables = Unit {0}
IsAsked (Client name) (zone_dropped zone) tables = Unit {0}
IsAsked (Client name) (received_put ids) tables = Unit {0}
IsAsked Publisher effect tables = Unit {0}

-- a change that writes fit values, into whatever tables
pub record CanBeWritten (caller : Caller) (effect : Effect) : Type 0 where
  pub named : IsNamed caller
  pub own : IsOwn caller effect
  pub fit : IsFit effect

-- a change that can be made of these tables
pub record CanBeMade (caller : Caller) (effect : Effect) (tables : Tables) : Type 0 where
  pub named : IsNamed caller
  pub own : IsOwn caller effect
  pub fit : IsFit effect
  pub asked : IsAsked caller effect tables
