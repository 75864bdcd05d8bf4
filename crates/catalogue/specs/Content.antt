-- The published content, as plain data: the catalogue of SYSMODs and the hold book.
use Rattle.std.specs.Prelude.{ℕ, ◌==◌, Bool, List, [], map, filter, find, Option, Contains, IsSomeAnd}
use Rattle.std.specs.List.{list_any}
use Rattle.holddata.specs.declared.hold.Hold.{Hold}
use Rattle.holddata.specs.declared.key.Kind.TheVariants.{ErrorHold}
use Rattle.holddata.specs.HoldKey.{kind_order}
use Rattle.holddata.specs.HoldBook as book
use Rattle.holddata.specs.HoldBook.{IsInKeyOrder}
use Rattle.catalogue.specs.declared.sysmod.Sysmod.{Sysmod}
use Rattle.catalogue.specs.Ids.{same_id, Ascend}

-- the records of the catalogue in ascending order of their ids, and the holds in the order of their keys
pub record Content : Type 0 where
  pub sysmods : List Sysmod
  pub holds : List Hold

-- before anything is published
abbrev pub nothing : Content
nothing = record { sysmods = []; holds = [] }

-- the ids of records
abbrev pub ids_in : List Sysmod → List (List ℕ)
ids_in sysmods = map (λ sysmod. sysmod.id) sysmods

-- whether a record is that of an id
abbrev pub is_of : List ℕ → Sysmod → Bool
is_of id sysmod = same_id sysmod.id id

-- whether SUP of a record names an id
abbrev pub sup_names : List ℕ → Sysmod → Bool
sup_names id sysmod = list_any (same_id id) sysmod.sup

-- ---- words by id

-- the ids that are catalogued
abbrev pub ids_of : Content → List (List ℕ)
ids_of content = ids_in content.sysmods

abbrev pub IsCatalogued : Content → List ℕ → Type 0
IsCatalogued content id = Contains (ids_of content) id

-- the record of an id, if it is catalogued
abbrev pub record_of : Content → List ℕ → Option Sysmod
record_of content id = find (is_of id) content.sysmods

-- one id is catalogued, and its SUP names the other (IBM z/OS SMP/E Reference, `++VER`, operand SUP)
abbrev pub Supersedes : Content → List ℕ → List ℕ → Type 0
Supersedes content superseder superseded = IsSomeAnd (record_of content superseder) (λ sysmod. Contains sysmod.sup superseded)

-- the catalogued ids that supersede an id directly
abbrev pub superseders : Content → List ℕ → List (List ℕ)
superseders content id = ids_in (filter (sup_names id) content.sysmods)

-- the holds on an id
abbrev pub holds_on : Content → List ℕ → List Hold
holds_on content id = book.holds_on content.holds id

-- the reasons of the ERROR holds on an id
abbrev pub error_reasons : Content → List ℕ → List (List ℕ)
error_reasons content id =
    map (λ hold. hold.key.reason) (filter (λ hold. kind_order hold.key.kind == kind_order ErrorHold) (holds_on content id))

-- records ascend by id and holds by key, each once
pub record IsInOrder (content : Content) : Type 0 where
  pub sysmods : Ascend (ids_of content)
  pub holds : IsInKeyOrder content.holds
