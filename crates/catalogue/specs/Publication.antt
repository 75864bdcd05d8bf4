-- The content that a publication leaves, and that all publications so far leave.
use Rattle.std.specs.Prelude.{◌≡◌, ℕ, List, ◌++◌, map, find, reverse, Option, if◌then◌else◌}
use Rattle.std.specs.List.{filter_map, list_any}
use Rattle.std.specs.Option.{option_or}
use Rattle.holddata.specs.declared.key.HoldKey.{HoldKey}
use Rattle.holddata.specs.declared.hold.HoldChange.TheVariants.{Put}
use Rattle.holddata.specs.HoldChange.{names, hold_left}
use Rattle.holddata.specs.HoldBook.{book_of, hold_under}
use Rattle.catalogue.specs.declared.sysmod.Sysmod.{Sysmod}
use Rattle.catalogue.specs.declared.change.Change.{Change}
use Rattle.catalogue.specs.Changes.{records_in, hold_changes_in}
use Rattle.catalogue.specs.Content.{Content, nothing, ids_in, is_of, record_of, IsInOrder}
use Rattle.catalogue.specs.Ids.{in_order}

-- the last record of a list with this id
abbrev pub last_of : List Sysmod → List ℕ → Option Sysmod
last_of sysmods id = find (is_of id) (reverse sysmods)

-- for each id the last record of a list, in ascending order of the ids
abbrev pub catalogue_of : List Sysmod → List Sysmod
catalogue_of sysmods = filter_map (last_of sysmods) (in_order (ids_in sysmods))

-- the content after a publication: for each id the last record among the old and the published ones, and the book that the
-- old holds and then the changes of them leave
abbrev pub after : Content → List Change → Content
after content changes = record {
  sysmods = catalogue_of (content.sysmods ++ records_in changes);
  holds = book_of (map Put content.holds ++ hold_changes_in changes);
}

-- the content that all changes so far leave
abbrev pub content_of : List Change → Content
content_of changes = after nothing changes

-- The same by id and by key. A published record replaces the whole old one. An id that the publication doesn't name keeps
-- its record, and a key that it doesn't name keeps its hold.
pub record IsAfter (old : Content) (changes : List Change) (new : Content) : Type 0 where
  pub in_order : IsInOrder new
  pub records : (id : List ℕ) → record_of new id ≡ option_or (last_of (records_in changes) id) (record_of old id)
  pub holds : (key : HoldKey) → hold_under new.holds key
      ≡ (if list_any (names key) (hold_changes_in changes) then hold_left (hold_changes_in changes) key else hold_under old.holds key)
