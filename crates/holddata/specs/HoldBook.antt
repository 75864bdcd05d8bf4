-- The hold book: holds in the order of their keys. Each key identifies one hold.
use Rattle.std.specs.Prelude.{◌≡◌, ◌≢◌, ℕ, List, [], ◌∷◌, Option, find, map, bytes_eq}
use Rattle.std.specs.BTreeSet.{insert_key}
use Rattle.std.specs.List.{filter, filter_map}
use Rattle.std.specs.List.Sorted.{IsStrictlySortedBy}
use Rattle.holddata.specs.declared.key.HoldKey.{HoldKey}
use Rattle.holddata.specs.declared.hold.Hold.{Hold}
use Rattle.holddata.specs.declared.hold.HoldChange.{HoldChange}
use Rattle.holddata.specs.HoldKey.{key_cmp, is_same_key}
use Rattle.holddata.specs.HoldChange.{key_of, hold_put, hold_left}

abbrev pub keys_in : List Hold → List HoldKey
keys_in book = map (λ hold. hold.key) book

-- the keys ascend, so each comes once at most
abbrev pub IsInKeyOrder : List Hold → Type 0
IsInKeyOrder book = IsStrictlySortedBy key_cmp (keys_in book)

-- the hold under a key
abbrev pub hold_under : List Hold → HoldKey → Option Hold
hold_under book key = find (λ hold. is_same_key key hold.key) book

-- the holds on a SYSMOD, in the order of their keys
abbrev pub holds_on : List Hold → List ℕ → List Hold
holds_on book sysmod = filter (λ hold. bytes_eq sysmod hold.key.sysmod) book

-- the book that one change makes of another: the key that it names has the hold that it puts, or none if it is
-- a release; every other key has the hold that it had
pub record IsChanged (change : HoldChange) (old new : List Hold) : Type 0 where
  pub in_key_order : IsInKeyOrder new
  pub named : hold_under new (key_of change) ≡ hold_put change
  pub others : (key : HoldKey) → key ≢ key_of change → hold_under new key ≡ hold_under old key

-- the book that a list of changes leaves: each key has the hold that the last change of that key puts, and
-- none if that is a release or no change names it
pub record IsLeft (changes : List HoldChange) (book : List Hold) : Type 0 where
  pub in_key_order : IsInKeyOrder book
  pub holds : (key : HoldKey) → hold_under book key ≡ hold_left changes key

-- the keys that changes name, in order, each once
abbrev pub keys_named : List HoldChange → List HoldKey
keys_named [] = []
keys_named (change ∷ changes) = insert_key key_cmp (keys_named changes) (key_of change)

-- the same book, computed: what is left under each key that is named, in order
abbrev pub book_of : List HoldChange → List Hold
book_of changes = filter_map (hold_left changes) (keys_named changes)
