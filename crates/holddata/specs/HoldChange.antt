-- The change that a statement makes of the holds, and what a list of such changes leaves.
use Rattle.std.specs.Prelude.{◌≡◌, Bool, List, Option, Some, None, find, reverse, option_and_then}
use Rattle.std.specs.List.{filter}
use Rattle.holddata.specs.declared.key.HoldKey.{HoldKey}
use Rattle.holddata.specs.declared.hold.Hold.{Hold}
use Rattle.holddata.specs.declared.hold.HoldChange.{HoldChange}
use Rattle.holddata.specs.declared.hold.HoldChange.TheVariants.{Put, Release}
use Rattle.holddata.specs.HoldKey.{is_same_key}

-- the key that a change names
abbrev pub key_of : HoldChange → HoldKey
key_of (Put hold) = hold.key
key_of (Release key) = key

-- the hold that a change puts, if it is a put
abbrev pub hold_put : HoldChange → Option Hold
hold_put (Put hold) = Some hold
hold_put (Release key) = None

-- whether a change names the key
abbrev pub names : HoldKey → HoldChange → Bool
names key change = is_same_key (key_of change) key

-- the hold that a list of changes leaves under a key: the one that the last change of that key puts
abbrev pub hold_left : List HoldChange → HoldKey → Option Hold
hold_left changes key = option_and_then hold_put (find (names key) (reverse changes))

-- Serves private contracts alone: the same changes in another order; those that name one key keep theirs.
abbrev pub IsRearranged : List HoldChange → List HoldChange → Type 0
IsRearranged changes others = (key : HoldKey) → filter (names key) others ≡ filter (names key) changes
