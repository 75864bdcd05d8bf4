-- No part of what is promised: private contracts cite it. The print of changes in the order of their keys.
use Rattle.std.specs.Prelude.{◌≡◌, ◌⊎◌, Bool, false, List, [], ◌∷◌, Option, None, if◌then◌else◌}
use Rattle.std.specs.List.{cons_option}
use Rattle.std.specs.declared.cmp.Ordering.TheVariants.{Less}
use Rattle.holddata.specs.declared.key.HoldKey.{HoldKey}
use Rattle.holddata.specs.declared.hold.Hold.{Hold}
use Rattle.holddata.specs.declared.hold.HoldChange.{HoldChange}
use Rattle.holddata.specs.HoldKey.{key_cmp, is_same_key}
use Rattle.holddata.specs.HoldChange.{key_of, hold_put}

-- one key stands before another, or is it
abbrev pub IsAtMost : HoldKey → HoldKey → Type 0
IsAtMost a b = (key_cmp a b ≡ Less) ⊎ (a ≡ b)

abbrev pub BeginsNoLower : HoldKey → List HoldChange → Type 0
BeginsNoLower key [] = Unit {0}
BeginsNoLower key (next ∷ changes) = IsAtMost key (key_of next)

-- changes in the order of the keys that they name
abbrev pub AscendByKey : List HoldChange → Type 0
AscendByKey [] = Unit {0}
AscendByKey (change ∷ changes) = BeginsNoLower (key_of change) changes × AscendByKey changes

-- whether the next change names the key
abbrev pub is_renamed : HoldKey → List HoldChange → Bool
is_renamed key [] = false
is_renamed key (next ∷ changes) = is_same_key key (key_of next)

-- the hold that a change puts, unless the next one names its key again
abbrev pub put_last : HoldChange → List HoldChange → Option Hold
put_last change changes = if is_renamed (key_of change) changes then None else hold_put change

-- the holds that are put last
abbrev pub holds_last : List HoldChange → List Hold
holds_last [] = []
holds_last (change ∷ changes) = cons_option (put_last change changes) (holds_last changes)
