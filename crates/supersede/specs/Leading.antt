-- The law above `Giving`: one SYSMOD gives another exactly if a list of SYSMODs leads from one to the other, each
-- of which supersedes the next (IBM z/OS SMP/E Reference, `++VER`, operand SUP).
use Rattle.std.specs.Prelude.{◌≡◌, ◌⊎◌, ℕ, true, List, [], ◌∷◌}
use Rattle.zone_lists.specs.Installed.{is_installed, is_listed}
use Rattle.zone_lists.specs.declared.zones.ZoneRow.{ZoneRow}
use Rattle.catalogue.specs.Content.{Content, IsCatalogued, Supersedes}

-- a list leads from one id to another: the one supersedes the first of the list, each of the list supersedes the
-- next, and the last is the other; with an empty list both are one
abbrev pub IsWay : Content → List ℕ → List (List ℕ) → List ℕ → Type 0
IsWay content from [] to = from ≡ to
IsWay content from (next ∷ later) to = Supersedes content from next × IsWay content next later to

-- one id is catalogued, and some list leads from it to the other
pub record Gives (content : Content) (giver id : List ℕ) : Type 0 where
  pub catalogued : IsCatalogued content giver
  pub way : List (List ℕ)
  pub leads : IsWay content giver way id

-- a SYSMOD that is installed in a zone and gives an id
pub record InstalledGiver (content : Content) (rows : List ZoneRow) (id : List ℕ) : Type 0 where
  pub giver : List ℕ
  pub installed : is_installed rows giver ≡ true
  pub gives : Gives content giver id

-- an id is there in a zone: it is listed, or a SYSMOD that is installed there gives it
abbrev pub IsThere : Content → List ZoneRow → List ℕ → Type 0
IsThere content rows id = (is_listed rows id ≡ true) ⊎ InstalledGiver content rows id
