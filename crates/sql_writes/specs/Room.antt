-- The room that a change takes: the length of what it writes, the number of rows that it adds, and the numbers that the
-- tables have left.
use Rattle.std.specs.Prelude.{◌≡◌, ◌<◌, ◌+◌, ◌^◌, ◌&&◌, ℕ, pos, negsuc, Bool, true, false, List, length, map, nat_le, sum_by}
use Rattle.std.specs.List.{AllByRecursion, join_with_byte, list_all}
use Rattle.mcs_reader.specs.Id.{text_of}
use Rattle.holddata.specs.declared.hold.HoldChange.TheVariants.{Put, Release}
use Rattle.catalogue.specs.declared.change.Change.{Change}
use Rattle.catalogue.specs.declared.change.Change.TheVariants.{Whole, OfHold}
use Rattle.bureau_store.specs.Effect.{Effect, publication, zone_put, zone_dropped, received_put, patterns_put}
use Rattle.bureau_store.specs.Tables.{LastChange}
use Rattle.sqlite.specs.Effect.{Database}
use Rattle.sqlite.specs.Order.{Row}
use Rattle.sqlite.specs.Tree.{Trees, rowid}
use Rattle.sqlite.specs.declared.types.Value.{Value}
use Rattle.sqlite.specs.declared.types.Value.TheVariants.{Blob, Int, Null, Real, Text}
use Rattle.sql_texts.specs.Schema.{tables}
use Rattle.sql_tables.specs.Writing.{IsKnown}

-- ---- lengths

-- A row has at most a billion bytes. Three texts or replies of this length fit into one, with all else.
abbrev pub is_short : List ℕ → Bool
is_short text = nat_le (length text) 300000000

-- so are texts with commas between
abbrev pub are_short : List (List ℕ) → Bool
are_short texts = is_short (join_with_byte 0x2C texts)

-- and the texts of ids
abbrev pub are_short_ids : List (List ℕ) → Bool
are_short_ids ids = are_short (map text_of ids)

abbrev pub is_short_change : Change → Bool
is_short_change (Whole sysmod) =
    are_short_ids sysmod.fmids && (are_short_ids sysmod.pre && are_short_ids sysmod.req)
is_short_change (OfHold (Put hold)) = are_short hold.categories
is_short_change (OfHold (Release key)) = true

-- each list that a change writes into one column is short
abbrev pub is_short_effect : Effect → Bool
is_short_effect (publication changes) = list_all is_short_change changes
is_short_effect (zone_put zone rows) = true
is_short_effect (zone_dropped zone) = true
is_short_effect (received_put ids) = are_short_ids ids
is_short_effect (patterns_put zone patterns) = are_short patterns

-- ---- how many rows are added

abbrev pub rows_of_change : Change → ℕ
rows_of_change (Whole sysmod) = 1 + (length sysmod.sup + length sysmod.conds)
rows_of_change (OfHold (Put hold)) = 1
rows_of_change (OfHold (Release key)) = 0

abbrev pub rows_made : Effect → ℕ
rows_made (publication changes) = sum_by rows_of_change changes
rows_made (zone_put zone rows) = 1 + length rows
rows_made (zone_dropped zone) = 0
rows_made (received_put ids) = 1
rows_made (patterns_put zone patterns) = 1

-- with the row of the caller's last change
abbrev pub rows_of : Effect → ℕ
rows_of effect = rows_made effect + 1

-- ---- the numbers of rows

-- whether a value is a number between 0 and this one
abbrev pub is_up_to : ℕ → Value → Bool
is_up_to most (Int (pos n)) = nat_le n most
is_up_to most (Int (negsuc n)) = false
is_up_to most (Text t) = false
is_up_to most (Blob b) = false
is_up_to most (Real x) = false
is_up_to most Null = false

-- the rows of one table have such numbers
abbrev pub are_up_to : ℕ → List Row → Bool
are_up_to most rows = list_all (λ row. is_up_to most (rowid row)) rows

-- and those of each table
abbrev pub AreUpTo : ℕ → Trees → Type 0
AreUpTo most trees = AllByRecursion (λ table. are_up_to most (trees table.tree) ≡ true) tables

-- ---- what a change has to fit into

-- a change with its number and reply that can be written into tables whose rows have numbers up to this one
pub record HasRoom (effect : Effect) (last : LastChange) (most : ℕ) : Type 0 where
  pub numbered : 0 < last.number
  pub reply : is_short last.reply ≡ true
  pub lists : is_short_effect effect ≡ true
  pub few : most + rows_of effect < 2 ^ 63

-- the bureau's tables, with numbers up to this one
abbrev pub IsRoomy : ℕ → Database → Type 0
IsRoomy most database = IsKnown database × AreUpTo most database.trees
