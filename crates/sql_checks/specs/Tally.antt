-- How much a store has, and the text of that.
use Rattle.std.specs.Prelude.{◌≡◌, ◌++◌, ℕ, List, [], ◌∷◌, Some, codes, decimal, length, map, sum_by}
use Rattle.columns.specs.Columns.{text_of as text_in}
use Rattle.mcs_reader.specs.Id.{text_of}
use Rattle.bureau_store.specs.Caller.{caller_named}
use Rattle.bureau_store.specs.Tables.{Tables}
use Rattle.bureau_store.specs.declared.caller.CallerRow.{CallerRow}
use Rattle.sqlite.specs.Effect.{Database}
use Rattle.sql_tables.specs.Ours.{IsOurs, held_by}
use Rattle.sql_tables.specs.Stored.{tables_of}
use Rattle.sql_checks.specs.declared.tallies.CallerLine.{CallerLine}
use Rattle.sql_checks.specs.declared.tallies.CallerTally.{CallerTally}
use Rattle.sql_checks.specs.declared.tallies.StoreTally.{StoreTally}

-- the number of zones under a name, that of all their rows, and the number of the last change
abbrev pub tally_of : Tables → List ℕ → CallerTally
tally_of tables name = record {
  zones = length (tables.zones name);
  rows = sum_by (λ zone. length zone.1.rows) (tables.zones name);
  last = (tables.last (caller_named name)).number;
}

-- a caller with its amounts
abbrev pub line_of : Tables → CallerRow → CallerLine
line_of tables caller = record { name = caller.name; has = tally_of tables caller.name }

-- the numbers of SYSMODs and of holds, and how much each of these callers has
pub record IsTallyOf (tables : Tables) (callers : List CallerRow) (tally : StoreTally) : Type 0 where
  pub sysmods : tally.sysmods ≡ length tables.content.sysmods
  pub holds : tally.holds ≡ length tables.content.holds
  pub callers_have : tally.callers.items ≡ map (line_of tables) callers

-- No part of what is promised: private contracts cite it. The same of these callers alone, if the database is ours.
abbrev pub HasTallied : List CallerRow → Database → List CallerLine → Type 0
HasTallied callers database lines = IsOurs database → lines ≡ map (line_of (tables_of (held_by database))) callers

-- ---- the text

-- a caller, the number of its zones, that of their rows, and the number of its last change
abbrev pub tally_columns : List (ℕ × List ℕ)
tally_columns = (1, codes "CALLER") ∷ (10, codes "ZONES") ∷ (17, codes "ROWS") ∷ (29, codes "LAST") ∷ []

abbrev pub tally_fields : CallerLine → List (List ℕ)
tally_fields line = text_of line.name ∷ decimal line.has.zones ∷ decimal line.has.rows ∷ decimal line.has.last ∷ []

abbrev pub tally_title : ℕ → ℕ → ℕ → List ℕ
tally_title callers sysmods holds =
    codes "STORE VERSION 2 CALLERS " ++ decimal callers ++ codes " SYSMODS " ++ decimal sysmods ++ codes " HOLDS " ++ decimal holds

abbrev pub tally_text : StoreTally → List ℕ
tally_text tally =
    text_in tally_columns (Some (tally_title (length tally.callers.items) tally.sysmods tally.holds)) (map tally_fields tally.callers.items)
