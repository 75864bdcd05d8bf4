-- Several rows that one statement inserts.
use Rattle.std.specs.Prelude.{◌≡◌, ◌+◌, ◌++◌, ◌*◌, ◌/◌, ◌%◌, if◌then◌else◌, ℕ, Bool, false, true, List, [], ◌∷◌, None, Ok, flat_map, length, map, nat_lt}
use Rattle.std.specs.List.{list_any, range_with_len}
use Rattle.sqlite.specs.Edit.{next_rowid}
use Rattle.sqlite.specs.Effect.{value_rows}
use Rattle.sqlite.specs.Rows.{stamped}
use Rattle.sqlite.specs.Table.{Table}
use Rattle.sqlite_typing.specs.Types.{accepts_terms}
use Rattle.sqlite.specs.Command.{Command}
use Rattle.sqlite.specs.Command.TheVariants.{Insert}
use Rattle.sqlite.specs.Listing.{understood}
use Rattle.sqlite.specs.Order.{Row}
use Rattle.sqlite.specs.Schema.{Schema}
use Rattle.sqlite.specs.Source.TheVariants.{Values}
use Rattle.sqlite.specs.Term.{Term, lit, col}
use Rattle.sqlite.specs.declared.types.Value.TheVariants.{Int, Null}
use Rattle.sqlite_resolve.specs.declared.compiled.Compiled.{Compiled}
use Rattle.sql_tables.specs.Changes.{replaced}
use Rattle.sql_tables.specs.Stored.{Stored}

-- parameters are written ?1 to ?99
abbrev pub parameter : ℕ → List ℕ
parameter number = if nat_lt number 10 then 0x3F ∷ (0x30 + number) ∷ [] else 0x3F ∷ (0x30 + number / 10) ∷ (0x30 + number % 10) ∷ []

-- their names, up to this number
abbrev pub parameters_to : ℕ → List (List ℕ)
parameters_to number = map parameter (range_with_len 1 number)

-- a text that is one statement, with parameters of these names
abbrev pub statement_by : Command → List (List ℕ) → List ℕ → Compiled
statement_by command names text = record {
  command = command;
  returning = None;
  names = names;
  formats = [];
  start = 0;
  end = length text;
  tail = length text;
}

-- under this schema the text is this command, with parameters of these names
pub record MeansBy (schema : Schema) (text : List ℕ) (command : Command) (names : List (List ℕ)) : Type 0 where
  pub statement : understood schema text ≡ Ok (statement_by command names text)

-- so many rows that begin with the same parameters, so many of them, and go on with so many of their own each
abbrev pub rows_alike : ℕ → ℕ → ℕ → List Term
rows_alike shared own count =
    flat_map (λ k. lit Null ∷ map (col 0) (range_with_len 0 shared ++ range_with_len (shared + own * k) own)) (range_with_len 0 count)

-- these rows go into the table at an index; their rowids are chosen
abbrev pub insert_alike : ℕ → ℕ → ℕ → ℕ → Command
insert_alike table_index shared own count = Insert table_index (Values (rows_alike shared own count) (1 + (shared + own)))

-- ---- No part of what is promised: private contracts cite it.

-- rows before their rowids are chosen, as a statement has them
abbrev pub unnumbered : List Row → List Row
unnumbered all = map (λ values. Null ∷ values) all

-- a row under the next number
abbrev pub with_next : List Row → Row → Row
with_next rows values = Int (next_rowid rows) ∷ values

-- parameters that make these rows of a table, by the terms of a statement with so many of them
pub record IsGiven (table : Table) (terms : List Term) (width : ℕ) (names : List (List ℕ)) (params : Row) (all : List Row) : Type 0 where
  pub counted : length params ≡ length names
  pub accepted : accepts_terms terms (stamped table params) ≡ true
  pub source : value_rows (stamped table params) width (length terms / width) terms ≡ unnumbered all

-- the parameters of a statement for so many things are as many as it has, of types that it takes, and make their rows: first
-- those of a key, then those of each thing
abbrev pub AreGiven : {X : Type 0} → Table → ℕ → ℕ → Row → (X → Row) → (X → Row) → List X → Type 0
AreGiven table shared own key values_of row_of things =
    let params = key ++ flat_map values_of things in
    let terms = rows_alike shared own (length things) in
    let width = 1 + (shared + own) in
    ◌≡◌ {A = ℕ × (Bool × List Row)}
    (length params, (accepts_terms terms (stamped table params), value_rows (stamped table params) width (length terms / width) terms))
    (length (parameters_to (shared + own * length things)), (true, unnumbered (map row_of things)))

-- none of these is told among the rows, nor comes twice: each is told by such a test, and makes such a row
abbrev pub AreNew : {X : Type 0} → (X → Row → Bool) → (X → Row) → List X → List Row → Type 0
AreNew is made [] rows = Unit {0}
AreNew is made (one ∷ news) rows = (list_any (is one) rows ≡ false) × AreNew is made news (rows ++ made one ∷ [])

-- it is so if the rows of a key went
abbrev pub AreNewInPlace : {X : Type 0} → (X → Row → Bool) → (X → Row) → List X → (Row → Bool) → (Stored → List Row) → Type 0
AreNewInPlace is made news has rows = (stored : Stored) → AreNew is made news (replaced has [] (rows stored))
