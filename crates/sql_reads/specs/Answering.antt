-- The answer of a text that reads, over a connection at rest. The definitions on one row, and on names, serve private
-- contracts alone.
use Rattle.std.specs.Prelude.{◌≡◌, ◌⊎◌, ℕ, List, [], ◌∷◌, IsTrue, Option, Some, None, option_map, Result, IfOk, Vec}
use Rattle.std.specs.declared.alloc.Global.{Global}
use Rattle.sqlite.specs.Query.{IsAnswer, Query}
use Rattle.sqlite.specs.Schema.{Schema}
use Rattle.sqlite.specs.State.{HasCleanDisk, State}
use Rattle.sqlite_value.specs.Order.{Row}
use Rattle.sqlite_value.specs.declared.value.Value.{Value}
use Rattle.sqlite_value.specs.declared.value.Value.TheVariants.{Text}
use Rattle.mcs_reader.specs.Id.{IsId, text_of}
use Rattle.bureau_store.specs.declared.caller.Caller.{Caller}
use Rattle.sql_tables.specs.Stored.{name_of}
use Rattle.sql_tables.specs.Reading.{HasFailed, OnlyReads}
use Rattle.sql_texts.specs.Meaning.{Reads}
use Rattle.sql_texts.specs.Schema.{bureau}
use Rattle.sql_reads.specs.Version.{MeansNothing, Shows, Withholds}
use Rattle.sql_reads.specs.declared.fault.ReadFault.{ReadFault}
use Rattle.sql_reads.specs.declared.fault.ReadFault.TheVariants.{Device}

-- the text is a query of the bureau's tables
abbrev pub IsRead : List ℕ → Type 0
IsRead text = (query : Query) × (names : List (List ℕ)) × (parameters : ℕ) × Reads bureau text query names parameters

-- The rows are the answer of the text's query over the committed rows.
pub record Answers {Fault : Type 0} (text : List ℕ) (params : Row) (old new : State) (result : Result (Vec Row Global) Fault) : Type 0 where
  pub reads : OnlyReads old new
  pub is_open : IfOk result (λ rows. HasCleanDisk new → IsTrue new.is_open)
  pub told : IfOk result (λ rows. HasCleanDisk new → (schema : Schema) → old.committed.schema ≡ schema
      → (query : Query) (names : List (List ℕ)) (parameters : ℕ) → Reads schema text query names parameters
      → IsAnswer query old.committed.trees params rows.items)
  pub shown : IfOk result (λ rows. HasCleanDisk new → Shows text params old.committed rows.items)

-- Why a text is refused: memory ran out; or the device has failed; or the text means or shows nothing here.
abbrev pub IsRefusedFor : List ℕ → Row → State → State → ReadFault → Type 0
IsRefusedFor text params old new fault =
    fault ≡ Device → HasFailed old new ⊎ (MeansNothing text old.committed ⊎ Withholds old.step_limit text params old.committed)

-- the meaning of one row, or nothing if there is no row; no answer if the row has no meaning, or if there are more
abbrev pub one_of : {A : Type 0} → (Row → Option A) → List Row → Option (Option A)
one_of read [] = Some None
one_of read (row ∷ []) = option_map Some (read row)
one_of read (row ∷ other ∷ rows) = None

-- the value is the text of the name under which the caller's last change is kept
abbrev pub IsNameOf : Caller → Value → Type 0
IsNameOf caller value = (name : List ℕ) × IsId name × (name_of caller ≡ Some name) × (value ≡ Text (text_of name))
