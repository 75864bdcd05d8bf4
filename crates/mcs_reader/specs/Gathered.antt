-- No part of what is promised: private contracts cite it. The operands that are asked for, and those that are passed over.
use Rattle.std.specs.Prelude.{◌≡◌, ℕ, ◌++◌, Bool, true, false, List, [], ◌∷◌, Option, None, Ok, filter}
use Rattle.mcs_reader.specs.Asking.{is_asked, reading_asking}
use Rattle.mcs_reader.specs.Bytes.{bytes_of_each}
use Rattle.mcs_reader.specs.OperandText.{OperandText}
use Rattle.mcs_reader.specs.Pieces.{named_before, no_name}
use Rattle.mcs_reader.specs.Position.{Position}
use Rattle.mcs_reader.specs.ReadLines.{GivesNext}
use Rattle.mcs_reader.specs.Scan.{Stated, on_found, scan, with_list_after, with_operands}
use Rattle.mcs_reader.specs.Unread.{Read}
use Rattle.mcs_reader.specs.declared.asked.Asked.{Asked}
use Rattle.mcs_reader.specs.declared.asked.Asked.TheVariants.{All, Named}
use Rattle.mcs_reader.specs.declared.statement.Statement.{Statement}

-- whether an operand is gathered
abbrev pub is_wanted : Asked → OperandText → Bool
is_wanted All operand = true
is_wanted (Named names) operand = is_asked (bytes_of_each names.now) operand

-- those operands, statements and readings with what is gathered
abbrev pub operands_for : Asked → List OperandText → List OperandText
operands_for All operands = operands
operands_for (Named names) operands = filter (is_asked (bytes_of_each names.now)) operands

abbrev pub statement_for : Asked → Statement → Statement
statement_for asked statement = record statement { operands = operands_for asked statement.operands }

abbrev pub reading_for : Asked → Read → Read
reading_for All reading = reading
reading_for (Named names) reading = reading_asking (bytes_of_each names.now) reading

-- a list may follow the name, and is passed
pub record PassesList (line : ℕ) (name text after : List ℕ) : Type 0 where
  pub list : Option (List (List ℕ))
  pub found : scan line 0 (named_before name) false text ≡ with_list_after list (scan line 0 no_name false after)

-- an operand is there, and is gathered with those before it if it is asked for
pub record GathersOperand (asked : Asked) (line : ℕ) (text : List ℕ) (before now : List OperandText) (after : List ℕ) : Type 0 where
  pub operand : OperandText
  pub found : scan line 0 no_name false text ≡ on_found (with_operands (operand ∷ [])) (scan line 0 no_name false after)
  pub gathered : now ≡ before ++ operands_for asked (operand ∷ [])

-- there are operands up to the period, and these of them are gathered
pub record HasOperands (asked : Asked) (line : ℕ) (text : List ℕ) (gathered : List OperandText) (after : List ℕ) : Type 0 where
  pub operands : List OperandText
  pub found : scan line 0 no_name false text ≡ Ok (record { values = None; operands = operands; rest = after })
  pub gathered_are : gathered ≡ operands_for asked operands

-- the statement that is stated there, with what is gathered of it
pub record States (asked : Asked) (outcome : Stated) (statement : Statement) (after : List ℕ) : Type 0 where
  pub whole : Statement
  pub stated : outcome ≡ Ok (whole, after)
  pub statement_is : statement ≡ statement_for asked whole

-- the statement that comes next, with what is gathered of it
pub record GivesNextFor (asked : Asked) (before : Position) (statement : Statement) (now : Position) : Type 0 where
  pub whole : Statement
  pub gives : GivesNext before whole now
  pub statement_is : statement ≡ statement_for asked whole
