-- No part of what is promised: private contracts cite it. A plain machine that goes over a statement's text once, with a
-- count of open parentheses. Contracts say that the code does as the machine does, and proofs/ shows that the machine does
-- as Pieces and Stop say.
use Rattle.std.specs.Prelude.{ℕ, zero, suc, ◌-◌, ◌==◌, ◌&&◌, Bool, false, if◌then◌else◌, List, [], ◌∷◌, ◌++◌, length, drop, Option, Some, None, Result, Ok, Err, option_map, unwrap_or}
use Rattle.mcs_reader.specs.Byte.{is_name_byte, line_end}
use Rattle.mcs_reader.specs.Comment.{role_here, ends_comment}
use Rattle.mcs_reader.specs.declared.byte.ByteRole.TheVariants.{Gap, Comment, Name, Open, Close, Period, Other}
use Rattle.mcs_reader.specs.Line.{begins_statement}
use Rattle.mcs_reader.specs.Pieces.{Before, no_name, a_name, name_comment, named_before}
use Rattle.mcs_reader.specs.Run.{run, value_run}
use Rattle.mcs_reader.specs.OperandText.{OperandText}
use Rattle.mcs_reader.specs.declared.fault.McsFault.{McsFault}
use Rattle.mcs_reader.specs.declared.fault.McsFault.TheVariants.{NoPeriod, BadVerbSubject, Unbalanced, BadByte}
use Rattle.mcs_reader.specs.StatementText.{subject_of}
use Rattle.mcs_reader.specs.declared.statement.Verb.{Verb}
use Rattle.mcs_reader.specs.declared.statement.Statement.{Statement}

-- The parts of a statement from a position to its period: the values of the list that is open there, or that follows there
-- before any name; the operands that follow; the text after the period.
pub record Found : Type 0 where
  pub values : Option (List (List ℕ))
  pub operands : List OperandText
  pub rest : List ℕ

abbrev pub Outcome : Type 0
Outcome = Result Found McsFault

-- what is found, with a change
abbrev pub on_found : (Found → Found) → Outcome → Outcome
on_found change (Ok found) = Ok (change found)
on_found change (Err fault) = Err fault

-- the operand of this name, and the list that was found for it
abbrev pub with_name : List ℕ → Found → Found
with_name name found = record {
  values = None;
  operands = record { name = name; values = unwrap_or found.values [] } ∷ found.operands;
  rest = found.rest;
}

-- values in front of those of the open list
abbrev pub with_values : List (List ℕ) → Found → Found
with_values vs found = record { values = option_map (λ more. vs ++ more) found.values; operands = found.operands; rest = found.rest }

-- the list that ends here
abbrev pub with_list : List (List ℕ) → Found → Found
with_list vs found = record { values = Some vs; operands = found.operands; rest = found.rest }

-- after a closing parenthesis: at depth 0 the list is at its end
abbrev pub closing : ℕ → Outcome → Outcome
closing zero outcome = on_found (with_list []) outcome
closing (suc depth) outcome = outcome

-- a byte that can't stand outside lists
abbrev pub stray : ℕ → Bool → List ℕ → McsFault
stray line begun text = if begun && begins_statement text then NoPeriod line else BadByte line

-- the text after the first */, if there is one
abbrev pub after_comment : List ℕ → Option (List ℕ)
after_comment [] = None
after_comment (b ∷ text) = if ends_comment (b ∷ text) then Some (drop 1 text) else after_comment text

-- The text after the parenthesis that closes a list of COMMENT, in which this many more are open; or the number that are
-- open at the text's end.
abbrev pub after_raw : ℕ → List ℕ → Result (List ℕ) ℕ
after_raw depth [] = Err depth
after_raw zero (b ∷ text) = if b == 40 then after_raw 1 text else if b == 41 then Ok text else after_raw zero text
after_raw (suc depth) (b ∷ text) = if b == 40 then after_raw (suc (suc depth)) text else if b == 41 then after_raw depth text else after_raw (suc depth) text

-- after a comment or a list of COMMENT, if it ends: the number of bytes that are passed to there
abbrev pub past : ℕ → List ℕ → Option (List ℕ) → (ℕ → Outcome) → Outcome
past line text None next = Err (Unbalanced line)
past line text (Some rest) next = next (length text - length rest)

abbrev pub past_raw : ℕ → List ℕ → Result (List ℕ) ℕ → (ℕ → Outcome) → Outcome
past_raw line text (Err depth) next = Err (Unbalanced line)
past_raw line text (Ok rest) next = on_found (with_list []) (next (length text - length rest))

-- an opening parenthesis outside lists, by what stands before it
abbrev pub opening : ℕ → Before → List ℕ → Outcome → (ℕ → Outcome) → Outcome
opening line no_name text inside next = Err (BadByte line)
opening line a_name text inside next = inside
opening line name_comment text inside next = past_raw line text (after_raw zero text) next

-- The statement that begins on `line`, from a position on that lies `skip` bytes further, at this depth.
-- Outside lists `before` says what stands before the position, and `begun` whether the position begins a line.
unfoldable pub pass : ℕ → ℕ → ℕ → Before → Bool → List ℕ → Outcome
pass line skip zero before begun [] = Err (NoPeriod line)
pass line skip (suc depth) before begun [] = Err (Unbalanced line)
pass line (suc skip) depth before begun (b ∷ text) = pass line skip depth before begun text
pass line zero zero before begun (b ∷ text) = elim (role_here b text) [
  | Gap ↦ pass line zero zero before (b == line_end) text
  | Comment ↦ past line text (after_comment (drop 1 text)) (λ skip. pass line skip zero before false text)
  | Name ↦ on_found (with_name (run is_name_byte (b ∷ text))) (pass line (length (run is_name_byte text)) zero (named_before (run is_name_byte (b ∷ text))) false text)
  | Open ↦ opening line before text (pass line zero 1 no_name false text) (λ skip. pass line skip zero no_name false text)
  | Close ↦ Err (Unbalanced line)
  | Period ↦ Ok (record { values = None; operands = []; rest = text })
  | Other ↦ Err (stray line begun (b ∷ text))
]
pass line zero (suc depth) before begun (b ∷ text) = elim (role_here b text) [
  | Gap ↦ pass line zero (suc depth) no_name false text
  | Comment ↦ past line text (after_comment (drop 1 text)) (λ skip. pass line skip (suc depth) no_name false text)
  | Open ↦ pass line zero (suc (suc depth)) no_name false text
  | Close ↦ closing depth (pass line zero depth no_name false text)
  | Name ↦ on_found (with_values (value_run (b ∷ text) ∷ [])) (pass line (length (value_run text)) (suc depth) no_name false text)
  | Period ↦ on_found (with_values (value_run (b ∷ text) ∷ [])) (pass line (length (value_run text)) (suc depth) no_name false text)
  | Other ↦ on_found (with_values (value_run (b ∷ text) ∷ [])) (pass line (length (value_run text)) (suc depth) no_name false text)
]

-- from this position on
abbrev pub scan : ℕ → ℕ → Before → Bool → List ℕ → Outcome
scan line depth before begun text = pass line zero depth before begun text

abbrev pub Stated : Type 0
Stated = Result (Statement × List ℕ) McsFault

abbrev pub with_subject : Verb → ℕ → Found → Option (Option (List ℕ)) → Stated
with_subject its_verb line found None = Err (BadVerbSubject line)
with_subject its_verb line found (Some subject) = Ok (record { verb = its_verb; subject = subject; operands = found.operands; line = line }, found.rest)

-- the statement that was found, and the text after its period
abbrev pub stated : Verb → ℕ → Outcome → Stated
stated its_verb line (Err fault) = Err fault
stated its_verb line (Ok found) = with_subject its_verb line found (subject_of its_verb found.values)

-- operands in front of those that were found
abbrev pub with_operands : List OperandText → Found → Found
with_operands front found = record { values = found.values; operands = front ++ found.operands; rest = found.rest }

-- the list that follows a name, if one does
abbrev pub with_list_after : Option (List (List ℕ)) → Outcome → Outcome
with_list_after None outcome = outcome
with_list_after (Some vs) outcome = on_found (with_list vs) outcome
