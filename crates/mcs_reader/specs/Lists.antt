-- No part of what is promised: private contracts cite it. How a list is read.
use Rattle.std.specs.Prelude.{◌≡◌, ℕ, ◌+◌, ◌<◌, ◌≤◌, false, List, [], ◌∷◌, Option, Result, Ok, Err, length}
use Rattle.mcs_reader.specs.Pieces.{no_name, a_name, name_comment}
use Rattle.mcs_reader.specs.Scan.{Outcome, after_raw, on_found, scan, with_list, with_list_after, with_values}
use Rattle.mcs_reader.specs.StatementText.{sole, subject_of}
use Rattle.mcs_reader.specs.declared.fault.McsFault.TheVariants.{Unbalanced}
use Rattle.mcs_reader.specs.declared.statement.Verb.{Verb}

-- what is found after a list of COMMENT, if the list ends
abbrev pub after_raw_list : ℕ → Result (List ℕ) ℕ → Outcome
after_raw_list line (Ok rest) = on_found (with_list []) (scan line 0 no_name false rest)
after_raw_list line (Err depth) = Err (Unbalanced line)

-- `after` stands after the parenthesis that opens a list, be it a list of COMMENT or of another name
pub record OpensList (line : ℕ) (text after : List ℕ) : Type 0 where
  pub of_name : scan line 0 a_name false text ≡ scan line 1 no_name false after
  pub of_comment : scan line 0 name_comment false text ≡ after_raw_list line (after_raw 0 after)

-- the value stands in front of what is found after it, if at least one parenthesis is open
pub record GivesValue (line depth : ℕ) (text value : List ℕ) (depth_after : ℕ) (after : List ℕ) : Type 0 where
  pub found : scan line depth no_name false text ≡ on_found (with_values (value ∷ [])) (scan line depth_after no_name false after)
  pub still_open : 0 < depth_after
  pub no_deeper : depth_after + length after ≤ depth + length text
  pub shorter : length after < length text

-- the list has this value, if it has just one
pub record HasSoleValue (line : ℕ) (text : List ℕ) (value : Option (List ℕ)) (after : List ℕ) : Type 0 where
  pub values : List (List ℕ)
  pub found : scan line 1 no_name false text ≡ on_found (with_list values) (scan line 0 no_name false after)
  pub value_is : value ≡ sole values

-- A list may follow the verb, and this is the subject that the verb has by it, if it has one.
pub record HasSubject (verb : Verb) (line : ℕ) (text : List ℕ) (subject : Option (Option (List ℕ))) (after : List ℕ) : Type 0 where
  pub values : Option (List (List ℕ))
  pub found : scan line 0 a_name false text ≡ with_list_after values (scan line 0 no_name false after)
  pub subject_is : subject ≡ subject_of verb values
