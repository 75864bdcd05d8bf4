-- No part of what is promised: private contracts cite it. The position of the reader in the text.
use Rattle.std.specs.Prelude.{◌≡◌, ℕ, ◌+◌, ◌^◌, ◌<◌, ◌≤◌, ◌==◌, List, [], ◌∷◌, length, drop, Option, Some, None, option_map, if◌then◌else◌}
use Rattle.mcs_reader.specs.Byte.{is_blank, is_name_byte, line_end}
use Rattle.mcs_reader.specs.Comment.{role_here}
use Rattle.mcs_reader.specs.Run.{run, after_run}
use Rattle.mcs_reader.specs.declared.byte.ByteRole.{ByteRole}
use Rattle.mcs_reader.specs.Line.{line_ends, begins_statement}
use Rattle.mcs_reader.specs.Verb.{verb_named}
use Rattle.mcs_reader.specs.declared.statement.Verb.{Verb}

-- the text from a position on, and the line that the position lies on
pub record Position : Type 0 where
  pub text : List ℕ
  pub line : ℕ

-- line numbers and counts of parentheses stay in range up to the text's end
pub record HasHeadroom (position : Position) : Type 0 where
  pub lines : position.line + line_ends position.text < 2 ^ 32
  pub depth : length position.text < 2 ^ 63

-- one position stands after another, or is it: the lines passed and the line ends ahead keep their sum
pub record IsAfter (now before : Position) : Type 0 where
  pub text : length now.text ≤ length before.text
  pub lines : now.line + line_ends now.text ≡ before.line + line_ends before.text
  pub passed : before.line ≤ now.line

-- what the first byte does, within its line
abbrev pub role_at : List ℕ → Option ByteRole
role_at [] = None
role_at (b ∷ text) = if b == line_end then None else Some (role_here b text)

-- the text after the first line
abbrev pub after_line : List ℕ → List ℕ
after_line [] = []
after_line (b ∷ text) = if b == line_end then text else after_line text

-- after ++: the name, and the text after it
abbrev pub name_after : List ℕ → List ℕ
name_after text = run is_name_byte (after_run is_blank text)

abbrev pub text_after : List ℕ → List ℕ
text_after text = after_run is_name_byte (after_run is_blank text)

-- the verb that a line's head names, and the text after the head
unfoldable pub verb_at : List ℕ → Option (Verb × List ℕ)
verb_at text = if begins_statement text then option_map (λ verb. (verb, text_after (drop 2 text))) (verb_named (name_after (drop 2 text))) else None
