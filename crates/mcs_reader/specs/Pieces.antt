-- The pieces of a statement after its verb, and of a list. Lists nest.
use Rattle.std.specs.Prelude.{◌≡◌, ℕ, Bool, true, false, ◌==◌, List, [], ◌∷◌, ◌++◌, Option, Some, None, unwrap_or, codes, IsTrue, if◌then◌else◌}
use Rattle.std.specs.Str.{str_eq_ignore_ascii_case}
use Rattle.mcs_reader.specs.Byte.{role_of, belongs_to_value, is_name_byte, line_end}
use Rattle.mcs_reader.specs.Comment.{begins_comment, somewhere, IsCommentText}
use Rattle.mcs_reader.specs.Raw.{Raw, spell_raw, IsRaw}
use Rattle.mcs_reader.specs.declared.byte.ByteRole.TheVariants.{Gap}
use Rattle.mcs_reader.specs.OperandText.{OperandText}

-- Nothing; or a gap byte, a comment, a word, a list in its parentheses, or the list of an operand
-- COMMENT, and the pieces after it. A word is a name outside lists and a value inside.
pub data Pieces : Type 0 where
  nothing : Pieces
  gap : ℕ → Pieces → Pieces
  comment : List ℕ → Pieces → Pieces
  word : List ℕ → Pieces → Pieces
  list : Pieces → Pieces → Pieces
  raw_list : Raw → Pieces → Pieces

-- the bytes that the pieces stand for
abbrev pub spell : Pieces → List ℕ
spell nothing = []
spell (gap b rest) = b ∷ spell rest
spell (comment body rest) = 47 ∷ 42 ∷ (body ++ 42 ∷ 47 ∷ spell rest)
spell (word w rest) = w ++ spell rest
spell (list inside rest) = 40 ∷ (spell inside ++ 41 ∷ spell rest)
spell (raw_list raw rest) = 40 ∷ (spell_raw raw ++ 41 ∷ spell rest)

abbrev pub begins_word : Pieces → Bool
begins_word nothing = false
begins_word (gap b rest) = false
begins_word (comment body rest) = false
begins_word (word w rest) = true
begins_word (list inside rest) = false
begins_word (raw_list raw rest) = false

-- some bytes, and each of this kind
abbrev pub is_word : (ℕ → Bool) → List ℕ → Bool
is_word test [] = false
is_word test (b ∷ []) = test b
is_word test (b ∷ c ∷ w) = if test b then is_word test (c ∷ w) else false

abbrev pub is_value_byte : ℕ → Bool
is_value_byte b = belongs_to_value (role_of b)

-- The pieces of a list: values, which go as far as they can, and lists, with gaps and comments between.
-- No comment begins in a value.
abbrev pub IsInside : Pieces → Type 0
IsInside nothing = Unit {0}
IsInside (gap b rest) = (role_of b ≡ Gap) × IsInside rest
IsInside (comment body rest) = IsCommentText body × IsInside rest
IsInside (word w rest) = IsTrue (is_word is_value_byte w) × (somewhere begins_comment w ≡ false) × (begins_word rest ≡ false) × IsInside rest
IsInside (list inside rest) = IsInside inside × IsInside rest
IsInside (raw_list raw rest) = ⊥

-- What stands before a position outside lists, gaps and comments aside: no name, a name, or the name COMMENT.
pub data Before : Type 0 where
  no_name : Before
  a_name : Before
  name_comment : Before

-- names are compared without regard to ASCII case
unfoldable pub is_comment_name : List ℕ → Bool
is_comment_name name = str_eq_ignore_ascii_case name (codes "COMMENT")

abbrev pub named_before : List ℕ → Before
named_before name = if is_comment_name name then name_comment else a_name

-- The pieces of a statement outside lists: names, which go as far as they can, and lists, with gaps and comments between. A
-- list belongs to the name before it, gaps and comments aside. If that is COMMENT, only parentheses count in the list.
-- `before` says what stands before these pieces.
abbrev pub IsOutside : Before → Pieces → Type 0
IsOutside before nothing = Unit {0}
IsOutside before (gap b rest) = (role_of b ≡ Gap) × IsOutside before rest
IsOutside before (comment body rest) = IsCommentText body × IsOutside before rest
IsOutside before (word w rest) = IsTrue (is_word is_name_byte w) × (begins_word rest ≡ false) × IsOutside (named_before w) rest
IsOutside before (list inside rest) = (before ≡ a_name) × IsInside inside × IsOutside no_name rest
IsOutside before (raw_list raw rest) = (before ≡ name_comment) × IsRaw raw × IsOutside no_name rest

-- what stands before the position after the pieces
abbrev pub ends_with : Before → Pieces → Before
ends_with before nothing = before
ends_with before (gap b rest) = ends_with before rest
ends_with before (comment body rest) = ends_with before rest
ends_with before (word w rest) = ends_with (named_before w) rest
ends_with before (list inside rest) = ends_with no_name rest
ends_with before (raw_list raw rest) = ends_with no_name rest

-- whether what follows the pieces begins a line
abbrev pub ends_line : Bool → Pieces → Bool
ends_line begun nothing = begun
ends_line begun (gap b rest) = ends_line (b == line_end) rest
ends_line begun (comment body rest) = ends_line false rest
ends_line begun (word w rest) = ends_line false rest
ends_line begun (list inside rest) = ends_line false rest
ends_line begun (raw_list raw rest) = ends_line false rest

-- the values of a list, at any depth in it
abbrev pub values : Pieces → List (List ℕ)
values nothing = []
values (gap b rest) = values rest
values (comment body rest) = values rest
values (word w rest) = w ∷ values rest
values (list inside rest) = values inside ++ values rest
values (raw_list raw rest) = values rest

-- The values of the list at the beginning of the pieces, gaps and comments aside, if one stands there. The list of an
-- operand COMMENT has none.
abbrev pub take_list : Pieces → Option (List (List ℕ))
take_list nothing = None
take_list (gap b rest) = take_list rest
take_list (comment body rest) = take_list rest
take_list (word w rest) = None
take_list (list inside rest) = Some (values inside)
take_list (raw_list raw rest) = Some []

-- each name is an operand, with the values of the list that belongs to it
abbrev pub operands : Pieces → List OperandText
operands nothing = []
operands (gap b rest) = operands rest
operands (comment body rest) = operands rest
operands (word w rest) = record { name = w; values = unwrap_or (take_list rest) [] } ∷ operands rest
operands (list inside rest) = operands rest
operands (raw_list raw rest) = operands rest
