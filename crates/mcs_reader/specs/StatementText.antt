-- One statement's text up to its period: its head, which names the verb, and the pieces after.
use Rattle.std.specs.Prelude.{◌≡◌, ℕ, List, [], ◌∷◌, ◌++◌, Option, Some, None, option_map, option_and_then}
use Rattle.mcs_reader.specs.Verb.{Head, spell_head, IsHead, verb_named}
use Rattle.mcs_reader.specs.Pieces.{Pieces, a_name, spell, IsOutside, take_list}
use Rattle.mcs_reader.specs.Id.{id_of}
use Rattle.mcs_reader.specs.declared.statement.Verb.{Verb}
use Rattle.mcs_reader.specs.declared.statement.Verb.TheVariants.{Hold, Release, Func, Ptf, Apar, Usermod, Ver, Cond}

pub record StatementText : Type 0 where
  pub head : Head
  pub verb : Verb
  pub pieces : Pieces

abbrev pub spell_statement : StatementText → List ℕ
spell_statement text = spell_head text.head ++ spell text.pieces

-- The head names the verb, and after it stand names and lists. The verb is a name too, and not COMMENT:
-- the first list may belong to it.
pub record IsStatementText (text : StatementText) : Type 0 where
  pub head : IsHead text.head (spell text.pieces)
  pub verb : verb_named text.head.name ≡ Some text.verb
  pub pieces : IsOutside a_name text.pieces

-- the value of a list that has just one
abbrev pub sole : List (List ℕ) → Option (List ℕ)
sole [] = None
sole (value ∷ []) = Some value
sole (value ∷ other ∷ more) = None

-- the id that a list of just one value is, if the value is one
abbrev pub the_id : List (List ℕ) → Option (Option (List ℕ))
the_id values = option_map Some (option_and_then id_of (sole values))

-- The subject that the values of a verb's list give, if they are as the verb wants them: just one, an id. VER takes
-- any, and none of them is its subject. IF wants no list.
abbrev pub subject_by : Verb → List (List ℕ) → Option (Option (List ℕ))
subject_by Hold values = the_id values
subject_by Release values = the_id values
subject_by Func values = the_id values
subject_by Ptf values = the_id values
subject_by Apar values = the_id values
subject_by Usermod values = the_id values
subject_by Ver values = Some None
subject_by Cond values = None

-- the subject of a statement without a list: IF alone may be one, and has none
abbrev pub subject_alone : Verb → Option (Option (List ℕ))
subject_alone Hold = None
subject_alone Release = None
subject_alone Func = None
subject_alone Ptf = None
subject_alone Apar = None
subject_alone Usermod = None
subject_alone Ver = None
subject_alone Cond = Some None

-- the subject that a verb has by the list after it, if it has one
abbrev pub subject_of : Verb → Option (List (List ℕ)) → Option (Option (List ℕ))
subject_of verb None = subject_alone verb
subject_of verb (Some values) = subject_by verb values

abbrev pub subject_in : StatementText → Option (Option (List ℕ))
subject_in text = subject_of text.verb (take_list text.pieces)
