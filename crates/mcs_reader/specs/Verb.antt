-- A statement's verb, and the head of a statement: ++, blanks and the verb.
use Rattle.std.specs.Prelude.{◌≡◌, ℕ, Bool, false, List, [], ◌∷◌, ◌++◌, Option, Some, None, IsTrue, codes, if◌then◌else◌}
use Rattle.std.specs.List.{list_all}
use Rattle.std.specs.Str.{str_eq_ignore_ascii_case}
use Rattle.mcs_reader.specs.Byte.{is_blank, is_name_byte}
use Rattle.mcs_reader.specs.declared.statement.Verb.{Verb}
use Rattle.mcs_reader.specs.declared.statement.Verb.TheVariants.{Hold, Release, Func, Ptf, Apar, Usermod, Ver, Cond}

-- The verb of this name, without regard to ASCII case. A statement with any other name is skipped.
unfoldable pub verb_named : List ℕ → Option Verb
verb_named name =
    if str_eq_ignore_ascii_case name (codes "HOLD") then Some Hold
    else if str_eq_ignore_ascii_case name (codes "RELEASE") then Some Release
    else if str_eq_ignore_ascii_case name (codes "FUNCTION") then Some Func
    else if str_eq_ignore_ascii_case name (codes "PTF") then Some Ptf
    else if str_eq_ignore_ascii_case name (codes "APAR") then Some Apar
    else if str_eq_ignore_ascii_case name (codes "USERMOD") then Some Usermod
    else if str_eq_ignore_ascii_case name (codes "VER") then Some Ver
    else if str_eq_ignore_ascii_case name (codes "IF") then Some Cond
    else None

-- whether a text begins with such a byte
abbrev pub begins_with : (ℕ → Bool) → List ℕ → Bool
begins_with test [] = false
begins_with test (b ∷ text) = test b

pub record Head : Type 0 where
  pub blanks : List ℕ
  pub name : List ℕ

abbrev pub spell_head : Head → List ℕ
spell_head head = 43 ∷ 43 ∷ (head.blanks ++ head.name)

-- the blanks and the name, which may be missing, go as far as they can
pub record IsHead (head : Head) (after : List ℕ) : Type 0 where
  pub blanks : IsTrue (list_all is_blank head.blanks)
  pub name : IsTrue (list_all is_name_byte head.name)
  pub all_blanks : begins_with is_blank (head.name ++ after) ≡ false
  pub all_name : begins_with is_name_byte after ≡ false
