-- That words have at most one line, and that none has a line whose command lacks an argument.
use Rattle.std.proofs.Common.{◌≡◌, ◌∙◌, ℕ, Bool, true, false, if◌then◌else◌, List, [], ◌∷◌, ap, ap₂, inr, Option, Some, None, refl, subst, sym, unwrap_or}
use Rattle.std.proofs.lemmas.Slice.Eq.{bytes_eq-Decides}
use Rattle.std.specs.Str.{bytes_eq}
use Rattle.std.specs.Str.Parse.{digits_value, without_leading_plus}
use Rattle.clap.specs.Words.{Row, Text, all_of, first_of, one_of, subcommand_of}
use Rattle.command_line.specs.Line.{HasOneLine, HasValue, HasValues, IsLineIn, IsLineWith, IsNumberIn, Value, bureau_app, command_of, flag, given, is_set, maybe, number, one, said, several}
use Rattle.command_line.specs.Wanted.{IsUnread, arguments_of, outline, plain, value_among}
use Rattle.command_line.specs.declared.line.Line.{Line}
use Rattle.command_line.specs.declared.line.Line.TheVariants.{Callers, Chain, Check, ErrSysmods, Holds, Init, Migrate, MissingFix, Replay, Serve}
use Rattle.command_line.specs.declared.line.LineFault.{LineFault}

-- a line gives a value for each argument of its command
gives_each : (line : Line) → outline (given line) ≡ arguments_of (command_of line)
gives_each (Holds file) = refl
gives_each (Init store callers sums) = refl
gives_each (Serve port cache connections most_open memory log store) = refl
gives_each (Replay cache callers files) = refl
gives_each (Migrate store) = refl
gives_each (ErrSysmods files) = refl
gives_each (MissingFix files) = refl
gives_each (Chain sysmod files) = refl
gives_each (Callers store callers) = refl
gives_each (Check store explain) = refl

-- ---- words have at most one line

-- the number that a text says
abbrev number_in : Option Text → ℕ
number_in None = 0
number_in (Some text) = digits_value 10 (without_leading_plus text)

-- the value that the matches have for an argument, of this kind and in this range
abbrev value_in : List Row → Text → Value → Value
value_in rows name (one text) = one (unwrap_or (first_of name rows) [])
value_in rows name (several texts) = several (unwrap_or (all_of name rows) [])
value_in rows name (number least most n) = number least most (number_in (one_of name rows))
value_in rows name (flag is) = flag (is_set (first_of name rows))
value_in rows name (maybe text) = maybe (first_of name rows)

abbrev values_in : List Row → List (Text × Value) → List (Text × Value)
values_in rows [] = []
values_in rows ((name, value) ∷ more) = (name, value_in rows name value) ∷ values_in rows more

number_is : (least most : ℕ) (text : Option Text) (n : ℕ) → IsNumberIn least most text n → n ≡ number_in text
number_is least most None n is = absurd is
number_is least most (Some text) n is = is.0.1

value_is : (rows : List Row) (name : Text) (value : Value) → HasValue rows name value → value ≡ value_in rows name (plain value)
value_is rows name (one text) is = ap one (sym (ap (λ (found : Option Text). unwrap_or found []) is))
value_is rows name (several texts) is = ap several (sym (ap (λ (found : Option (List Text)). unwrap_or found []) is))
value_is rows name (number least most n) is = ap (λ (k : ℕ). number least most k) (number_is least most (one_of name rows) n is)
value_is rows name (flag set) is = ap flag is
value_is rows name (maybe text) is = ap maybe (sym is)

values_are : (rows : List Row) (values : List (Text × Value)) → HasValues rows values → values ≡ values_in rows (outline values)
values_are rows [] are = refl
values_are rows ((name, value) ∷ more) are =
    ap₂ (λ (v : Value) (rest : List (Text × Value)). (name, v) ∷ rest) (value_is rows name value are.0) (values_are rows more are.1)

given_is : (rows : List Row) (line : Line) → HasValues rows (given line) → given line ≡ values_in rows (arguments_of (command_of line))
given_is rows line are = values_are rows (given line) are ∙ ap (values_in rows) (gives_each line)

-- two lines of one command with the same matches say the same
one_with : (name : Text) (rows : List Row) (line other : Line) → IsLineWith name rows line → IsLineWith name rows other → said line ≡ said other
one_with name rows line other is also =
    let command : command_of line ≡ command_of other = sym is.0 ∙ also.0 in
    ap₂ (λ (name : Text) (values : List (Text × Value)). (name, values)) command
    (given_is rows line is.1 ∙ ap (λ (name : Text). values_in rows (arguments_of name)) command ∙ sym (given_is rows other also.1))

one_in : (found : Option (Text × List Row)) (line other : Line) → IsLineIn found line → IsLineIn found other → said line ≡ said other
one_in None line other is also = absurd is
one_in (Some (name, rows)) line other is also = one_with name rows line other is also

pub one_line : (words : List Text) → HasOneLine words
one_line words line other is also = one_in (subcommand_of bureau_app words) line other is also

-- ---- where the matches lack an argument

-- the matches have no value for an argument that must be given, of this kind and in this range
abbrev pub Lack : List Row → Text → Value → Type 0
Lack rows name (one text) = first_of name rows ≡ None
Lack rows name (several texts) = all_of name rows ≡ None
Lack rows name (number least most n) = (n : ℕ) → IsNumberIn least most (one_of name rows) n → ⊥
Lack rows name (flag is) = ⊥
Lack rows name (maybe text) = ⊥

has_none : (rows : List Row) (name : Text) (value : Value) → HasValue rows name value → Lack rows name (plain value) → ⊥
has_none rows name (one text) has lack = let no : None ≡ Some text = sym lack ∙ has in cc
has_none rows name (several texts) has lack = let no : None ≡ Some texts = sym lack ∙ has in cc
has_none rows name (number least most n) has lack = lack n has
has_none rows name (flag is) has lack = lack
has_none rows name (maybe text) has lack = lack

module _ (rows : List Row) (name : Text) (kind : Value) (lack : Lack rows name kind) where
  lacks_first : (same : Bool) (other : Text) (value : Value) (more : List (Text × Value)) → bytes_eq other name ≡ same
      → (if same then Some (plain value) else value_among name (outline more)) ≡ Some kind
      → HasValue rows other value → (value_among name (outline more) ≡ Some kind → ⊥) → ⊥
  lacks_first true other value more same wanted has rest =
      let kinds : plain value ≡ kind = cc in
      has_none rows name value (subst (λ (named : Text). HasValue rows named value) ((bytes_eq-Decides other name).0 same) has)
      (subst (λ (of : Value). Lack rows name of) (sym kinds) lack)
  lacks_first false other value more same wanted has rest = rest wanted

  lacks_one : (values : List (Text × Value)) → value_among name (outline values) ≡ Some kind → HasValues rows values → ⊥
  lacks_one [] wanted has = cc
  lacks_one ((other, value) ∷ more) wanted has =
      lacks_first (bytes_eq other name) other value more refl wanted has.0 (λ wants. lacks_one more wants has.1)

-- where the matches lack an argument that each line of a command has a value for, they have no line of it
pub unread : (command name : Text) (kind : Value) (rows : List Row) (fault : LineFault) → value_among name (arguments_of command) ≡ Some kind
    → Lack rows name kind → IsUnread command rows fault
unread command name kind rows fault wanted lack =
    inr (λ line is. lacks_one rows name kind lack (given line)
    (subst (λ (values : List (Text × Value)). value_among name values ≡ Some kind) (ap arguments_of is.0 ∙ sym (gives_each line)) wanted) is.1)
