-- What is gathered of operands, statements and readings.
use Rattle.std.proofs.Common.{◌≡◌, ℕ, true, false, cond, ◌||◌, List, [], ◌∷◌, ◌++◌, Some, Ok, Err, refl, sym, ◌∙◌, ap, append_assoc, inl, inr}
use Rattle.std.specs.Borrow.{Bor}
use Rattle.std.specs.List.{list_any}
use Rattle.std.specs.Str.{str_eq_ignore_ascii_case}
use Rattle.std.proofs.lemmas.List.Elements.{filter-append}
use Rattle.mcs_reader.specs.Asking.{asking, is_asked, reading_asking}
use Rattle.mcs_reader.specs.Bytes.{bytes_of_each}
use Rattle.mcs_reader.specs.Gathered.{is_wanted, operands_for, reading_for, statement_for}
use Rattle.mcs_reader.specs.Byte.{is_name_byte}
use Rattle.mcs_reader.specs.OperandText.{OperandText}
use Rattle.mcs_reader.specs.Pieces.{named_before, no_name}
use Rattle.mcs_reader.specs.Position.{role_at}
use Rattle.mcs_reader.specs.Run.{run, after_run}
use Rattle.mcs_reader.specs.Scan.{Found, Outcome, on_found, scan, with_name, with_operands}
use Rattle.mcs_reader.specs.declared.byte.ByteRole.TheVariants.{Name}
use Rattle.mcs_reader.proofs.OutsideFacts.{outside_name}
use Rattle.mcs_reader.specs.Unread.{Read, with_statements}
use Rattle.mcs_reader.specs.declared.asked.Asked.{Asked}
use Rattle.mcs_reader.specs.declared.asked.Asked.TheVariants.{All, Named}
use Rattle.faults.specs.Refusal.{IsRefusal}
use Rattle.mcs_reader.specs.declared.fault.McsFault.{McsFault}
use Rattle.mcs_reader.specs.declared.fault.McsFault.TheVariants.{Memory}
use Rattle.mcs_reader.specs.declared.statement.Statement.{Statement}

-- a name among slices, and among their bytes
pub any_named : (text : List ℕ) (names : List (Bor (List ℕ))) → list_any (λ asked. str_eq_ignore_ascii_case text asked.now) names ≡ list_any (λ asked. str_eq_ignore_ascii_case text asked) (bytes_of_each names)
any_named text [] = refl
any_named text (name ∷ names) = ap (λ b. str_eq_ignore_ascii_case text name.now || b) (any_named text names)

pub none_for : (asked : Asked) → operands_for asked [] ≡ []
none_for All = refl
none_for (Named names) = refl

-- one operand
pub wanted_for : (asked : Asked) (operand : OperandText) → is_wanted asked operand ≡ true → operands_for asked (operand ∷ []) ≡ operand ∷ []
wanted_for All operand is = refl
wanted_for (Named names) operand is = ap (λ b. cond b (operand ∷ []) []) is

pub unwanted_for : (asked : Asked) (operand : OperandText) → is_wanted asked operand ≡ false → operands_for asked (operand ∷ []) ≡ []
unwanted_for All operand is = cc
unwanted_for (Named names) operand is = ap (λ b. cond b (operand ∷ []) []) is

-- operands one after the other
pub both_for : (asked : Asked) (xs ys : List OperandText) → operands_for asked (xs ++ ys) ≡ operands_for asked xs ++ operands_for asked ys
both_for All xs ys = refl
both_for (Named names) xs ys = filter-append (is_asked (bytes_of_each names.now)) xs ys

-- ---- readings

asking_front : (names : List (List ℕ)) (statement : Statement) (reading : Read)
    → reading_asking names (with_statements (statement ∷ []) reading) ≡ with_statements (asking names statement ∷ []) (reading_asking names reading)
asking_front names statement (Ok statements) = refl
asking_front names statement (Err fault) = refl

all_statement : (statement : Statement) → statement_for All statement ≡ statement
all_statement statement = refl

-- a statement in front
pub front_for : (asked : Asked) (statement : Statement) (reading : Read)
    → reading_for asked (with_statements (statement ∷ []) reading) ≡ with_statements (statement_for asked statement ∷ []) (reading_for asked reading)
front_for All statement reading = refl
front_for (Named names) statement reading = asking_front (bytes_of_each names.now) statement reading

pub end_for : (asked : Asked) → reading_for asked (Ok []) ≡ Ok []
end_for All = refl
end_for (Named names) = refl

pub fault_for : (asked : Asked) (fault : McsFault) → reading_for asked (Err fault) ≡ Err fault
fault_for All fault = refl
fault_for (Named names) fault = refl

-- ---- one operand of a text

-- where a name stands, what is found is what is found after it, with the name
pub named : (line : ℕ) (text name now : List ℕ) → role_at text ≡ Some Name → name ≡ run is_name_byte text → now ≡ after_run is_name_byte text
    → scan line 0 no_name false text ≡ on_found (with_name name) (scan line 0 (named_before name) false now)
named line text name now role is_name is_after =
    (outside_name line no_name text role).0
    ∙ ap (λ w. on_found (with_name w) (scan line 0 (named_before w) false (after_run is_name_byte text))) (sym is_name)
    ∙ ap (λ t. on_found (with_name name) (scan line 0 (named_before name) false t)) (sym is_after)

-- operands in front of others
pub operands_then : (front next : List OperandText) (outcome : Outcome) → on_found (with_operands front) (on_found (with_operands next) outcome) ≡ on_found (with_operands (front ++ next)) outcome
operands_then front next (Ok found) = ap (λ all. Ok (record { values = found.values; operands = all; rest = found.rest })) (sym (append_assoc front next found.operands))
operands_then front next (Err fault) = refl

-- ---- refusals

-- one that is told of one outcome, told of another
pub refusal_so : (P Q : McsFault → Type 0) (fault : McsFault) → (P fault → Q fault) → IsRefusal Memory P fault → IsRefusal Memory Q fault
refusal_so P Q fault so (inl memory) = inl memory
refusal_so P Q fault so (inr told) = inr (so told)

pub refusal_of : (a b : Outcome) (fault : McsFault) → a ≡ b → IsRefusal Memory (λ f. b ≡ Err f) fault → IsRefusal Memory (λ f. a ≡ Err f) fault
refusal_of a b fault is told = refusal_so (λ f. b ≡ Err f) (λ f. a ≡ Err f) fault (λ e. is ∙ e) told

pub refusal_on : (a b : Outcome) (change : Found → Found) (fault : McsFault) → a ≡ on_found change b → IsRefusal Memory (λ f. b ≡ Err f) fault → IsRefusal Memory (λ f. a ≡ Err f) fault
refusal_on a b change fault is told = refusal_so (λ f. b ≡ Err f) (λ f. a ≡ Err f) fault (λ e. is ∙ ap (on_found change) e) told
