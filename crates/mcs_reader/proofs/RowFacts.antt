-- What a row of segments spells is read as its statements, and after it a statement that something
-- stops as its fault.
use Rattle.std.proofs.Common.{◌≡◌, ℕ, zero, suc, ◌+◌, ◌≤◌, ◌<◌, true, false, cond, List, [], ◌∷◌, ◌++◌, length, drop, Some, None, option_map, refl, ◌∙◌, ap, subst, arith, append_assoc, length-append}
use Rattle.std.proofs.lemmas.Bool.Decides.{nat_tests}
use Rattle.std.specs.List.{list_all}
use Rattle.mcs_reader.specs.Byte.{is_blank, is_name_byte, line_end}
use Rattle.mcs_reader.specs.Line.{line_ends, begins_statement}
use Rattle.mcs_reader.specs.Verb.{Head, spell_head, verb_named, begins_with}
use Rattle.mcs_reader.specs.Pieces.{spell}
use Rattle.mcs_reader.specs.StatementText.{StatementText, IsStatementText, spell_statement}
use Rattle.mcs_reader.specs.Segment.{IsLine, IsPassed, AllPassed, spell_lines}
use Rattle.mcs_reader.specs.declared.statement.Verb.{Verb}
use Rattle.mcs_reader.specs.Position.{name_after, text_after, verb_at}
use Rattle.mcs_reader.specs.Run.{run, after_run}
use Rattle.mcs_reader.proofs.RunFacts.{run_is, after_run_is, begins_with-append, after_line-line, IsLine-append, IsLine-of, in_line, line_ends-append, line_ends-line, begins_statement-line}
use Rattle.mcs_reader.specs.ReadLines.{at_verb, read_lines}
use Rattle.mcs_reader.proofs.ReadFacts.{read_lines-step}

-- heads

pub verb_at-head : (head : Head) (after : List ℕ) → list_all is_blank head.blanks ≡ true → list_all is_name_byte head.name ≡ true
    → begins_with is_blank (head.name ++ after) ≡ false → begins_with is_name_byte after ≡ false
    → verb_at (spell_head head ++ after) ≡ option_map (λ what. (what, after)) (verb_named head.name)
unfolding verb_at
verb_at-head head after blanks name no_blank no_name =
    let assoc : (head.blanks ++ head.name) ++ after ≡ head.blanks ++ (head.name ++ after) = append_assoc head.blanks head.name after in
    let after_blanks : after_run is_blank ((head.blanks ++ head.name) ++ after) ≡ head.name ++ after =
    ap (after_run is_blank) assoc ∙ after_run_is is_blank head.blanks (head.name ++ after) blanks no_blank in
    let name_is : name_after ((head.blanks ++ head.name) ++ after) ≡ head.name =
    ap (run is_name_byte) after_blanks ∙ run_is is_name_byte head.name after name no_name in
    let text_is : text_after ((head.blanks ++ head.name) ++ after) ≡ after =
    ap (after_run is_name_byte) after_blanks ∙ after_run_is is_name_byte head.name after name no_name in
    ap (λ t. option_map (λ (what : Verb). (what, t)) (verb_named (name_after ((head.blanks ++ head.name) ++ after)))) text_is
    ∙ ap (λ n. option_map (λ (what : Verb). (what, after)) (verb_named n)) name_is

pub verb_at-no_statement : (text : List ℕ) → begins_statement text ≡ false → verb_at text ≡ None
unfolding verb_at
verb_at-no_statement text none = ap (λ t. cond t (option_map (λ (what : Verb). (what, text_after (drop 2 text))) (verb_named (name_after (drop 2 text)))) None) none

-- a verb's name is not empty
pub no_empty_verb : (what : Verb) → verb_named [] ≡ Some what → ⊥
unfolding verb_named
no_empty_verb what h = cc

blank_in_line : (b : ℕ) → is_blank b ≡ true → in_line b ≡ true
blank_in_line b h = grind (arith, nat_tests)

name_in_line : (b : ℕ) → is_name_byte b ≡ true → in_line b ≡ true
name_in_line b h = grind (arith, nat_tests)

pub IsLine-head : (head : Head) → list_all is_blank head.blanks ≡ true → list_all is_name_byte head.name ≡ true → IsLine (spell_head head)
IsLine-head head blanks name =
    IsLine-append head.blanks head.name (IsLine-of is_blank head.blanks blank_in_line blanks) (IsLine-of is_name_byte head.name name_in_line name)

-- the head of a statement's text goes no further, whatever stands after its pieces, if no name does
pub verb_at-statement : (text : StatementText) (after : List ℕ) → IsStatementText text → begins_with is_name_byte after ≡ false
    → verb_at (spell_statement text ++ after) ≡ Some (text.verb, spell text.pieces ++ after)
verb_at-statement text after is no_name =
    ap verb_at (append_assoc (spell_head text.head) (spell text.pieces) after)
    ∙ verb_at-head text.head (spell text.pieces ++ after) is.head.blanks is.head.name
    (not_blank text.head.name is.verb is.head.all_blanks)
    (begins_with-append is_name_byte (spell text.pieces) after is.head.all_name no_name)
    ∙ ap (option_map (λ what. (what, spell text.pieces ++ after))) is.verb where
      not_blank : (name : List ℕ) → verb_named name ≡ Some text.verb → begins_with is_blank (name ++ spell text.pieces) ≡ false
          → begins_with is_blank (name ++ (spell text.pieces ++ after)) ≡ false
      not_blank [] what none = absurd (no_empty_verb text.verb what)
      not_blank (b ∷ name) what none = none

-- one step at a text that isn't empty

pub step : (n line : ℕ) (text : List ℕ) → 0 < length text → length text ≤ n
    → (m : ℕ) × (n ≡ suc m) × (read_lines n line text ≡ at_verb (read_lines m) line text (verb_at text))
step zero line text some fits = absurd (omega arith)
step (suc n) line [] some fits = absurd (omega arith)
step (suc n) line (b ∷ text) some fits = (n, refl, read_lines-step n line b text)

-- a line that begins no statement
pub step-passed : (n line : ℕ) (passed_line text : List ℕ) → IsPassed passed_line → length (passed_line ++ line_end ∷ text) ≤ n
    → (m : ℕ) × (length text ≤ m) × (read_lines n line (passed_line ++ line_end ∷ text) ≡ read_lines m (line + 1) text)
step-passed n line passed_line text is fits =
    let size = length-append passed_line (line_end ∷ text) in
    let first = step n line (passed_line ++ line_end ∷ text) (omega arith) fits in (
      first.0,
      omega arith,
      first.2
          ∙ ap (at_verb (read_lines first.0) line (passed_line ++ line_end ∷ text)) (verb_at-no_statement (passed_line ++ line_end ∷ text) (begins_statement-line passed_line text ∙ is.no_statement))
          ∙ ap (read_lines first.0 (line + 1)) (after_line-line passed_line text is.one_line),
    )

pub steps-passed : (n line : ℕ) (lines : List (List ℕ)) (text : List ℕ) → AllPassed lines → length (spell_lines lines ++ text) ≤ n
    → (m : ℕ) × (length text ≤ m) × (read_lines n line (spell_lines lines ++ text) ≡ read_lines m (line + line_ends (spell_lines lines)) text)
steps-passed n line [] text all fits = (n, fits, ap (λ l. read_lines n l text) (omega arith))
steps-passed n line (first ∷ lines) text all fits =
    let assoc : spell_lines (first ∷ lines) ++ text ≡ first ++ line_end ∷ (spell_lines lines ++ text) =
    append_assoc (first ++ line_end ∷ []) (spell_lines lines) text ∙ append_assoc first (line_end ∷ []) (spell_lines lines ++ text) in
    let once = step-passed n line first (spell_lines lines ++ text) all.0 (let P : List ℕ → Type 0 = λ t. length t ≤ n in subst P assoc fits) in
    let others = steps-passed once.0 (line + 1) lines text all.1 once.1 in
    let ends : line_ends (spell_lines (first ∷ lines)) ≡ 1 + line_ends (spell_lines lines) =
    line_ends-append (first ++ line_end ∷ []) (spell_lines lines)
    ∙ ap (λ k. k + line_ends (spell_lines lines)) (line_ends-append first (line_end ∷ []) ∙ ap (λ k. k + 1) (line_ends-line first all.0.one_line)) in
    (others.0, others.1, ap (read_lines n line) assoc ∙ once.2 ∙ others.2 ∙ ap (λ l. read_lines others.0 l text) (omega (arith, ends)))
