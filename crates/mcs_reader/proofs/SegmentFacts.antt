-- Each segment, and so a row, is read as its statements; and a statement that something stops as its
-- fault.
use Rattle.std.proofs.Common.{◌≡◌, ℕ, zero, suc, ◌+◌, ◌-◌, ◌≤◌, false, List, [], ◌∷◌, ◌++◌, length, Option, Some, None, option_map, Ok, Err, refl, sym, ◌∙◌, ap, subst, arith, append_assoc, length-append, zero-add}
use Rattle.mcs_reader.specs.Byte.{is_blank, is_name_byte, line_end}
use Rattle.mcs_reader.specs.Line.{line_ends}
use Rattle.mcs_reader.specs.Verb.{Head, spell_head, IsHead, verb_named, begins_with}
use Rattle.mcs_reader.specs.Pieces.{a_name, spell, ends_with, ends_line, take_list, operands}
use Rattle.mcs_reader.specs.StatementText.{StatementText, IsStatementText, spell_statement, subject_in}
use Rattle.mcs_reader.specs.Stop.{Stop, text_ends, statement_begins, stray_close, stray_byte, nameless_list, open_comment, open_list, open_raw, bad_subject, spell_stop, IsStopped, fault_of}
use Rattle.mcs_reader.specs.Segment.{Segment, passed, skipped, stated as stated_segment, IsLine, IsPassed, AllPassed, spell_lines, spell_segment, IsSegment, spell_row, IsRow, statement_of, statements_of}
use Rattle.mcs_reader.specs.declared.fault.McsFault.TheVariants.{BadVerbSubject}
use Rattle.mcs_reader.specs.declared.statement.Verb.{Verb}
use Rattle.mcs_reader.specs.declared.statement.Statement.{Statement}
use Rattle.mcs_reader.specs.Scan.{scan, Found, Stated, stated, with_subject}
use Rattle.mcs_reader.specs.Position.{after_line, verb_at}
use Rattle.mcs_reader.proofs.ScanPiecesFacts.{begins_name, scan-statement, scan-fault, scan-stop, no_name_after, IsFlaw}
use Rattle.mcs_reader.proofs.RunFacts.{begins_with-append, after_line-line, IsLine-append, line_ends-append, line_ends-line}
use Rattle.mcs_reader.specs.ReadLines.{go_on, at_verb, read_lines}
use Rattle.mcs_reader.specs.Unread.{with_statements}
use Rattle.mcs_reader.proofs.ReadFacts.{with_statements-append, with_statements-none}
use Rattle.mcs_reader.proofs.RowFacts.{verb_at-head, verb_at-statement, IsLine-head, step, step-passed, steps-passed}

-- what it is to be read so: the statements, and then the text after, in fewer steps
abbrev pub ReadsAs : ℕ → ℕ → List ℕ → List Statement → ℕ → List ℕ → Type 0
ReadsAs n line text statements line_after after =
    (m : ℕ) × (length after ≤ m) × (read_lines n line text ≡ with_statements statements (read_lines m line_after after))

read_passed : (n line : ℕ) (between text : List ℕ) → IsPassed between → length ((between ++ line_end ∷ []) ++ text) ≤ n
    → ReadsAs n line ((between ++ line_end ∷ []) ++ text) [] (line + line_ends (between ++ line_end ∷ [])) text
read_passed n line between text is fits =
    let assoc : (between ++ line_end ∷ []) ++ text ≡ between ++ line_end ∷ text = append_assoc between (line_end ∷ []) text in
    let P : List ℕ → Type 0 = λ t. length t ≤ n in
    let once = step-passed n line between text is (subst P assoc fits) in
    let ends : line_ends (between ++ line_end ∷ []) ≡ 1 =
    line_ends-append between (line_end ∷ []) ∙ ap (λ k. k + 1) (line_ends-line between is.one_line) in (
      once.0,
      once.1,
      ap (read_lines n line) assoc ∙ once.2 ∙ ap (λ k. read_lines once.0 (line + k) text) (sym ends)
          ∙ sym (with_statements-none (read_lines once.0 (line + line_ends (between ++ line_end ∷ [])) text)),
    )

skipped_steps : (n m k line last ends : ℕ) (whole at after text : List ℕ) → whole ≡ at → read_lines n line at ≡ at_verb (read_lines m) line at (verb_at at) → verb_at at ≡ None
    → after_line at ≡ after → read_lines m (line + 1) after ≡ read_lines k last text → last ≡ line + ends
    → read_lines n line whole ≡ with_statements [] (read_lines k (line + ends) text)
skipped_steps n m k line last ends whole at after text same once none next others ends_are =
    ap (read_lines n line) same
    ∙ once
    ∙ ap (at_verb (read_lines m) line at) none
    ∙ ap (read_lines m (line + 1)) next
    ∙ others
    ∙ ap (λ l. read_lines k l text) ends_are
    ∙ sym (with_statements-none (read_lines k (line + ends) text))

read_skipped : (n line : ℕ) (head : Head) (rest : List ℕ) (lines : List (List ℕ)) (text : List ℕ)
    → IsHead head rest → verb_named head.name ≡ None → IsLine rest → AllPassed lines
    → length ((spell_head head ++ (rest ++ line_end ∷ spell_lines lines)) ++ text) ≤ n
    → ReadsAs n line ((spell_head head ++ (rest ++ line_end ∷ spell_lines lines)) ++ text) []
    (line + line_ends (spell_head head ++ (rest ++ line_end ∷ spell_lines lines))) text
read_skipped n line head rest lines text is unknown one_line all fits =
    let after : List ℕ = spell_lines lines ++ text in
    let first : List ℕ = spell_head head ++ rest in
    let inner : (rest ++ line_end ∷ spell_lines lines) ++ text ≡ rest ++ line_end ∷ after = append_assoc rest (line_end ∷ spell_lines lines) text in
    let by_head : (spell_head head ++ (rest ++ line_end ∷ spell_lines lines)) ++ text ≡ spell_head head ++ (rest ++ line_end ∷ after) =
    append_assoc (spell_head head) (rest ++ line_end ∷ spell_lines lines) text ∙ ap (λ t. spell_head head ++ t) inner in
    let by_line : spell_head head ++ (rest ++ line_end ∷ after) ≡ first ++ line_end ∷ after = sym (append_assoc (spell_head head) rest (line_end ∷ after)) in
    let P : List ℕ → Type 0 = λ t. length t ≤ n in
    let size = length-append first (line_end ∷ after) in
    let headroom : length (first ++ line_end ∷ after) ≤ n = subst P (by_head ∙ by_line) fits in
    let once = step n line (first ++ line_end ∷ after) (omega arith) headroom in
    let Q : List ℕ → Type 0 = λ t. begins_with is_blank t ≡ false in
    let no_blank : begins_with is_blank (head.name ++ (rest ++ line_end ∷ after)) ≡ false =
    subst Q (append_assoc head.name rest (line_end ∷ after)) (begins_with-append is_blank (head.name ++ rest) (line_end ∷ after) is.all_blanks refl) in
    let no_verb : verb_at (first ++ line_end ∷ after) ≡ None =
    ap verb_at (sym by_line)
    ∙ verb_at-head head (rest ++ line_end ∷ after) is.blanks is.name no_blank (begins_with-append is_name_byte rest (line_end ∷ after) is.all_name refl)
    ∙ ap (option_map (λ (verb : Verb). (verb, rest ++ line_end ∷ after))) unknown in
    let line_is : IsLine first = IsLine-append (spell_head head) rest (IsLine-head head is.blanks is.name) one_line in
    let others = steps-passed once.0 (line + 1) lines text all (omega arith) in
    let by_lines : spell_head head ++ (rest ++ line_end ∷ spell_lines lines) ≡ first ++ line_end ∷ spell_lines lines = sym (append_assoc (spell_head head) rest (line_end ∷ spell_lines lines)) in
    let ends : line_ends (spell_head head ++ (rest ++ line_end ∷ spell_lines lines)) ≡ 1 + line_ends (spell_lines lines) =
    ap line_ends by_lines ∙ line_ends-append first (line_end ∷ spell_lines lines) ∙ ap (λ k. k + (1 + line_ends (spell_lines lines))) (line_ends-line first line_is) ∙ zero-add (1 + line_ends (spell_lines lines)) in (
      others.0,
      others.1,
      skipped_steps n once.0 others.0 line (line + 1 + line_ends (spell_lines lines)) (line_ends (spell_head head ++ (rest ++ line_end ∷ spell_lines lines))) _ (first ++ line_end ∷ after) after text (by_head ∙ by_line) once.2 no_verb
          (after_line-line first after line_is) others.2 (omega (arith, ends)),
    )

-- what stands at a statement's verb
at_statement : (n line : ℕ) (text : StatementText) (after : List ℕ) → IsStatementText text → begins_name after ≡ false
    → length (spell_statement text ++ after) ≤ n
    → (m : ℕ) × (n ≡ suc m) × (read_lines n line (spell_statement text ++ after)
    ≡ go_on (read_lines m) line (spell_statement text ++ after) (stated text.verb line (scan line zero a_name false (spell text.pieces ++ after))))
at_statement n line text after is no_name fits =
    let once = step n line (spell_statement text ++ after) (omega arith) fits in
    (once.0, once.1, once.2 ∙ ap (at_verb (read_lines once.0) line (spell_statement text ++ after)) (verb_at-statement text after is no_name))

stated_steps : (n m line ends : ℕ) (whole at rest after : List ℕ) (statement : Statement) (found : Stated) → whole ≡ at → read_lines n line at ≡ go_on (read_lines m) line at found
    → found ≡ Ok (statement, rest) → after_line rest ≡ after → line_ends at - line_ends after ≡ ends
    → read_lines n line whole ≡ with_statements (statement ∷ []) (read_lines m (line + ends) after)
stated_steps n m line ends whole at rest after statement found same once is next size =
    ap (read_lines n line) same
    ∙ once
    ∙ ap (go_on (read_lines m) line at) is
    ∙ ap (λ t. with_statements (statement ∷ []) (read_lines m (line + (line_ends at - line_ends t)) t)) next
    ∙ ap (λ k. with_statements (statement ∷ []) (read_lines m (line + k) after)) size

read_stated : (n line : ℕ) (text : StatementText) (subject : Option (List ℕ)) (ignored after : List ℕ)
    → IsStatementText text → subject_in text ≡ Some subject → IsLine ignored
    → length ((spell_statement text ++ 46 ∷ (ignored ++ line_end ∷ [])) ++ after) ≤ n
    → ReadsAs n line ((spell_statement text ++ 46 ∷ (ignored ++ line_end ∷ [])) ++ after) (statement_of line (stated_segment text subject ignored))
    (line + line_ends (spell_statement text ++ 46 ∷ (ignored ++ line_end ∷ []))) after
read_stated n line text subject ignored after is subject_is one_line fits =
    let rest : List ℕ = ignored ++ line_end ∷ after in
    let front : List ℕ = spell_statement text ++ 46 ∷ (ignored ++ line_end ∷ []) in
    let assoc : front ++ after ≡ spell_statement text ++ 46 ∷ rest =
    append_assoc (spell_statement text) (46 ∷ (ignored ++ line_end ∷ [])) after
    ∙ ap (λ t. spell_statement text ++ 46 ∷ t) (append_assoc ignored (line_end ∷ []) after) in
    let P : List ℕ → Type 0 = λ t. length t ≤ n in
    let headroom : length (spell_statement text ++ 46 ∷ rest) ≤ n = subst P assoc fits in
    let once = at_statement n line text (46 ∷ rest) is refl headroom in
    let found : Found = record { values = take_list text.pieces; operands = operands text.pieces; rest = rest } in
    let scanned : stated text.verb line (scan line zero a_name false (spell text.pieces ++ 46 ∷ rest)) ≡ Ok (record { verb = text.verb; subject = subject; operands = operands text.pieces; line = line }, rest) =
    ap (stated text.verb line) (scan-statement line a_name false text.pieces rest is.pieces)
    ∙ ap (with_subject text.verb line found) subject_is in
    let size = length-append front after in
    let size_front = length-append (spell_statement text) (46 ∷ (ignored ++ line_end ∷ [])) in
    let ends : line_ends (spell_statement text ++ 46 ∷ rest) - line_ends after ≡ line_ends front =
    omega (arith, ap line_ends (sym assoc) ∙ line_ends-append front after) in
    let after_is : after_line rest ≡ after = after_line-line ignored after one_line in
    let smaller : length after ≤ once.0 = omega arith in (
      once.0,
      smaller,
      stated_steps n once.0 line (line_ends front) (front ++ after) (spell_statement text ++ 46 ∷ rest) rest after (record { verb = text.verb; subject = subject; operands = operands text.pieces; line = line }) _ assoc once.2
          scanned after_is ends,
    )

pub read_segment : (n line : ℕ) (segment : Segment) (after : List ℕ) → IsSegment segment after → length (spell_segment segment ++ after) ≤ n
    → ReadsAs n line (spell_segment segment ++ after) (statement_of line segment) (line + line_ends (spell_segment segment)) after
read_segment n line (passed between) after is fits = read_passed n line between after is fits
read_segment n line (skipped head rest lines) after is fits = read_skipped n line head rest lines after is.0 is.1 is.2 is.3 fits
read_segment n line (stated_segment text subject ignored) after is fits = read_stated n line text subject ignored after is.0 is.1 is.2 fits

pub read_row : (n line : ℕ) (row : List Segment) (after : List ℕ) → IsRow row after → length (spell_row row ++ after) ≤ n
    → ReadsAs n line (spell_row row ++ after) (statements_of line row) (line + line_ends (spell_row row)) after
read_row n line [] after is fits = (n, fits, ap (λ l. read_lines n l after) (omega arith) ∙ sym (with_statements-none (read_lines n (line + 0) after)))
read_row n line (segment ∷ row) after is fits =
    let assoc : spell_row (segment ∷ row) ++ after ≡ spell_segment segment ++ (spell_row row ++ after) = append_assoc (spell_segment segment) (spell_row row) after in
    let P : List ℕ → Type 0 = λ t. length t ≤ n in
    let first = read_segment n line segment (spell_row row ++ after) is.0 (subst P assoc fits) in
    let others = read_row first.0 (line + line_ends (spell_segment segment)) row after is.1 first.1 in
    let ends : line_ends (spell_row (segment ∷ row)) ≡ line_ends (spell_segment segment) + line_ends (spell_row row) = line_ends-append (spell_segment segment) (spell_row row) in (
      others.0,
      others.1,
      ap (read_lines n line) assoc
          ∙ first.2
          ∙ ap (with_statements (statement_of line segment)) others.2
          ∙ with_statements-append (statement_of line segment) (statements_of (line + line_ends (spell_segment segment)) row) (read_lines others.0 (line + line_ends (spell_segment segment) + line_ends (spell_row row)) after)
          ∙ ap (λ l. with_statements (statements_of line (segment ∷ row)) (read_lines others.0 l after)) (omega (arith, ends)),
    )

-- a statement that something stops

flawed : (n line : ℕ) (text : StatementText) (stop : Stop) → IsStopped text stop → IsFlaw stop → length (spell_statement text ++ spell_stop stop) ≤ n
    → read_lines n line (spell_statement text ++ spell_stop stop) ≡ Err (fault_of stop line)
flawed n line text stop is flaw fits =
    let no_name = no_name_after (ends_with a_name text.pieces) (ends_line false text.pieces) stop is.stops in
    let once = at_statement n line text (spell_stop stop) is.statement no_name fits in
    once.2
    ∙ ap (λ r. go_on (read_lines once.0) line (spell_statement text ++ spell_stop stop) (stated text.verb line r))
    (scan-fault line a_name false text.pieces (spell_stop stop) (fault_of stop line) is.statement.pieces no_name
    (scan-stop line (ends_with a_name text.pieces) (ends_line false text.pieces) stop is.stops flaw))

without_subject : (n line : ℕ) (text : StatementText) (ignored : List ℕ) → IsStopped text (bad_subject ignored) → length (spell_statement text ++ 46 ∷ ignored) ≤ n
    → read_lines n line (spell_statement text ++ 46 ∷ ignored) ≡ Err (BadVerbSubject line)
without_subject n line text ignored is fits =
    let once = at_statement n line text (46 ∷ ignored) is.statement refl fits in
    let found : Found = record { values = take_list text.pieces; operands = operands text.pieces; rest = ignored } in
    once.2
    ∙ ap (λ r. go_on (read_lines once.0) line (spell_statement text ++ 46 ∷ ignored) (stated text.verb line r)) (scan-statement line a_name false text.pieces ignored is.statement.pieces)
    ∙ ap (λ s. go_on (read_lines once.0) line (spell_statement text ++ 46 ∷ ignored) (with_subject text.verb line found s)) is.subject

pub read_stopped : (n line : ℕ) (text : StatementText) (stop : Stop) → IsStopped text stop → length (spell_statement text ++ spell_stop stop) ≤ n
    → read_lines n line (spell_statement text ++ spell_stop stop) ≡ Err (fault_of stop line)
read_stopped n line text text_ends is fits = flawed n line text text_ends is tt fits
read_stopped n line text (statement_begins more) is fits = flawed n line text (statement_begins more) is tt fits
read_stopped n line text (stray_close more) is fits = flawed n line text (stray_close more) is tt fits
read_stopped n line text (stray_byte b more) is fits = flawed n line text (stray_byte b more) is tt fits
read_stopped n line text (nameless_list more) is fits = flawed n line text (nameless_list more) is tt fits
read_stopped n line text (open_comment body) is fits = flawed n line text (open_comment body) is tt fits
read_stopped n line text (open_list pieces deeper end) is fits = flawed n line text (open_list pieces deeper end) is tt fits
read_stopped n line text (open_raw raw deeper) is fits = flawed n line text (open_raw raw deeper) is tt fits
read_stopped n line text (bad_subject ignored) is fits = without_subject n line text ignored is fits
