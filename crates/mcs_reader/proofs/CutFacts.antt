-- Every text whose lines end is a row of segments, or a row and a statement that something stops: a
-- total function that cuts a text so.
use Rattle.std.proofs.Common.{◌≡◌, ℕ, zero, suc, ◌==◌, ◌≤◌, not, Bool, true, false, cond, List, [], ◌∷◌, ◌++◌, length, Option, Some, None, refl, sym, ◌∙◌, ap, subst, arith, append_assoc, append-nil, length-append}
use Rattle.std.proofs.lemmas.Bool.Decides.{nat_tests}
use Rattle.std.specs.List.{list_all}
use Rattle.std.proofs.lemmas.Bool.{and_parts}
use Rattle.mcs_reader.specs.Byte.{is_blank, is_name_byte, line_end}
use Rattle.mcs_reader.specs.Line.{begins_statement}
use Rattle.mcs_reader.specs.Verb.{Head, spell_head, IsHead, verb_named, begins_with}
use Rattle.mcs_reader.specs.Pieces.{a_name, spell, ends_with, ends_line}
use Rattle.mcs_reader.specs.StatementText.{StatementText, IsStatementText, spell_statement, subject_in}
use Rattle.mcs_reader.specs.Stop.{Stop, text_ends, statement_begins, stray_close, stray_byte, nameless_list, open_comment, open_list, open_raw, bad_subject, spell_stop, IsStop, IsStopped, HasNoSubject}
use Rattle.mcs_reader.specs.Segment.{Segment, passed, skipped, stated, IsLine, IsPassed, AllPassed, spell_lines, spell_segment, IsSegment, spell_row, IsRow, ends_or_begins_statement}
use Rattle.mcs_reader.specs.declared.statement.Verb.{Verb}
use Rattle.mcs_reader.proofs.DecomposeFacts.{decomposed}
use Rattle.mcs_reader.proofs.RowFacts.{IsLine-head}
use Rattle.mcs_reader.specs.Run.{run, after_run}
use Rattle.mcs_reader.proofs.RunFacts.{run-append-after_run, all-run, begins_with-after_run, begins_with-front, IsLines, IsLines-after, first_line, in_line, begins_statement-line}

-- what a text ends in after its row: nothing, or a statement that something stops
pub data Ending : Type 0 where
  at_end : Ending
  stopped : StatementText → Stop → Ending

abbrev pub spell_ending : Ending → List ℕ
spell_ending at_end = []
spell_ending (stopped text stop) = spell_statement text ++ spell_stop stop

abbrev pub IsEnding : Ending → Type 0
IsEnding at_end = Unit {0}
IsEnding (stopped text stop) = IsStopped text stop

pub record Cut (text : List ℕ) : Type 0 where
  pub row : List Segment
  pub ending : Ending
  pub segments : IsRow row (spell_ending ending)
  pub ends : IsEnding ending
  pub whole : text ≡ spell_row row ++ spell_ending ending

-- an ending is at the end or begins with ++
ending_begins : (ending : Ending) → ends_or_begins_statement (spell_ending ending) ≡ true
ending_begins at_end = refl
ending_begins (stopped text stop) = refl

-- the lines between statements that a row begins with, and the row after them
record Gathered (row : List Segment) (after : List ℕ) : Type 0 where
  pub lines : List (List ℕ)
  pub more : List Segment
  pub all : AllPassed lines
  pub segments : IsRow more after
  pub begins : ends_or_begins_statement (spell_row more ++ after) ≡ true
  pub whole : spell_row row ≡ spell_lines lines ++ spell_row more

gathered : (row : List Segment) (after : List ℕ) → IsRow row after → ends_or_begins_statement after ≡ true → Gathered row after
gathered [] after is begins = record { lines = []; more = []; all = tt; segments = tt; begins = begins; whole = refl }
gathered (passed between ∷ row) after is begins =
    let r = gathered row after is.1 begins in
    record {
      lines = between ∷ r.lines;
      more = r.more;
      all = (is.0, r.all);
      segments = r.segments;
      begins = r.begins;
      whole = ap (λ t. (between ++ line_end ∷ []) ++ t) r.whole ∙ sym (append_assoc (between ++ line_end ∷ []) (spell_lines r.lines) (spell_row r.more));
    }
gathered (skipped head rest lines ∷ row) after is begins =
    record { lines = []; more = skipped head rest lines ∷ row; all = tt; segments = is; begins = refl; whole = refl }
gathered (stated text subject ignored ∷ row) after is begins =
    record { lines = []; more = stated text subject ignored ∷ row; all = tt; segments = is; begins = refl; whole = refl }

-- a segment in front of what is cut already
in_front : (segment : Segment) (front after : List ℕ) (cut : Cut after) → IsSegment segment (spell_row cut.row ++ spell_ending cut.ending) → front ≡ spell_segment segment → Cut (front ++ after)
in_front segment front after cut is front_is = record {
  row = segment ∷ cut.row;
  ending = cut.ending;
  segments = (is, cut.segments);
  ends = cut.ends;
  whole =
      ap (λ t. t ++ after) front_is
      ∙ ap (λ t. spell_segment segment ++ t) cut.whole
      ∙ sym (append_assoc (spell_segment segment) (spell_row cut.row) (spell_ending cut.ending));
}

-- a line whose head names no verb, in front of what is cut already
skipped_in_front : (head : Head) (rest after : List ℕ) → IsHead head rest → verb_named head.name ≡ None → IsLine rest → Cut after → Cut (spell_head head ++ (rest ++ line_end ∷ after))
skipped_in_front head rest after is unknown one_line cut =
    let r = gathered cut.row (spell_ending cut.ending) cut.segments (ending_begins cut.ending) in
    record {
      row = skipped head rest r.lines ∷ r.more;
      ending = cut.ending;
      segments = ((is, unknown, one_line, r.all, r.begins), r.segments);
      ends = cut.ends;
      whole =
          let tail : List ℕ = spell_row r.more ++ spell_ending cut.ending in
          let after_is : after ≡ spell_lines r.lines ++ tail =
          cut.whole ∙ ap (λ t. t ++ spell_ending cut.ending) r.whole ∙ append_assoc (spell_lines r.lines) (spell_row r.more) (spell_ending cut.ending) in
          ap (λ t. spell_head head ++ (rest ++ line_end ∷ t)) after_is
          ∙ ap (λ t. spell_head head ++ t) (sym (append_assoc rest (line_end ∷ spell_lines r.lines) tail))
          ∙ sym (append_assoc (spell_head head) (rest ++ line_end ∷ spell_lines r.lines) tail)
          ∙ sym (append_assoc (spell_segment (skipped head rest r.lines)) (spell_row r.more) (spell_ending cut.ending));
    }

-- nothing but a statement that something stops
only_stopped : (statement : StatementText) (stop : Stop) → IsStopped statement stop → Cut (spell_statement statement ++ spell_stop stop)
only_stopped statement stop is = record { row = []; ending = stopped statement stop; segments = tt; ends = is; whole = refl }

-- what makes a text with ++ in front a head and the text after it
pub record Headed (text : List ℕ) : Type 0 where
  pub head : Head
  pub after : List ℕ
  pub blanks : list_all is_blank head.blanks ≡ true
  pub name : list_all is_name_byte head.name ≡ true
  pub all_blanks : begins_with is_blank (head.name ++ after) ≡ false
  pub all_name : begins_with is_name_byte after ≡ false
  pub whole : 43 ∷ 43 ∷ text ≡ spell_head head ++ after

pub headed : (text : List ℕ) → Headed text
headed text =
    let blanks : List ℕ = run is_blank text in
    let more : List ℕ = after_run is_blank text in
    let name : List ℕ = run is_name_byte more in
    let after : List ℕ = after_run is_name_byte more in
    let name_whole : name ++ after ≡ more = run-append-after_run is_name_byte more in
    record {
      head = record { blanks = blanks; name = name };
      after = after;
      blanks = all-run is_blank text;
      name = all-run is_name_byte more;
      all_blanks = ap (begins_with is_blank) name_whole ∙ begins_with-after_run is_blank text;
      all_name = begins_with-after_run is_name_byte more;
      whole = ap (λ t. 43 ∷ 43 ∷ t) (sym (append_assoc blanks name after ∙ ap (λ t. blanks ++ t) name_whole ∙ run-append-after_run is_blank text));
    }

-- a text that begins with ++
pub begins_with_pluses : (text : List ℕ) → begins_statement text ≡ true → (rest : List ℕ) × (text ≡ 43 ∷ 43 ∷ rest)
begins_with_pluses [] h = absurd (cc)
begins_with_pluses (b ∷ []) h = absurd (cc)
begins_with_pluses (b ∷ c ∷ text) h = by_first (b == 43) refl where
  by_first : (t : Bool) → (b == 43) ≡ t → (rest : List ℕ) × (b ∷ c ∷ text ≡ 43 ∷ 43 ∷ rest)
  by_first true e =
      let second : (c == 43) ≡ true = sym (ap (λ t. cond t (c == 43) false) e) ∙ h in
      let first_is : b ≡ 43 = grind (arith, nat_tests) in
      let second_is : c ≡ 43 = grind (arith, nat_tests) in
      (text, cc)
  by_first false e = absurd (let no : false ≡ true = sym (ap (λ t. cond t (c == 43) false) e) ∙ h in cc)

pub not_empty : (text : List ℕ) → IsLines (46 ∷ text) → (b : ℕ) × (rest : List ℕ) × (text ≡ b ∷ rest) × IsLines text
not_empty [] ends = absurd (omega arith)
not_empty (b ∷ rest) ends = (b, rest, refl, ends)

-- a known statement's text, with what the pieces and the stop of its text are
pub record Begun (text : List ℕ) : Type 0 where
  pub statement : StatementText
  pub stop : Stop
  pub is : IsStatementText statement
  pub stops : IsStop (ends_with a_name statement.pieces) (ends_line false statement.pieces) stop
  pub whole : text ≡ spell_statement statement ++ spell_stop stop

pub begun : (text : List ℕ) (h : Headed text) (verb : Verb) → verb_named h.head.name ≡ Some verb → Begun (43 ∷ 43 ∷ text)
begun text h verb verb_is =
    let outer = decomposed zero zero a_name false h.after in
    record {
      statement = record { head = h.head; verb = verb; pieces = outer.pieces };
      stop = outer.stop;
      is = record {
        head = record {
          blanks = h.blanks;
          name = h.name;
          all_blanks =
              let P : List ℕ → Type 0 = λ t. begins_with is_blank t ≡ false in
              begins_with-front is_blank (h.head.name ++ spell outer.pieces) (spell_stop outer.stop)
              (subst P (ap (λ t. h.head.name ++ t) outer.whole ∙ sym (append_assoc h.head.name (spell outer.pieces) (spell_stop outer.stop))) h.all_blanks);
          all_name =
              let P : List ℕ → Type 0 = λ t. begins_with is_name_byte t ≡ false in
              begins_with-front is_name_byte (spell outer.pieces) (spell_stop outer.stop) (subst P outer.whole h.all_name);
        };
        verb = verb_is;
        pieces = outer.outside;
      };
      stops = outer.stops;
      whole = h.whole ∙ ap (λ t. spell_head h.head ++ t) outer.whole ∙ sym (append_assoc (spell_head h.head) (spell outer.pieces) (spell_stop outer.stop));
    }

-- cutting, where what is shorter can be cut
abbrev CutsBelow : ℕ → Type 0
CutsBelow n = (text : List ℕ) → length text ≤ n → IsLines text → Cut text

cut_flaw : (text : List ℕ) (b : Begun text) → HasNoSubject b.statement b.stop → Cut text
cut_flaw text b none =
    let P : List ℕ → Type 0 = λ t. Cut t in
    subst P (sym b.whole) (only_stopped b.statement b.stop (record { statement = b.is; stops = b.stops; subject = none }))

cut_period : (n : ℕ) (text : List ℕ) (statement : StatementText) (rest : List ℕ) → CutsBelow n → IsStatementText statement
    → text ≡ spell_statement statement ++ 46 ∷ rest → length text ≤ suc n → IsLines text → (s : Option (Option (List ℕ))) → subject_in statement ≡ s → Cut text
cut_period n text statement rest below is whole fits lines None no_subject =
    let P : List ℕ → Type 0 = λ t. Cut t in
    subst P (sym whole) (only_stopped statement (bad_subject rest) (record { statement = is; stops = tt; subject = no_subject }))
cut_period n text statement rest below is whole fits lines (Some subject) subject_is =
    let P : List ℕ → Type 0 = λ t. Cut t in
    let Q : List ℕ → Type 0 = λ t. IsLines t in
    let some = not_empty rest (IsLines-after (spell_statement statement) (46 ∷ rest) (subst Q whole lines)) in
    let line = first_line some.0 some.1 (subst Q some.2 some.3) in
    let rest_is : rest ≡ line.0 ++ line_end ∷ line.1 = some.2 ∙ line.3 in
    let front : List ℕ = spell_statement statement ++ 46 ∷ (line.0 ++ line_end ∷ []) in
    let text_is : text ≡ front ++ line.1 =
    whole
    ∙ ap (λ t. spell_statement statement ++ 46 ∷ t) (rest_is ∙ sym (append_assoc line.0 (line_end ∷ []) line.1))
    ∙ sym (append_assoc (spell_statement statement) (46 ∷ (line.0 ++ line_end ∷ [])) line.1) in
    let size = ap length text_is ∙ length-append front line.1 in
    let front_size = length-append (spell_statement statement) (46 ∷ (line.0 ++ line_end ∷ [])) in
    let smaller : length line.1 ≤ n = omega arith in
    let after = below line.1 smaller (IsLines-after front line.1 (subst Q text_is lines)) in
    subst P (sym text_is) (in_front (stated statement subject line.0) front line.1 after (is, subject_is, line.2) refl)

cut_begun : (n : ℕ) (text : List ℕ) → CutsBelow n → (b : Begun text) → length text ≤ suc n → IsLines text → Cut text
cut_begun n text below b fits lines = by_stop b.stop refl where
  whole_of : (stop : Stop) → b.stop ≡ stop → text ≡ spell_statement b.statement ++ spell_stop stop
  whole_of stop e = b.whole ∙ ap (λ s. spell_statement b.statement ++ spell_stop s) e

  flaw_of : (stop : Stop) → b.stop ≡ stop → HasNoSubject b.statement stop → Cut text
  flaw_of stop e none = let P : Stop → Type 0 = λ s. HasNoSubject b.statement s in cut_flaw text b (subst P (sym e) none)

  by_stop : (stop : Stop) → b.stop ≡ stop → Cut text
  by_stop text_ends e = flaw_of text_ends e tt
  by_stop (statement_begins more) e = flaw_of (statement_begins more) e tt
  by_stop (stray_close more) e = flaw_of (stray_close more) e tt
  by_stop (stray_byte c more) e = flaw_of (stray_byte c more) e tt
  by_stop (nameless_list more) e = flaw_of (nameless_list more) e tt
  by_stop (open_comment body) e = flaw_of (open_comment body) e tt
  by_stop (open_list pieces deeper end) e = flaw_of (open_list pieces deeper end) e tt
  by_stop (open_raw raw deeper) e = flaw_of (open_raw raw deeper) e tt
  by_stop (bad_subject rest) e = cut_period n text b.statement rest below b.is (whole_of (bad_subject rest) e) fits lines (subject_in b.statement) refl

-- a line has no line end, so it is no text whose lines end
no_end : (b : ℕ) (line : List ℕ) → IsLine (b ∷ line) → IsLines (b ∷ line) → ⊥
no_end b [] one_line ends = absurd (let no : not (b == line_end) ≡ false = ap (λ n. not (n == line_end)) ends in let yes : not (b == line_end) ≡ true = (and_parts (in_line b) true one_line).0 in cc)
no_end b (c ∷ line) one_line ends = no_end c line (and_parts (in_line b) (list_all in_line (c ∷ line)) one_line).1 ends

-- the rest of a line that begins with ++ and names no verb
cut_rest : (n : ℕ) (head : Head) (after : List ℕ) → CutsBelow n
    → list_all is_blank head.blanks ≡ true → list_all is_name_byte head.name ≡ true
    → begins_with is_blank (head.name ++ after) ≡ false → begins_with is_name_byte after ≡ false
    → verb_named head.name ≡ None → length (spell_head head ++ after) ≤ suc n → IsLines (spell_head head ++ after) → Cut (spell_head head ++ after)
cut_rest n head [] below blanks name no_blank no_name unknown fits lines =
    let Q : List ℕ → Type 0 = λ t. IsLines t in
    absurd (no_end 43 (43 ∷ (head.blanks ++ head.name)) (IsLine-head head blanks name) (subst Q (append-nil (spell_head head)) lines))
cut_rest n head (b ∷ after) below blanks name no_blank no_name unknown fits lines =
    let P : List ℕ → Type 0 = λ t. Cut t in
    let line = first_line b after (IsLines-after (spell_head head) (b ∷ after) lines) in
    let B : List ℕ → Type 0 = λ t. begins_with is_blank t ≡ false in
    let N : List ℕ → Type 0 = λ t. begins_with is_name_byte t ≡ false in
    let Q : List ℕ → Type 0 = λ t. IsLines t in
    let is : IsHead head line.0 = record {
      blanks = blanks;
      name = name;
      all_blanks = begins_with-front is_blank (head.name ++ line.0) (line_end ∷ line.1)
          (subst B (ap (λ t. head.name ++ t) line.3 ∙ sym (append_assoc head.name line.0 (line_end ∷ line.1))) no_blank);
      all_name = begins_with-front is_name_byte line.0 (line_end ∷ line.1) (subst N line.3 no_name);
    } in
    let text_is : spell_head head ++ (b ∷ after) ≡ spell_head head ++ (line.0 ++ line_end ∷ line.1) = ap (λ t. spell_head head ++ t) line.3 in
    let size = ap length text_is ∙ length-append (spell_head head) (line.0 ++ line_end ∷ line.1) in
    let line_size = length-append line.0 (line_end ∷ line.1) in
    let smaller : length line.1 ≤ n = omega arith in
    let line_front : List ℕ = spell_head head ++ (line.0 ++ line_end ∷ []) in
    let front_is : spell_head head ++ (b ∷ after) ≡ line_front ++ line.1 =
    text_is
    ∙ ap (λ t. spell_head head ++ t) (sym (append_assoc line.0 (line_end ∷ []) line.1))
    ∙ sym (append_assoc (spell_head head) (line.0 ++ line_end ∷ []) line.1) in
    subst P (sym text_is) (skipped_in_front head line.0 line.1 is unknown line.2 (below line.1 smaller (IsLines-after line_front line.1 (subst Q front_is lines))))

cut_headed : (n : ℕ) (text : List ℕ) → CutsBelow n → (h : Headed text) → (verb : Option Verb) → verb_named h.head.name ≡ verb
    → length (43 ∷ 43 ∷ text) ≤ suc n → IsLines (43 ∷ 43 ∷ text) → Cut (43 ∷ 43 ∷ text)
cut_headed n text below h None unknown fits lines =
    let P : List ℕ → Type 0 = λ t. Cut t in
    let Q : List ℕ → Type 0 = λ t. IsLines t in
    let R : List ℕ → Type 0 = λ t. length t ≤ suc n in
    subst P (sym h.whole) (cut_rest n h.head h.after below h.blanks h.name h.all_blanks h.all_name unknown (subst R h.whole fits) (subst Q h.whole lines))
cut_headed n text below h (Some verb) known fits lines = cut_begun n (43 ∷ 43 ∷ text) below (begun text h verb known) fits lines

-- a line between statements
cut_passed : (n b : ℕ) (text : List ℕ) → CutsBelow n → begins_statement (b ∷ text) ≡ false → length (b ∷ text) ≤ suc n → IsLines (b ∷ text) → Cut (b ∷ text)
cut_passed n b text below none fits lines =
    let P : List ℕ → Type 0 = λ t. Cut t in
    let Q : List ℕ → Type 0 = λ t. IsLines t in
    let S : List ℕ → Type 0 = λ t. begins_statement t ≡ false in
    let line = first_line b text lines in
    let front_is : b ∷ text ≡ (line.0 ++ line_end ∷ []) ++ line.1 = line.3 ∙ sym (append_assoc line.0 (line_end ∷ []) line.1) in
    let size = ap length line.3 ∙ length-append line.0 (line_end ∷ line.1) in
    let smaller : length line.1 ≤ n = omega arith in
    let is : IsPassed line.0 = record { one_line = line.2; no_statement = sym (begins_statement-line line.0 line.1) ∙ subst S line.3 none } in
    subst P (sym front_is) (in_front (passed line.0) (line.0 ++ line_end ∷ []) line.1 (below line.1 smaller (IsLines-after (line.0 ++ line_end ∷ []) line.1 (subst Q front_is lines))) is refl)

cut_step : (n b : ℕ) (text : List ℕ) → CutsBelow n → length (b ∷ text) ≤ suc n → IsLines (b ∷ text) → Cut (b ∷ text)
cut_step n b text below fits lines = by_test (begins_statement (b ∷ text)) refl where
  by_test : (t : Bool) → begins_statement (b ∷ text) ≡ t → Cut (b ∷ text)
  by_test false e = cut_passed n b text below e fits lines
  by_test true e =
      let pluses = begins_with_pluses (b ∷ text) e in
      let P : List ℕ → Type 0 = λ t. Cut t in
      let Q : List ℕ → Type 0 = λ t. IsLines t in
      let R : List ℕ → Type 0 = λ t. length t ≤ suc n in
      let h = headed pluses.0 in
      subst P (sym pluses.1) (cut_headed n pluses.0 below h (verb_named h.head.name) refl (subst R pluses.1 fits) (subst Q pluses.1 lines))

pub cut_all : (n : ℕ) (text : List ℕ) → length text ≤ n → IsLines text → Cut text
cut_all n [] fits lines = record { row = []; ending = at_end; segments = tt; ends = tt; whole = refl }
cut_all zero (b ∷ text) fits lines = absurd (omega arith)
cut_all (suc n) (b ∷ text) fits lines = cut_step n b text (cut_all n) fits lines
