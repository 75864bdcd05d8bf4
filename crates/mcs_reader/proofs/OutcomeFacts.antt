-- What the machine makes of a source is its one reading or its first fault.
use Rattle.std.proofs.Common.{◌≡◌, ℕ, ◌+◌, ◌≤◌, ◌<◌, Bool, true, false, cond, nat_le, ◌⊎◌, inl, inr, List, [], ◌∷◌, ◌++◌, length, Ok, Err, refl, sym, ◌∙◌, ap, subst, arith, append_assoc, append-nil}
use Rattle.std.proofs.lemmas.Bool.Decides.{nat_tests}
use Rattle.mcs_reader.specs.Byte.{line_end}
use Rattle.mcs_reader.specs.Line.{lines, text_of, text_of_lines, columns_1_to_72, line_ends}
use Rattle.mcs_reader.specs.StatementText.{StatementText, spell_statement}
use Rattle.mcs_reader.specs.Stop.{Stop, spell_stop, IsStopped, fault_of}
use Rattle.mcs_reader.specs.Segment.{Segment, IsRow, spell_row, statements_of}
use Rattle.mcs_reader.specs.Reading.{most_bytes, IsReading, IsStoppedSource, IsFirstFault, HasOneOutcome}
use Rattle.mcs_reader.specs.declared.fault.McsFault.{McsFault}
use Rattle.mcs_reader.specs.declared.fault.McsFault.TheVariants.{TooLong}
use Rattle.mcs_reader.specs.declared.statement.Statement.{Statement}
use Rattle.mcs_reader.proofs.RunFacts.{IsLines}
use Rattle.mcs_reader.specs.ReadLines.{read_lines, read_text}
use Rattle.mcs_reader.specs.ReadingOf.{reading_of}
use Rattle.mcs_reader.specs.Unread.{IsRead, Read, with_statements}
use Rattle.mcs_reader.proofs.ReadFacts.{read_lines-end}
use Rattle.mcs_reader.proofs.SegmentFacts.{read_row, read_stopped}
use Rattle.mcs_reader.proofs.CutFacts.{Cut, Ending, at_end, stopped, spell_ending, IsEnding, cut_all}

-- the text of a source is one whose lines end

pub IsLines-append : (a b : List ℕ) → IsLines b → IsLines (a ++ line_end ∷ b)
IsLines-append [] [] lines_end = refl
IsLines-append [] (b ∷ text) lines_end = lines_end
IsLines-append (x ∷ []) b lines_end = IsLines-append [] b lines_end
IsLines-append (x ∷ y ∷ a) b lines_end = IsLines-append (y ∷ a) b lines_end

IsLines-text_of_lines : (read : List (List ℕ)) → IsLines (text_of_lines read)
IsLines-text_of_lines [] = tt
IsLines-text_of_lines (line ∷ read) =
    let P : List ℕ → Type 0 = λ t. IsLines t in
    subst P (sym (append_assoc (columns_1_to_72 line) (line_end ∷ []) (text_of_lines read))) (IsLines-append (columns_1_to_72 line) (text_of_lines read) (IsLines-text_of_lines read))

pub IsLines-text_of : (source : List ℕ) → IsLines (text_of source)
unfolding text_of
IsLines-text_of source = IsLines-text_of_lines (lines source)

abbrev ok_of : List Statement → Read
ok_of statements = Ok statements

abbrev err_of : McsFault → Read
err_of fault = Err fault

read-row_alone : (row : List Segment) (text : List ℕ) → IsRow row [] → spell_row row ≡ text → read_text text ≡ Ok (statements_of 1 row)
read-row_alone row text is whole =
    let all : spell_row row ++ [] ≡ text = append-nil (spell_row row) ∙ whole in
    let P : List ℕ → Type 0 = λ t. length (spell_row row ++ []) ≤ length t in
    let r = read_row (length text) 1 row [] is (subst P all (omega arith)) in
    ap (read_lines (length text) 1) (sym all) ∙ r.2
    ∙ ap (with_statements (statements_of 1 row)) (read_lines-end r.0 (1 + line_ends (spell_row row)))
    ∙ ap (λ s. Ok s) (append-nil (statements_of 1 row))

read-row_stopped : (row : List Segment) (statement : StatementText) (stop : Stop) (text : List ℕ) → IsRow row (spell_statement statement ++ spell_stop stop) → IsStopped statement stop
    → spell_row row ++ (spell_statement statement ++ spell_stop stop) ≡ text → read_text text ≡ Err (fault_of stop (1 + line_ends (spell_row row)))
read-row_stopped row statement stop text is stops whole =
    let P : List ℕ → Type 0 = λ t. length (spell_row row ++ (spell_statement statement ++ spell_stop stop)) ≤ length t in
    let r = read_row (length text) 1 row (spell_statement statement ++ spell_stop stop) is (subst P whole (omega arith)) in
    ap (read_lines (length text) 1) (sym whole) ∙ r.2
    ∙ ap (with_statements (statements_of 1 row)) (read_stopped r.0 (1 + line_ends (spell_row row)) statement stop stops r.1)

-- both relations, to the machine

pub read_text-reading : (source : List ℕ) (statements : List Statement) → IsReading source statements → read_text (text_of source) ≡ Ok statements
read_text-reading source statements reading =
    read-row_alone reading.row (text_of source) reading.segments reading.whole ∙ ap (λ s. Ok s) reading.read

pub read_text-stopped : (source : List ℕ) (fault : McsFault) → IsStoppedSource source fault → read_text (text_of source) ≡ Err fault
read_text-stopped source fault is =
    read-row_stopped is.row is.statement is.stop (text_of source) is.segments is.stopped is.whole ∙ ap (λ f. Err f) is.fault_is

-- and back: where a text ends in nothing it is read, and where a statement is stopped it is refused

abbrev Decided : List ℕ → Type 0
Decided source = ((statements : List Statement) × IsReading source statements) ⊎ ((fault : McsFault) × IsStoppedSource source fault)

by_ending : (source : List ℕ) → length source ≤ most_bytes → (cut : Cut (text_of source)) → (ending : Ending) → cut.ending ≡ ending → Decided source
by_ending source fits cut at_end e =
    let P : Ending → Type 0 = λ k. IsRow cut.row (spell_ending k) in
    let segments : IsRow cut.row [] = subst P e cut.segments in
    let whole : spell_row cut.row ≡ text_of source = sym (cut.whole ∙ ap (λ k. spell_row cut.row ++ spell_ending k) e ∙ append-nil (spell_row cut.row)) in
    inl (statements_of 1 cut.row, record { fits = fits; row = cut.row; segments = segments; whole = whole; read = refl })
by_ending source fits cut (stopped statement stop) e =
    let P : Ending → Type 0 = λ k. IsRow cut.row (spell_ending k) in
    let Q : Ending → Type 0 = λ k. IsEnding k in
    let segments : IsRow cut.row (spell_statement statement ++ spell_stop stop) = subst P e cut.segments in
    let stops : IsStopped statement stop = subst Q e cut.ends in
    let whole : spell_row cut.row ++ (spell_statement statement ++ spell_stop stop) ≡ text_of source = sym (cut.whole ∙ ap (λ k. spell_row cut.row ++ spell_ending k) e) in
    inr (
      fault_of stop (1 + line_ends (spell_row cut.row)),
      record { fits = fits; row = cut.row; statement = statement; stop = stop; segments = segments; stopped = stops; whole = whole; fault_is = refl },
    )

decided : (source : List ℕ) → length source ≤ most_bytes → Decided source
decided source fits =
    let cut = cut_all (length (text_of source)) (text_of source) (omega arith) (IsLines-text_of source) in
    by_ending source fits cut cut.ending refl

pub IsReading-from_read : (source : List ℕ) (statements : List Statement) → length source ≤ most_bytes → read_text (text_of source) ≡ Ok statements → IsReading source statements
IsReading-from_read source statements fits result = from (decided source fits) where
  from : Decided source → IsReading source statements
  from (inl found) =
      let same : ok_of found.0 ≡ ok_of statements = sym (read_text-reading source found.0 found.1) ∙ result in
      subst (IsReading source) (cc) found.1
  from (inr found) =
      let no : err_of found.0 ≡ ok_of statements = sym (read_text-stopped source found.0 found.1) ∙ result in
      absurd (cc)

pub IsStoppedSource-from_read : (source : List ℕ) (fault : McsFault) → length source ≤ most_bytes → read_text (text_of source) ≡ Err fault → IsStoppedSource source fault
IsStoppedSource-from_read source fault fits result = from (decided source fits) where
  from : Decided source → IsStoppedSource source fault
  from (inl found) =
      let no : ok_of found.0 ≡ err_of fault = sym (read_text-reading source found.0 found.1) ∙ result in
      absurd (cc)
  from (inr found) =
      let same : err_of found.0 ≡ err_of fault = sym (read_text-stopped source found.0 found.1) ∙ result in
      subst (IsStoppedSource source) (cc) found.1

-- at most one outcome

one_reading : (source : List ℕ) (a b : List Statement) → IsReading source a → IsReading source b → a ≡ b
one_reading source a b first second =
    let same : ok_of a ≡ ok_of b = sym (read_text-reading source a first) ∙ read_text-reading source b second in
    cc

one_fault : (source : List ℕ) (f g : McsFault) → IsFirstFault source f → IsFirstFault source g → f ≡ g
one_fault source f g (inl first) (inl second) = first.1 ∙ sym second.1
one_fault source f g (inl first) (inr second) = absurd (let fits = second.fits in omega arith)
one_fault source f g (inr first) (inl second) = absurd (let fits = first.fits in omega arith)
one_fault source f g (inr first) (inr second) =
    let same : err_of f ≡ err_of g = sym (read_text-stopped source f first) ∙ read_text-stopped source g second in
    cc

not_both : (source : List ℕ) (a : List Statement) (f : McsFault) → IsReading source a → IsFirstFault source f → ⊥
not_both source a f reading (inl too_long) = absurd (let fits = reading.fits in omega arith)
not_both source a f reading (inr is) =
    let no : ok_of a ≡ err_of f = sym (read_text-reading source a reading) ∙ read_text-stopped source f is in
    cc

pub has_one_outcome : (source : List ℕ) → HasOneOutcome source
has_one_outcome source = record { one_reading = one_reading source; one_fault = one_fault source; not_both = not_both source }

-- what the machine makes of a source is what the source is read as
pub is_read_as : (source : List ℕ) (reading : Read) → length source ≤ most_bytes → read_text (text_of source) ≡ reading → IsRead source reading
is_read_as source (Ok statements) fits e = IsReading-from_read source statements fits e
is_read_as source (Err fault) fits e = inr (IsStoppedSource-from_read source fault fits e)

pub reading_of-fits : (source : List ℕ) → length source ≤ most_bytes → reading_of source ≡ read_text (text_of source)
unfolding reading_of
reading_of-fits source fits = let test : nat_le (length source) most_bytes ≡ true = grind (arith, nat_tests) in ap (λ t. cond t (read_text (text_of source)) (Err TooLong)) test

pub reading_of-too_long : (source : List ℕ) → most_bytes < length source → reading_of source ≡ Err TooLong
unfolding reading_of
reading_of-too_long source long = let test : nat_le (length source) most_bytes ≡ false = grind (arith, nat_tests) in ap (λ t. cond t (read_text (text_of source)) (Err TooLong)) test

pub has_outcome : (source : List ℕ) → IsRead source (reading_of source)
has_outcome source = by_test (nat_le (length source) most_bytes) refl where
  by_test : (t : Bool) → nat_le (length source) most_bytes ≡ t → IsRead source (reading_of source)
  by_test true e = let fits : length source ≤ most_bytes = grind (arith, nat_tests) in is_read_as source (reading_of source) fits (sym (reading_of-fits source fits))
  by_test false e = let long : most_bytes < length source = grind (arith, nat_tests) in subst (IsRead source) (sym (reading_of-too_long source long)) (inl (long, refl))
