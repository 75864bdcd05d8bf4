-- A statement ends within its text, and so any number of steps that is enough reads the same.
use Rattle.std.proofs.Common.{◌≡◌, ℕ, zero, suc, ◌+◌, ◌-◌, ◌<◌, ◌≤◌, ◌==◌, Bool, true, false, cond, List, [], ◌∷◌, length, drop, Option, Some, None, option_map, Result, Ok, Err, refl, sym, ◌∙◌, ap, subst, arith, length-append}
use Rattle.mcs_reader.specs.Byte.{is_blank, is_name_byte, line_end}
use Rattle.mcs_reader.specs.declared.byte.ByteRole.{ByteRole}
use Rattle.mcs_reader.specs.declared.byte.ByteRole.TheVariants.{Gap, Comment, Name, Open, Close, Period, Other}
use Rattle.mcs_reader.specs.Line.{begins_statement, line_ends}
use Rattle.mcs_reader.specs.Position.{after_line, name_after, text_after, verb_at}
use Rattle.mcs_reader.specs.Run.{run, after_run, value_run}
use Rattle.mcs_reader.specs.ReadLines.{at_verb, go_on, read_lines}
use Rattle.mcs_reader.specs.Comment.{role_here}
use Rattle.mcs_reader.specs.Pieces.{Before, no_name, a_name, name_comment, named_before}
use Rattle.mcs_reader.specs.Scan.{after_comment, after_raw, Found, on_found, opening, Outcome, pass, past, past_raw, Stated, closing, scan, stated, with_list, with_name, with_subject, with_values}
use Rattle.mcs_reader.specs.StatementText.{subject_of}
use Rattle.mcs_reader.specs.Unread.{with_statements}
use Rattle.mcs_reader.specs.Verb.{verb_named}
use Rattle.mcs_reader.specs.declared.statement.Statement.{Statement}
use Rattle.mcs_reader.specs.declared.statement.Verb.{Verb}
use Rattle.mcs_reader.proofs.ReadFacts.{read_lines-end, read_lines-step}
use Rattle.mcs_reader.proofs.RunFacts.{run-append-after_run}
use Rattle.mcs_reader.proofs.ScanPositionFacts.{shorter_after_line}
use Rattle.mcs_reader.proofs.ScanFacts.{skip-step}

-- what is after the statement is no longer than this
abbrev Within : ℕ → Outcome → Type 0
Within n (Ok found) = length found.rest ≤ n
Within n (Err fault) = Unit {0}

within_more : (n m : ℕ) (outcome : Outcome) → n ≤ m → Within n outcome → Within m outcome
within_more n m (Ok found) more is = omega arith
within_more n m (Err fault) more is = tt

within_closing : (n depth : ℕ) (outcome : Outcome) → Within n outcome → Within n (closing depth outcome)
within_closing n zero (Ok found) is = is
within_closing n zero (Err fault) is = tt
within_closing n (suc depth) outcome is = is

within_found : (n : ℕ) (change : Found → Found) (outcome : Outcome) → ((found : Found) → (change found).rest ≡ found.rest) → Within n outcome → Within n (on_found change outcome)
within_found n change (Ok found) same is = let size = ap length (same found) in omega arith
within_found n change (Err fault) same is = tt

within_past : (n line : ℕ) (text : List ℕ) (o : Option (List ℕ)) (next : ℕ → Outcome) → ((skip : ℕ) → Within n (next skip)) → Within n (past line text o next)
within_past n line text None next is = tt
within_past n line text (Some rest) next is = is (length text - length rest)

within_past_raw : (n line : ℕ) (text : List ℕ) (o : Result (List ℕ) ℕ) (next : ℕ → Outcome) → ((skip : ℕ) → Within n (next skip)) → Within n (past_raw line text o next)
within_past_raw n line text (Err depth) next is = tt
within_past_raw n line text (Ok rest) next is = within_found n (with_list []) (next (length text - length rest)) (λ found. refl) (is (length text - length rest))

within_opening : (n line : ℕ) (before : Before) (text : List ℕ) (inside : Outcome) (next : ℕ → Outcome) → Within n inside → ((skip : ℕ) → Within n (next skip)) → Within n (opening line before text inside next)
within_opening n line no_name text inside next is more = tt
within_opening n line a_name text inside next is more = is
within_opening n line name_comment text inside next is more = within_past_raw n line text (after_raw zero text) next more

-- no statement goes over the end of its text
within : (line skip depth : ℕ) (before : Before) (begun : Bool) (text : List ℕ) → Within (length text) (pass line skip depth before begun text)
unfolding pass
within line skip zero before begun [] = tt
within line skip (suc depth) before begun [] = tt
within line (suc skip) depth before begun (b ∷ text) =
    let P : Outcome → Type 0 = λ o. Within (length (b ∷ text)) o in
    subst P (sym (skip-step line skip depth before begun b text)) (within_more (length text) (length (b ∷ text)) (pass line skip depth before begun text) (omega arith) (within line skip depth before begun text))
within line zero depth before begun (b ∷ text) =
    at depth (λ skip depth before begun. within_more (length text) (length (b ∷ text)) (pass line skip depth before begun text) (omega arith) (within line skip depth before begun text))
  where
    After : Type 0
    After = (skip depth : ℕ) (before : Before) (begun : Bool) → Within (length (b ∷ text)) (pass line skip depth before begun text)

    outside : (role : ByteRole) → role_here b text ≡ role → After → Within (length (b ∷ text)) (pass line zero zero before begun (b ∷ text))
    outside Gap is after = rw (is, pass) (after zero zero before (b == line_end))
    outside Comment is after = rw (is, pass) (within_past (length (b ∷ text)) line text (after_comment (drop 1 text)) (λ skip. pass line skip zero before false text) (λ skip. after skip zero before false))
    outside Name is after =
        rw (is, pass)
        (within_found (length (b ∷ text)) (with_name (run is_name_byte (b ∷ text)))
        (pass line (length (run is_name_byte text)) zero (named_before (run is_name_byte (b ∷ text))) false text) (λ found. refl)
        (after (length (run is_name_byte text)) zero (named_before (run is_name_byte (b ∷ text))) false))
    outside Open is after =
        rw (is, pass)
        (within_opening (length (b ∷ text)) line before text (pass line zero 1 no_name false text) (λ skip. pass line skip zero no_name false text) (after zero 1 no_name false) (λ skip. after skip zero no_name false))
    outside Close is after = rw (is, pass) tt
    outside Period is after = rw (is, pass) (omega arith)
    outside Other is after = rw (is, pass) tt

    value : (depth : ℕ) → After → Within (length (b ∷ text)) (on_found (with_values (value_run (b ∷ text) ∷ [])) (pass line (length (value_run text)) (suc depth) no_name false text))
    value depth after =
        within_found (length (b ∷ text)) (with_values (value_run (b ∷ text) ∷ [])) (pass line (length (value_run text)) (suc depth) no_name false text) (λ found. refl)
        (after (length (value_run text)) (suc depth) no_name false)

    inside : (depth : ℕ) (role : ByteRole) → role_here b text ≡ role → After → Within (length (b ∷ text)) (pass line zero (suc depth) before begun (b ∷ text))
    inside depth Gap is after = rw (is, pass) (after zero (suc depth) no_name false)
    inside depth Comment is after =
        rw (is, pass) (within_past (length (b ∷ text)) line text (after_comment (drop 1 text)) (λ skip. pass line skip (suc depth) no_name false text) (λ skip. after skip (suc depth) no_name false))
    inside depth Open is after = rw (is, pass) (after zero (suc (suc depth)) no_name false)
    inside depth Close is after = rw (is, pass) (within_closing (length (b ∷ text)) depth (pass line zero depth no_name false text) (after zero depth no_name false))
    inside depth Name is after = rw (is, pass) (value depth after)
    inside depth Period is after = rw (is, pass) (value depth after)
    inside depth Other is after = rw (is, pass) (value depth after)

    at : (depth : ℕ) → After → Within (length (b ∷ text)) (pass line zero depth before begun (b ∷ text))
    at zero after = outside (role_here b text) refl after
    at (suc depth) after = inside depth (role_here b text) refl after

abbrev rest_of : Stated → List ℕ
rest_of (Ok (statement, rest)) = rest
rest_of (Err fault) = []

-- nor does what is after a statement that has a subject
stated_within : (n line : ℕ) (what : Verb) (outcome : Outcome) (statement : Statement) (rest : List ℕ) → Within n outcome → stated what line outcome ≡ Ok (statement, rest) → length rest ≤ n
stated_within n line what (Err fault) statement rest is e = absurd (cc)
stated_within n line what (Ok found) statement rest is e = by (subject_of what found.values) e where
  by : (subject : Option (Option (List ℕ))) → with_subject what line found subject ≡ Ok (statement, rest) → length rest ≤ n
  by None never = absurd (cc)
  by (Some subject) same = let size : length found.rest ≡ length rest = ap (λ s. length (rest_of s)) same in omega arith

length-after_run : (test : ℕ → Bool) (text : List ℕ) → length (after_run test text) ≤ length text
length-after_run test text =
    let whole = ap length (run-append-after_run test text) in
    omega (arith, length-append (run test text) (after_run test text))

length-drop_2 : (text : List ℕ) → length (drop 2 text) ≤ length text
length-drop_2 [] = omega arith
length-drop_2 (a ∷ []) = omega arith
length-drop_2 (a ∷ b ∷ text) = omega arith

abbrev after_of : Option (Verb × List ℕ) → List ℕ
after_of None = []
after_of (Some (what, after)) = after

-- what is after a line's head
verb_within : (text : List ℕ) (what : Verb) (after : List ℕ) → verb_at text ≡ Some (what, after) → length after ≤ length text
unfolding verb_at
verb_within text what after e = by (begins_statement text) (verb_named (name_after (drop 2 text))) e where
  with_after : Verb → Verb × List ℕ
  with_after what = (what, text_after (drop 2 text))

  by : (t : Bool) (found : Option Verb) → cond t (option_map with_after found) None ≡ Some (what, after) → length after ≤ length text
  by false found never = absurd (cc)
  by true None never = absurd (cc)
  by true (Some found) same =
      let size : length (text_after (drop 2 text)) ≡ length after = ap (λ o. length (after_of o)) same in
      omega (arith, length-after_run is_name_byte (after_run is_blank (drop 2 text)), length-after_run is_blank (drop 2 text), length-drop_2 text)

pub fits_after : (now after : List ℕ) (m : ℕ) → after_line now ≡ after → length now ≤ suc m → length after ≤ m
fits_after now [] m at fits = omega arith
fits_after now (b ∷ after) m at fits =
    let P : List ℕ → Type 0 = λ t. 0 < length t in
    let some : 0 < length (after_line now) = subst P (sym at) (omega arith) in
    let less = shorter_after_line now some in
    let size = ap length at in
    omega arith

-- one step goes on alike where the steps after it do
alike : (n m line : ℕ) (text : List ℕ) → length text ≤ suc n → length text ≤ suc m
    → ((line : ℕ) (after : List ℕ) → length after ≤ n → length after ≤ m → read_lines n line after ≡ read_lines m line after)
    → (at : Option (Verb × List ℕ)) → verb_at text ≡ at → at_verb (read_lines n) line text at ≡ at_verb (read_lines m) line text at
alike n m line text fits_n fits_m next None e = next (line + 1) (after_line text) (fits_after text (after_line text) n refl fits_n) (fits_after text (after_line text) m refl fits_m)
alike n m line text fits_n fits_m next (Some (what, after)) e = by (stated what line (scan line zero a_name false after)) refl where
  by : (s : Stated) → stated what line (scan line zero a_name false after) ≡ s → go_on (read_lines n) line text s ≡ go_on (read_lines m) line text s
  by (Err fault) is = refl
  by (Ok (statement, rest)) is =
      let less = verb_within text what after e in
      let least = stated_within (length after) line what (scan line zero a_name false after) statement rest (within line zero zero a_name false after) is in
      ap (with_statements (statement ∷ []))
      (next (line + (line_ends text - line_ends (after_line rest))) (after_line rest)
      (fits_after rest (after_line rest) n refl (omega (arith, less, least))) (fits_after rest (after_line rest) m refl (omega (arith, less, least))))

pub any_steps : (n m line : ℕ) (text : List ℕ) → length text ≤ n → length text ≤ m → read_lines n line text ≡ read_lines m line text
any_steps n m line [] fits_n fits_m = read_lines-end n line ∙ sym (read_lines-end m line)
any_steps zero m line (b ∷ text) fits_n fits_m = absurd (omega arith)
any_steps (suc n) zero line (b ∷ text) fits_n fits_m = absurd (omega arith)
any_steps (suc n) (suc m) line (b ∷ text) fits_n fits_m =
    read_lines-step n line b text
    ∙ alike n m line (b ∷ text) fits_n fits_m (any_steps n m) (verb_at (b ∷ text)) refl
    ∙ sym (read_lines-step m line b text)
