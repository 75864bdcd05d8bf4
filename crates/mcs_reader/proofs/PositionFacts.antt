-- What a position in a line's rest says of the position in the text.
use Rattle.std.proofs.Common.{◌≡◌, ℕ, suc, ◌+◌, Bool, true, false, cond, List, [], ◌∷◌, ◌++◌, length, take, drop, Option, Some, None, option_map, refl, sym, ◌∙◌, ap, subst, arith, append_assoc, length-append}
use Rattle.std.specs.List.{list_all, prefix_len}
use Rattle.std.proofs.lemmas.Bool.{and_parts}
use Rattle.mcs_reader.specs.Byte.{is_blank, is_name_byte, line_end}
use Rattle.mcs_reader.specs.Line.{line_ends, begins_statement}
use Rattle.mcs_reader.specs.Pieces.{is_value_byte}
use Rattle.mcs_reader.specs.Position.{Position, HasHeadroom, IsAfter, name_after, text_after, verb_at}
use Rattle.mcs_reader.specs.Run.{run, after_run}
use Rattle.mcs_reader.specs.Segment.{IsLine}
use Rattle.mcs_reader.specs.Verb.{verb_named}
use Rattle.mcs_reader.specs.declared.statement.Verb.{Verb}
use Rattle.mcs_reader.proofs.RunFacts.{run-append-after_run, in_line, line_ends-append, line_ends-line, begins_statement-line}

one_more : (n : ℕ) → 1 + n ≡ suc n
one_more n = omega arith

pub take_run : (test : ℕ → Bool) (xs : List ℕ) → take (prefix_len test xs) xs ≡ run test xs
take_run test [] = refl
take_run test (x ∷ xs) = by_test (test x) (take_run test xs) where
  by_test : (t : Bool) → take (prefix_len test xs) xs ≡ run test xs → take (cond t (1 + prefix_len test xs) 0) (x ∷ xs) ≡ cond t (x ∷ run test xs) []
  by_test true e = ap (λ n. take n (x ∷ xs)) (one_more (prefix_len test xs)) ∙ ap (λ l. x ∷ l) e
  by_test false e = refl

pub drop_run : (test : ℕ → Bool) (xs : List ℕ) → drop (prefix_len test xs) xs ≡ after_run test xs
drop_run test [] = refl
drop_run test (x ∷ xs) = by_test (test x) (drop_run test xs) where
  by_test : (t : Bool) → drop (prefix_len test xs) xs ≡ after_run test xs → drop (cond t (1 + prefix_len test xs) 0) (x ∷ xs) ≡ cond t (after_run test xs) (x ∷ xs)
  by_test true e = ap (λ n. drop n (x ∷ xs)) (one_more (prefix_len test xs)) ∙ e
  by_test false e = refl

-- a line's end stops a run

pub run-line : (test : ℕ → Bool) (line text : List ℕ) → test line_end ≡ false → run test (line ++ line_end ∷ text) ≡ run test line
run-line test [] text stops = ap (λ t. cond t (line_end ∷ run test text) []) stops
run-line test (b ∷ line) text stops = ap (λ l. cond (test b) (b ∷ l) []) (run-line test line text stops)

pub after_run-line : (test : ℕ → Bool) (line text : List ℕ) → test line_end ≡ false → after_run test (line ++ line_end ∷ text) ≡ after_run test line ++ line_end ∷ text
after_run-line test [] text stops = ap (λ t. cond t (after_run test text) (line_end ∷ text)) stops
after_run-line test (b ∷ line) text stops = by_test (test b) (after_run-line test line text stops) where
  by_test : (t : Bool) → after_run test (line ++ line_end ∷ text) ≡ after_run test line ++ line_end ∷ text
      → cond t (after_run test (line ++ line_end ∷ text)) (b ∷ (line ++ line_end ∷ text)) ≡ cond t (after_run test line) (b ∷ line) ++ line_end ∷ text
  by_test true e = e
  by_test false e = refl

pub no_value_at_end : is_value_byte line_end ≡ false
unfolding Rattle.mcs_reader.specs.Byte.role_of
no_value_at_end = refl

-- lines passed and line ends ahead

pub line_ends-at : (line text : List ℕ) → IsLine line → line_ends (line ++ line_end ∷ text) ≡ 1 + line_ends text
line_ends-at line text is = line_ends-append line (line_end ∷ text) ∙ (let none = line_ends-line line is in omega arith)

pub IsLine-rest : (front rest : List ℕ) → IsLine (front ++ rest) → IsLine rest
IsLine-rest [] rest is = is
IsLine-rest (b ∷ front) rest is = IsLine-rest front rest (and_parts (in_line b) (list_all in_line (front ++ rest)) is).1

-- further on in the same line
pub IsAfter-rest : (line_number : ℕ) (line front rest text : List ℕ) → IsLine line → line ≡ front ++ rest
    → IsAfter (record { text = rest ++ line_end ∷ text; line = line_number }) (record { text = line ++ line_end ∷ text; line = line_number })
IsAfter-rest line_number line front rest text is whole =
    let P : List ℕ → Type 0 = λ t. IsLine t in
    let rest_is : IsLine rest = IsLine-rest front rest (subst P whole is) in
    let size = ap length whole ∙ length-append front rest in
    let rest_size = length-append rest (line_end ∷ text) in
    let line_size = length-append line (line_end ∷ text) in
    record {
      text = omega arith;
      lines = ap (λ k. line_number + k) (line_ends-at rest text rest_is ∙ sym (line_ends-at line text is));
      passed = omega arith;
    }

pub IsAfter-run : (line_number : ℕ) (test : ℕ → Bool) (line text : List ℕ) → IsLine line
    → IsAfter (record { text = after_run test line ++ line_end ∷ text; line = line_number }) (record { text = line ++ line_end ∷ text; line = line_number })
IsAfter-run line_number test line text is =
    IsAfter-rest line_number line (run test line) (after_run test line) text is (sym (run-append-after_run test line))

-- on the next line
pub IsAfter-next_line : (line_number : ℕ) (line text : List ℕ) → IsLine line
    → IsAfter (record { text = text; line = line_number + 1 }) (record { text = line ++ line_end ∷ text; line = line_number })
IsAfter-next_line line_number line text is =
    let size = length-append line (line_end ∷ text) in
    let ends = line_ends-at line text is in
    record { text = omega arith; lines = omega arith; passed = omega arith }

pub IsLine-after_run : (test : ℕ → Bool) (line : List ℕ) → IsLine line → IsLine (after_run test line)
IsLine-after_run test line is =
    let P : List ℕ → Type 0 = λ t. IsLine t in
    IsLine-rest (run test line) (after_run test line) (subst P (sym (run-append-after_run test line)) is)

-- the same where the two positions are known by equations
pub IsAfter-columns : (line_number : ℕ) (line front rest text : List ℕ) (before : Position) → IsLine line → line ≡ front ++ rest
    → record { text = line ++ line_end ∷ text; line = line_number } ≡ before → IsAfter (record { text = rest ++ line_end ∷ text; line = line_number }) before
IsAfter-columns line_number line front rest text before is whole at =
    let P : Position → Type 0 = λ position. IsAfter (record { text = rest ++ line_end ∷ text; line = line_number }) position in
    subst P at (IsAfter-rest line_number line front rest text is whole)

-- ---- headroom

pub HasHeadroom-after : (now before : Position) → IsAfter now before → HasHeadroom before → HasHeadroom now
HasHeadroom-after now before after headroom = record { lines = rw (after.lines) headroom.lines; depth = omega (arith, after.text, headroom.depth) }

-- the same within a line
pub HasHeadroom-rest : (line_number : ℕ) (line front rest text : List ℕ) → IsLine line → line ≡ front ++ rest
    → HasHeadroom (record { text = line ++ line_end ∷ text; line = line_number }) → HasHeadroom (record { text = rest ++ line_end ∷ text; line = line_number })
HasHeadroom-rest line_number line front rest text is whole headroom =
    HasHeadroom-after (record { text = rest ++ line_end ∷ text; line = line_number }) (record { text = line ++ line_end ∷ text; line = line_number })
    (IsAfter-rest line_number line front rest text is whole) headroom

-- heads

abbrev pub with_text_after : List ℕ → Option (Verb × List ℕ) → Option (Verb × List ℕ)
with_text_after text None = None
with_text_after text (Some found) = Some (found.0, found.1 ++ line_end ∷ text)

verb_with : (what : Option Verb) (rest text : List ℕ)
    → option_map (λ (v : Verb). (v, rest ++ line_end ∷ text)) what ≡ with_text_after text (option_map (λ (v : Verb). (v, rest)) what)
verb_with None rest text = refl
verb_with (Some what) rest text = refl

name_after-line : (head text : List ℕ) → name_after (head ++ line_end ∷ text) ≡ name_after head
name_after-line head text =
    ap (run is_name_byte) (after_run-line is_blank head text refl) ∙ run-line is_name_byte (after_run is_blank head) text refl

text_after-line : (head text : List ℕ) → text_after (head ++ line_end ∷ text) ≡ text_after head ++ line_end ∷ text
text_after-line head text =
    ap (after_run is_name_byte) (after_run-line is_blank head text refl) ∙ after_run-line is_name_byte (after_run is_blank head) text refl

pub verb_at-line : (line text : List ℕ) → verb_at (line ++ line_end ∷ text) ≡ with_text_after text (verb_at line)
unfolding verb_at
verb_at-line [] text = ap (λ t. cond t (option_map (λ (v : Verb). (v, text_after (drop 2 (line_end ∷ text)))) (verb_named (name_after (drop 2 (line_end ∷ text))))) None) (begins_statement-line [] text)
verb_at-line (b ∷ []) text =
    ap (λ t. cond t (option_map (λ (v : Verb). (v, text_after text)) (verb_named (name_after text))) None) (begins_statement-line (b ∷ []) text)
verb_at-line (b ∷ c ∷ line) text = by_test (begins_statement (b ∷ c ∷ line)) where
  by_test : (t : Bool) → cond t (option_map (λ (v : Verb). (v, text_after (line ++ line_end ∷ text))) (verb_named (name_after (line ++ line_end ∷ text)))) None
      ≡ with_text_after text (cond t (option_map (λ (v : Verb). (v, text_after line)) (verb_named (name_after line))) None)
  by_test true =
      ap (λ rest. option_map (λ (v : Verb). (v, rest)) (verb_named (name_after (line ++ line_end ∷ text)))) (text_after-line line text)
      ∙ ap (λ name. option_map (λ (v : Verb). (v, text_after line ++ line_end ∷ text)) (verb_named name)) (name_after-line line text)
      ∙ verb_with (verb_named (name_after line)) (text_after line) text
  by_test false = refl

-- a verb that stands on the line of a position
pub verb_at-position : (line : ℕ) (columns text : List ℕ) (position : Position) (found : Option (Verb × List ℕ)) → record { text = columns ++ line_end ∷ text; line = line } ≡ position → verb_at columns ≡ found
    → verb_at position.text ≡ with_text_after text found
verb_at-position line columns text position found at is = ap (λ (p : Position). verb_at p.text) (sym at) ∙ verb_at-line columns text ∙ ap (with_text_after text) is

text_after-rest : (head : List ℕ) → (front : List ℕ) × (head ≡ front ++ text_after head)
text_after-rest head =
    let more : List ℕ = after_run is_blank head in (
      run is_blank head ++ run is_name_byte more,
      sym (run-append-after_run is_blank head)
          ∙ ap (λ t. run is_blank head ++ t) (sym (run-append-after_run is_name_byte more))
          ∙ sym (append_assoc (run is_blank head) (run is_name_byte more) (text_after head)),
    )

abbrev rest_in : Option (Verb × List ℕ) → List ℕ
rest_in None = []
rest_in (Some found) = found.1

named_rest : (name : Option Verb) (rest : List ℕ) (what : Verb) (found : List ℕ) → option_map {U = Verb × List ℕ} (λ v. (v, rest)) name ≡ Some (what, found) → rest ≡ found
named_rest None rest what found h = absurd (cc)
named_rest (Some other) rest what found h = ap rest_in h

-- a verb's head is the front of its line
pub verb_at-rest : (line : List ℕ) (what : Verb) (rest : List ℕ) → verb_at line ≡ Some (what, rest) → (front : List ℕ) × (line ≡ front ++ rest)
unfolding verb_at
verb_at-rest [] what rest h = absurd (cc)
verb_at-rest (b ∷ []) what rest h = absurd (cc)
verb_at-rest (b ∷ c ∷ line) what rest h = by_test (begins_statement (b ∷ c ∷ line)) h where
  by_test : (t : Bool) → cond t (option_map {U = Verb × List ℕ} (λ v. (v, text_after line)) (verb_named (name_after line))) None ≡ Some (what, rest) → (front : List ℕ) × (b ∷ c ∷ line ≡ front ++ rest)
  by_test true e =
      let cut = text_after-rest line in
      let rest_is = named_rest (verb_named (name_after line)) (text_after line) what rest e in
      (b ∷ c ∷ cut.0, ap (λ t. b ∷ c ∷ t) (cut.1 ∙ ap (λ t. cut.0 ++ t) rest_is))
  by_test false e = absurd (cc)

pub IsLine-verb : (line : List ℕ) (what : Verb) (rest : List ℕ) → IsLine line → verb_at line ≡ Some (what, rest) → IsLine rest
IsLine-verb line what rest is h =
    let cut = verb_at-rest line what rest h in
    let P : List ℕ → Type 0 = λ t. IsLine t in
    IsLine-rest cut.0 rest (subst P cut.1 is)
