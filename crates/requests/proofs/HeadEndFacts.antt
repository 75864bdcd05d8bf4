-- The search by bytes finds the end of a head where its definition has it.
use Rattle.std.proofs.Common.{◌≡◌, ◌⊎◌, ℕ, ◌+◌, ◌==◌, ◌&&◌, Bool, true, false, List, [], ◌∷◌, length, drop, nat_lt, Option, Some, None, Result, Ok, Err, if◌then◌else◌, suc, refl, sym, ap, ◌∙◌, inl, inr, arith}
use Rattle.std.proofs.lemmas.Bool.Decides.{nat_tests}
use Rattle.std.specs.Option.{option_map}
use Rattle.std.specs.Result.{result_ok}
use Rattle.requests.specs.HeadEnd.{line_end_len, empty_lines_len, head_len, whole_len, line_feed, carriage_return}
use Rattle.requests.specs.Search.{search, after, go_on, counted, ends_clean}
use Rattle.requests.specs.Text.{begins_with}
use Rattle.requests.specs.declared.head_end.Ending.{Ending}
use Rattle.requests.specs.declared.head_end.Ending.TheVariants.{EmptyLines, EmptyLinesReturn, Line, Feed, FeedReturn}

test : (t : Bool) → (t ≡ true) ⊎ (t ≡ false)
test true = inl refl
test false = inr refl

abbrev one_more : Option ℕ → Option ℕ
one_more o = option_map (λ n. 1 + n) o

-- ---- where the head ends that goes on after an ending

abbrev found : Ending → List ℕ → Option ℕ
found EmptyLines bytes = whole_len bytes
found EmptyLinesReturn bytes = if begins_with line_feed bytes then whole_len bytes else head_len bytes
found Line bytes = head_len bytes
found Feed bytes = if nat_lt 0 (line_end_len bytes) then Some (line_end_len bytes) else head_len bytes
found FeedReturn bytes = if begins_with line_feed bytes then Some 1 else head_len bytes

-- whether only empty lines are there after an ending
abbrev clean : Ending → List ℕ → Bool
clean EmptyLines bytes = empty_lines_len bytes == length bytes
clean EmptyLinesReturn bytes = begins_with line_feed bytes && (empty_lines_len bytes == length bytes)
clean Line bytes = false
clean Feed bytes = false
clean FeedReturn bytes = false

-- a search in these bytes finds that end, and says whether only empty lines were there
abbrev Agrees : Ending → List ℕ → Result ℕ Ending → Type 0
Agrees ending bytes says = (result_ok says ≡ found ending bytes) × (ends_clean says ≡ clean ending bytes)

abbrev AgreesIn : List ℕ → Type 0
AgreesIn rest = (ending : Ending) → Agrees ending rest (search ending rest)

counted_ok : (r : Result ℕ Ending) → result_ok (counted r) ≡ one_more (result_ok r)
counted_ok (Ok n) = ap (λ m. Some m) (omega arith)
counted_ok (Err ending) = refl

counted_clean : (r : Result ℕ Ending) → ends_clean (counted r) ≡ ends_clean r
counted_clean (Ok n) = refl
counted_clean (Err ending) = refl

-- what the search in the bytes after the next one says
further : (ending : Ending) (rest : List ℕ) → AgreesIn rest
    → (result_ok (counted (search ending rest)) ≡ one_more (found ending rest)) × (ends_clean (counted (search ending rest)) ≡ clean ending rest)
further ending rest e =
    (counted_ok (search ending rest) ∙ ap one_more (e ending).0, counted_clean (search ending rest) ∙ (e ending).1)

-- ---- how many bytes the head has

-- a head after so many bytes
abbrev head_from : ℕ → List ℕ → Option ℕ
head_from n bytes = option_map (λ m. n + m) (head_len (drop n bytes))

add_map : (n : ℕ) (o : Option ℕ) → option_map (λ m. (1 + n) + m) o ≡ one_more (option_map (λ m. n + m) o)
add_map n None = refl
add_map n (Some m) = ap (λ k. Some k) (omega arith)

zero_map : (o : Option ℕ) → option_map (λ m. 0 + m) o ≡ o
zero_map None = refl
zero_map (Some m) = ap (λ k. Some k) (omega arith)

drop_more : (n b : ℕ) (rest : List ℕ) → drop (1 + n) (b ∷ rest) ≡ drop n rest
drop_more n b rest = let e : 1 + n ≡ suc n = omega arith in ap (λ k. drop k (b ∷ rest)) e

after_one : (n b : ℕ) (rest : List ℕ) → head_from (1 + n) (b ∷ rest) ≡ one_more (head_from n rest)
after_one n b rest =
    ap (λ bytes. option_map (λ m. (1 + n) + m) (head_len bytes)) (drop_more n b rest) ∙ add_map n (head_len (drop n rest))

after_none : (b : ℕ) (rest : List ℕ) → (b == line_feed) ≡ false → head_from 0 (b ∷ rest) ≡ one_more (head_len rest)
after_none b rest h = zero_map (head_len (b ∷ rest)) ∙ rw h refl

return_choice : (t : Bool) (b : ℕ) (rest : List ℕ) → (b == line_feed) ≡ false
    → one_more (if t then whole_len rest else head_len rest) ≡ head_from (if t then 1 + empty_lines_len rest else 0) (b ∷ rest)
return_choice true b rest h = sym (after_one (empty_lines_len rest) b rest)
return_choice false b rest h = sym (after_none b rest h)

line_choice : (t : Bool) (n : ℕ) (other : Option ℕ)
    → one_more (if t then Some n else other) ≡ (if t then Some (1 + n) else one_more other)
line_choice true n other = refl
line_choice false n other = refl

feed_choice : (t : Bool) (rest : List ℕ)
    → one_more (if t then Some 1 else head_len rest)
    ≡ (if nat_lt 0 (if t then 2 else 0) then Some (if t then 2 else 0) else one_more (head_len rest))
feed_choice true rest = refl
feed_choice false rest = refl

-- ---- whether only empty lines were there

pub same_more : (m n : ℕ) → (m == n) ≡ ((1 + m) == suc n)
same_more m n = grind (arith, nat_tests)

pub none_of_more : (n : ℕ) → false ≡ (0 == suc n)
none_of_more n = grind (arith, nat_tests)

return_clean : (t : Bool) (m n : ℕ) → (t && (m == n)) ≡ ((if t then 1 + m else 0) == suc n)
return_clean true m n = same_more m n
return_clean false m n = none_of_more n

-- ---- one byte

step_empty : (b : ℕ) (rest : List ℕ) → AgreesIn rest → Agrees EmptyLines (b ∷ rest) (go_on (after EmptyLines b) (λ p. search p rest))
step_empty b rest e = elim (test (b == line_feed)) [
  | inl h ↦
      let (finds, cleans) = further EmptyLines rest e in
      rw h (finds ∙ sym (after_one (empty_lines_len rest) b rest), cleans ∙ same_more (empty_lines_len rest) (length rest))
  | inr h ↦ elim (test (b == carriage_return)) [
    | inl k ↦
        let (finds, cleans) = further EmptyLinesReturn rest e in
        rw (h, k) (finds ∙ return_choice (begins_with line_feed rest) b rest h, cleans ∙ return_clean (begins_with line_feed rest) (empty_lines_len rest) (length rest))
    | inr k ↦
        let (finds, cleans) = further Line rest e in
        rw (h, k) (finds ∙ sym (after_none b rest h), cleans ∙ none_of_more (length rest))
  ]
]

step_empty_return : (b : ℕ) (rest : List ℕ) → AgreesIn rest → Agrees EmptyLinesReturn (b ∷ rest) (go_on (after EmptyLinesReturn b) (λ p. search p rest))
step_empty_return b rest e = elim (test (b == line_feed)) [
  | inl h ↦
      let (finds, cleans) = further EmptyLines rest e in
      rw h (finds ∙ sym (after_one (empty_lines_len rest) b rest), cleans ∙ same_more (empty_lines_len rest) (length rest))
  | inr h ↦ rw h (further Line rest e)
]

step_line : (b : ℕ) (rest : List ℕ) → AgreesIn rest → Agrees Line (b ∷ rest) (go_on (after Line b) (λ p. search p rest))
step_line b rest e = elim (test (b == line_feed)) [
  | inl h ↦
      let (finds, cleans) = further Feed rest e in
      rw h (finds ∙ line_choice (nat_lt 0 (line_end_len rest)) (line_end_len rest) (head_len rest), cleans)
  | inr h ↦ rw h (further Line rest e)
]

step_feed : (b : ℕ) (rest : List ℕ) → AgreesIn rest → Agrees Feed (b ∷ rest) (go_on (after Feed b) (λ p. search p rest))
step_feed b rest e = elim (test (b == line_feed)) [
  | inl h ↦ rw h (refl, refl)
  | inr h ↦ elim (test (b == carriage_return)) [
    | inl k ↦
        let (finds, cleans) = further FeedReturn rest e in
        rw (h, k) (finds ∙ feed_choice (begins_with line_feed rest) rest, cleans)
    | inr k ↦ rw (h, k) (further Line rest e)
  ]
]

step_feed_return : (b : ℕ) (rest : List ℕ) → AgreesIn rest → Agrees FeedReturn (b ∷ rest) (go_on (after FeedReturn b) (λ p. search p rest))
step_feed_return b rest e = elim (test (b == line_feed)) [
  | inl h ↦ rw h (refl, refl)
  | inr h ↦ rw h (further Line rest e)
]

-- ---- all bytes

agrees : (bytes : List ℕ) → AgreesIn bytes
unfolding search
agrees [] EmptyLines = (refl, refl)
agrees [] EmptyLinesReturn = (refl, refl)
agrees [] Line = (refl, refl)
agrees [] Feed = (refl, refl)
agrees [] FeedReturn = (refl, refl)
agrees (b ∷ rest) EmptyLines = step_empty b rest (agrees rest)
agrees (b ∷ rest) EmptyLinesReturn = step_empty_return b rest (agrees rest)
agrees (b ∷ rest) Line = step_line b rest (agrees rest)
agrees (b ∷ rest) Feed = step_feed b rest (agrees rest)
agrees (b ∷ rest) FeedReturn = step_feed_return b rest (agrees rest)

-- the search finds the end
pub search_finds : (bytes : List ℕ) (ending : Ending) → result_ok (search ending bytes) ≡ found ending bytes
search_finds bytes ending = (agrees bytes ending).0

-- the search says whether only empty lines were there
pub search_clean : (bytes : List ℕ) (ending : Ending) → ends_clean (search ending bytes) ≡ clean ending bytes
search_clean bytes ending = (agrees bytes ending).1
