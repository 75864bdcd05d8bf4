-- Where a comment, or a list of COMMENT, ends within a line, and that it goes on where it doesn't.
use Rattle.std.proofs.Common.{◌≡◌, ℕ, zero, suc, ◌+◌, ◌==◌, ◌<◌, ◌||◌, Bool, true, false, cond, List, [], ◌∷◌, ◌++◌, length, take, drop, get_or, Option, Some, None, Result, Ok, Err, refl, sym, ◌∙◌, ap, subst, arith, append_assoc, add-one}
use Rattle.std.proofs.Math.Seq.{take-suc, drop-cons}
use Rattle.std.proofs.lemmas.Bool.Decides.{nat_tests}
use Rattle.mcs_reader.specs.Byte.{line_end}
use Rattle.mcs_reader.specs.Comment.{ends_comment}
use Rattle.mcs_reader.specs.Run.{begins_value, value_run, after_value}
use Rattle.mcs_reader.specs.Scan.{after_comment, after_raw}
use Rattle.mcs_reader.proofs.RawFacts.{raw-open, raw-close, raw-close_last, raw-byte}

-- what is found in a line, for the text in which the line stands
abbrev pub InComment : List ℕ → Option (List ℕ) → Type 0
InComment columns None = (text : List ℕ) → after_comment (columns ++ line_end ∷ text) ≡ after_comment text
InComment columns (Some rest) =
    (front : List ℕ) × (columns ≡ front ++ rest) × ((text : List ℕ) → after_comment (columns ++ line_end ∷ text) ≡ Some (rest ++ line_end ∷ text))

comment_step : (b : ℕ) (columns : List ℕ) (found : Option (List ℕ)) → ((text : List ℕ) → after_comment (b ∷ (columns ++ line_end ∷ text)) ≡ after_comment (columns ++ line_end ∷ text))
    → InComment columns found → InComment (b ∷ columns) found
comment_step b columns None same is = λ text. same text ∙ is text
comment_step b columns (Some rest) same is = (b ∷ is.0, ap (λ t. b ∷ t) is.1, λ text. same text ∙ is.2 text)

pub in_comment : (columns : List ℕ) → InComment columns (after_comment columns)
in_comment [] = λ text. refl
in_comment (b ∷ []) = by_test (b == 42) refl where
  by_test : (t : Bool) → (b == 42) ≡ t → InComment (b ∷ []) (cond (cond t false false) (Some []) None)
  by_test true e = λ text. ap (λ t. cond (cond t false false) (Some text) (after_comment text)) e
  by_test false e = λ text. ap (λ t. cond (cond t false false) (Some text) (after_comment text)) e
in_comment (b ∷ c ∷ columns) = by_test (ends_comment (b ∷ c ∷ columns)) refl (in_comment (c ∷ columns)) where
  by_test : (t : Bool) → ends_comment (b ∷ c ∷ columns) ≡ t → InComment (c ∷ columns) (after_comment (c ∷ columns)) → InComment (b ∷ c ∷ columns) (cond t (Some columns) (after_comment (c ∷ columns)))
  by_test true e after = (b ∷ c ∷ [], refl, λ text. ap (λ t. cond t (Some (columns ++ line_end ∷ text)) (after_comment ((c ∷ columns) ++ line_end ∷ text))) e)
  by_test false e after =
      comment_step b (c ∷ columns) (after_comment (c ∷ columns)) (λ text. ap (λ t. cond t (Some (columns ++ line_end ∷ text)) (after_comment ((c ∷ columns) ++ line_end ∷ text))) e) after

abbrev pub InRaw : ℕ → List ℕ → Result (List ℕ) ℕ → Type 0
InRaw depth columns (Err unclosed) = (text : List ℕ) → after_raw depth (columns ++ line_end ∷ text) ≡ after_raw unclosed text
InRaw depth columns (Ok rest) =
    (front : List ℕ) × (columns ≡ front ++ rest) × ((text : List ℕ) → after_raw depth (columns ++ line_end ∷ text) ≡ Ok (rest ++ line_end ∷ text))

raw_step : (depth next b : ℕ) (columns : List ℕ) (found : Result (List ℕ) ℕ) → ((text : List ℕ) → after_raw depth (b ∷ text) ≡ after_raw next text)
    → InRaw next columns found → InRaw depth (b ∷ columns) found
raw_step depth next b columns (Err unclosed) same is = λ text. same (columns ++ line_end ∷ text) ∙ is text
raw_step depth next b columns (Ok rest) same is = (b ∷ is.0, ap (λ t. b ∷ t) is.1, λ text. same (columns ++ line_end ∷ text) ∙ is.2 text)

raw_goes_on : (depth next b : ℕ) (columns : List ℕ) → ((text : List ℕ) → after_raw depth (b ∷ text) ≡ after_raw next text)
    → InRaw next columns (after_raw next columns) → InRaw depth (b ∷ columns) (after_raw depth (b ∷ columns))
raw_goes_on depth next b columns same is = subst (InRaw depth (b ∷ columns)) (sym (same columns)) (raw_step depth next b columns (after_raw next columns) same is)

raw_closes : (depth : ℕ) (columns : List ℕ) → ((next : ℕ) → InRaw next columns (after_raw next columns)) → InRaw depth (41 ∷ columns) (after_raw depth (41 ∷ columns))
raw_closes zero columns after = (41 ∷ [], refl, λ text. raw-close_last (columns ++ line_end ∷ text))
raw_closes (suc depth) columns after = raw_goes_on (suc depth) depth 41 columns (λ text. raw-close depth text) (after depth)

raw_end_line : (depth : ℕ) → InRaw depth [] (after_raw depth [])
raw_end_line zero = λ text. raw-byte zero line_end text refl
raw_end_line (suc depth) = λ text. raw-byte (suc depth) line_end text refl

pub in_raw : (depth : ℕ) (columns : List ℕ) → InRaw depth columns (after_raw depth columns)
in_raw depth [] = raw_end_line depth
in_raw depth (b ∷ columns) = by_open (b == 40) refl (λ next. in_raw next columns) where
  After : Type 0
  After = (next : ℕ) → InRaw next columns (after_raw next columns)

  P : ℕ → Type 0
  P n = InRaw depth (n ∷ columns) (after_raw depth (n ∷ columns))

  by_close : (t : Bool) → (b == 40) ≡ false → (b == 41) ≡ t → After → P b
  by_close true other e after = let close : b ≡ 41 = grind (arith, nat_tests) in subst P (sym close) (raw_closes depth columns after)
  by_close false other e after = raw_goes_on depth depth b columns (λ text. raw-byte depth b text (ap (λ t. t || (b == 41)) other ∙ e)) (after depth)

  by_open : (t : Bool) → (b == 40) ≡ t → After → P b
  by_open true e after =
      let opens : b ≡ 40 = grind (arith, nat_tests) in
      subst P (sym opens) (raw_goes_on depth (suc depth) 40 columns (λ text. raw-open depth text) (after (suc depth)))
  by_open false e after = by_close (b == 41) e refl after

-- a value, byte by byte

pub one_more_byte : (columns : List ℕ) (n : ℕ) → n < length columns → (b : ℕ) × (drop n columns ≡ b ∷ drop (n + 1) columns) × (take (n + 1) columns ≡ take n columns ++ b ∷ [])
one_more_byte columns n less = (
  get_or columns n 0,
  drop-cons columns n 0 less ∙ ap (λ k. get_or columns n 0 ∷ drop k columns) (sym (add-one n)),
  ap (λ k. take k columns) (add-one n) ∙ take-suc columns n 0 less,
)

pub value_goes_on_at : (b : ℕ) (text : List ℕ) → begins_value (b ∷ text) ≡ true → (value_run (b ∷ text) ≡ b ∷ value_run text) × (after_value (b ∷ text) ≡ after_value text)
value_goes_on_at b text h = (ap (λ t. cond t (b ∷ value_run text) []) h, ap (λ t. cond t (after_value text) (b ∷ text)) h)

-- what the value has so far, with one byte more
pub value_grows : (columns : List ℕ) (n : ℕ) → n < length columns → begins_value (drop n columns) ≡ true → value_run columns ≡ take n columns ++ value_run (drop n columns)
    → value_run columns ≡ take (n + 1) columns ++ value_run (drop (n + 1) columns)
value_grows columns n less h so_far =
    let more = one_more_byte columns n less in
    let rest : List ℕ = drop (n + 1) columns in
    let goes_on = value_goes_on_at more.0 rest (ap begins_value (sym more.1) ∙ h) in
    so_far
    ∙ ap (λ t. take n columns ++ value_run t) more.1
    ∙ ap (λ t. take n columns ++ t) goes_on.0
    ∙ sym (append_assoc (take n columns) (more.0 ∷ []) (value_run rest))
    ∙ ap (λ t. t ++ value_run rest) (sym more.2)

pub after_value_stays : (columns : List ℕ) (n : ℕ) → n < length columns → begins_value (drop n columns) ≡ true → after_value (drop n columns) ≡ after_value (drop (n + 1) columns)
after_value_stays columns n less h =
    let more = one_more_byte columns n less in
    ap after_value more.1 ∙ (value_goes_on_at more.0 (drop (n + 1) columns) (ap begins_value (sym more.1) ∙ h)).1

-- a line's end stops a value

begins_value-line : (b : ℕ) (line text : List ℕ) → begins_value (b ∷ (line ++ line_end ∷ text)) ≡ begins_value (b ∷ line)
begins_value-line b [] text = refl
begins_value-line b (c ∷ line) text = refl

no_value_at_end : (text : List ℕ) → begins_value (line_end ∷ text) ≡ false
unfolding Rattle.mcs_reader.specs.Byte.role_of
no_value_at_end text = refl

pub value_run-line : (line text : List ℕ) → value_run (line ++ line_end ∷ text) ≡ value_run line
value_run-line [] text = ap (λ t. cond t (line_end ∷ value_run text) []) (no_value_at_end text)
value_run-line (b ∷ line) text =
    ap (λ t. cond t (b ∷ value_run (line ++ line_end ∷ text)) []) (begins_value-line b line text)
    ∙ ap (λ l. cond (begins_value (b ∷ line)) (b ∷ l) []) (value_run-line line text)

pub after_value-line : (line text : List ℕ) → after_value (line ++ line_end ∷ text) ≡ after_value line ++ line_end ∷ text
after_value-line [] text = ap (λ t. cond t (after_value text) (line_end ∷ text)) (no_value_at_end text)
after_value-line (b ∷ line) text = ap (λ t. cond t (after_value (line ++ line_end ∷ text)) (b ∷ (line ++ line_end ∷ text))) (begins_value-line b line text) ∙ by_test (begins_value (b ∷ line)) (after_value-line line text) where
  by_test : (t : Bool) → after_value (line ++ line_end ∷ text) ≡ after_value line ++ line_end ∷ text
      → cond t (after_value (line ++ line_end ∷ text)) (b ∷ (line ++ line_end ∷ text)) ≡ cond t (after_value line) (b ∷ line) ++ line_end ∷ text
  by_test true e = e
  by_test false e = refl

pub drop-two : (text : List ℕ) → drop 1 (drop 1 text) ≡ drop 2 text
drop-two [] = refl
drop-two (a ∷ []) = refl
drop-two (a ∷ b ∷ text) = refl
