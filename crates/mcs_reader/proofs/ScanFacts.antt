-- What the machine does with one byte of each role, and where it passes bytes over.
use Rattle.std.proofs.Common.{◌≡◌, ℕ, zero, suc, ◌-◌, ◌==◌, Bool, true, false, cond, List, [], ◌∷◌, ◌++◌, length, drop, None, Ok, Err, refl, sym, ◌∙◌, ap, arith, length-append}
use Rattle.mcs_reader.specs.Byte.{is_name_byte, line_end, belongs_to_value}
use Rattle.mcs_reader.specs.Comment.{role_here}
use Rattle.mcs_reader.specs.declared.byte.ByteRole.{ByteRole}
use Rattle.mcs_reader.specs.declared.byte.ByteRole.TheVariants.{Gap, Comment, Name, Open, Close, Period, Other}
use Rattle.mcs_reader.specs.declared.fault.McsFault.TheVariants.{NoPeriod, Unbalanced}
use Rattle.mcs_reader.specs.Pieces.{Before, no_name, named_before}
use Rattle.mcs_reader.specs.Run.{run, value_run}
use Rattle.mcs_reader.specs.Scan.{pass, scan, on_found, with_name, with_values, closing, stray, after_comment, past, opening}

-- bytes that are passed over

pub skip-step : (line skip depth : ℕ) (before : Before) (begun : Bool) (b : ℕ) (text : List ℕ) → pass line (suc skip) depth before begun (b ∷ text) ≡ pass line skip depth before begun text
unfolding pass
skip-step line skip zero before begun b text = refl
skip-step line skip (suc depth) before begun b text = refl

pub pass-front : (line depth : ℕ) (before : Before) (begun : Bool) (front rest : List ℕ) → pass line (length front) depth before begun (front ++ rest) ≡ scan line depth before begun rest
pass-front line depth before begun [] rest = refl
pass-front line depth before begun (b ∷ front) rest = skip-step line (length front) depth before begun b (front ++ rest) ∙ pass-front line depth before begun front rest

pub passed : (line depth : ℕ) (before : Before) (text front rest : List ℕ) → text ≡ front ++ rest → pass line (length text - length rest) depth before false text ≡ scan line depth before false rest
passed line depth before text front rest whole =
    let size = ap length whole in
    let parts = length-append front rest in
    let skip : length text - length rest ≡ length front = omega arith in
    ap (λ n. pass line n depth before false text) skip ∙ ap (pass line (length front) depth before false) whole ∙ pass-front line depth before false front rest

-- outside lists

pub scan-gap : (line : ℕ) (before : Before) (begun : Bool) (b : ℕ) (text : List ℕ) → role_here b text ≡ Gap → scan line zero before begun (b ∷ text) ≡ scan line zero before (b == line_end) text
unfolding pass
scan-gap line before begun b text is = rw (is, pass) refl

pub scan-comment_step : (line : ℕ) (before : Before) (begun : Bool) (b : ℕ) (text : List ℕ) → role_here b text ≡ Comment
    → scan line zero before begun (b ∷ text) ≡ past line text (after_comment (drop 1 text)) (λ skip. pass line skip zero before false text)
unfolding pass
scan-comment_step line before begun b text is = rw (is, pass) refl

pub scan-name_step : (line : ℕ) (before : Before) (begun : Bool) (b : ℕ) (text : List ℕ) → role_here b text ≡ Name
    → scan line zero before begun (b ∷ text)
    ≡ on_found (with_name (run is_name_byte (b ∷ text))) (pass line (length (run is_name_byte text)) zero (named_before (run is_name_byte (b ∷ text))) false text)
unfolding pass
scan-name_step line before begun b text is = rw (is, pass) refl

pub scan-open : (line : ℕ) (before : Before) (begun : Bool) (b : ℕ) (text : List ℕ) → role_here b text ≡ Open
    → scan line zero before begun (b ∷ text) ≡ opening line before text (scan line 1 no_name false text) (λ skip. pass line skip zero no_name false text)
unfolding pass
scan-open line before begun b text is = rw (is, pass) refl

pub scan-close : (line : ℕ) (before : Before) (begun : Bool) (b : ℕ) (text : List ℕ) → role_here b text ≡ Close → scan line zero before begun (b ∷ text) ≡ Err (Unbalanced line)
unfolding pass
scan-close line before begun b text is = rw (is, pass) refl

pub scan-period : (line : ℕ) (before : Before) (begun : Bool) (b : ℕ) (text : List ℕ) → role_here b text ≡ Period → scan line zero before begun (b ∷ text) ≡ Ok (record { values = None; operands = []; rest = text })
unfolding pass
scan-period line before begun b text is = rw (is, pass) refl

pub scan-other : (line : ℕ) (before : Before) (begun : Bool) (b : ℕ) (text : List ℕ) → role_here b text ≡ Other → scan line zero before begun (b ∷ text) ≡ Err (stray line begun (b ∷ text))
unfolding pass
scan-other line before begun b text is = rw (is, pass) refl

pub scan-end : (line : ℕ) (before : Before) (begun : Bool) → scan line zero before begun [] ≡ Err (NoPeriod line)
unfolding pass
scan-end line before begun = refl

-- inside lists

pub scan-inside-end : (line depth : ℕ) → scan line (suc depth) no_name false [] ≡ Err (Unbalanced line)
unfolding pass
scan-inside-end line depth = refl

pub scan-inside-gap : (line depth : ℕ) (b : ℕ) (text : List ℕ) → role_here b text ≡ Gap → scan line (suc depth) no_name false (b ∷ text) ≡ scan line (suc depth) no_name false text
unfolding pass
scan-inside-gap line depth b text is = rw (is, pass) refl

pub scan-inside-comment_step : (line depth : ℕ) (b : ℕ) (text : List ℕ) → role_here b text ≡ Comment
    → scan line (suc depth) no_name false (b ∷ text) ≡ past line text (after_comment (drop 1 text)) (λ skip. pass line skip (suc depth) no_name false text)
unfolding pass
scan-inside-comment_step line depth b text is = rw (is, pass) refl

pub scan-inside-open : (line depth : ℕ) (b : ℕ) (text : List ℕ) → role_here b text ≡ Open → scan line (suc depth) no_name false (b ∷ text) ≡ scan line (suc (suc depth)) no_name false text
unfolding pass
scan-inside-open line depth b text is = rw (is, pass) refl

pub scan-inside-close : (line depth : ℕ) (b : ℕ) (text : List ℕ) → role_here b text ≡ Close → scan line (suc depth) no_name false (b ∷ text) ≡ closing depth (scan line depth no_name false text)
unfolding pass
scan-inside-close line depth b text is = rw (is, pass) refl

-- The same for each role that belongs to a value.
value_step : (line depth : ℕ) (b : ℕ) (text : List ℕ) (role : ByteRole) → role_here b text ≡ role → belongs_to_value role ≡ true → value_run (b ∷ text) ≡ b ∷ value_run text →
    scan line (suc depth) no_name false (b ∷ text) ≡ on_found (with_values ((b ∷ value_run text) ∷ [])) (pass line (length (value_run text)) (suc depth) no_name false text)
unfolding pass
value_step line depth b text Gap is belongs whole = absurd (cc)
value_step line depth b text Comment is belongs whole = absurd (cc)
value_step line depth b text Open is belongs whole = absurd (cc)
value_step line depth b text Close is belongs whole = absurd (cc)
value_step line depth b text Name is belongs whole =
    rw (is, pass) (ap (λ v. on_found (with_values (v ∷ [])) (pass line (length (value_run text)) (suc depth) no_name false text)) whole)
value_step line depth b text Period is belongs whole =
    rw (is, pass) (ap (λ v. on_found (with_values (v ∷ [])) (pass line (length (value_run text)) (suc depth) no_name false text)) whole)
value_step line depth b text Other is belongs whole =
    rw (is, pass) (ap (λ v. on_found (with_values (v ∷ [])) (pass line (length (value_run text)) (suc depth) no_name false text)) whole)

pub scan-inside-value_step : (line depth : ℕ) (b : ℕ) (text : List ℕ) → belongs_to_value (role_here b text) ≡ true →
    scan line (suc depth) no_name false (b ∷ text) ≡ on_found (with_values (value_run (b ∷ text) ∷ [])) (pass line (length (value_run text)) (suc depth) no_name false text)
scan-inside-value_step line depth b text belongs =
    let whole : value_run (b ∷ text) ≡ b ∷ value_run text = ap (λ t. cond t (b ∷ value_run text) []) belongs in
    value_step line depth b text (role_here b text) refl belongs whole
    ∙ ap (λ v. on_found (with_values (v ∷ [])) (pass line (length (value_run text)) (suc depth) no_name false text)) (sym whole)
