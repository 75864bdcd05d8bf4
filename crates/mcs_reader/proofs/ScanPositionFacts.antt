-- What the machine does at a position, by the role of the byte there.
use Rattle.std.proofs.Common.{◌≡◌, ℕ, zero, suc, ◌+◌, ◌-◌, ◌==◌, ◌≤◌, ◌<◌, ◌&&◌, ◌⊎◌, inl, inr, Bool, true, false, cond, List, [], ◌∷◌, ◌++◌, length, drop, Some, None, IsSome, Err, refl, sym, ◌∙◌, ap, subst, arith, length-append}
use Rattle.std.proofs.lemmas.Bool.Decides.{nat_tests}
use Rattle.mcs_reader.specs.Byte.{role_of, is_blank, belongs_to_value, line_end}
use Rattle.mcs_reader.specs.Comment.{role_here, IsCommentText}
use Rattle.mcs_reader.specs.declared.byte.ByteRole.{ByteRole}
use Rattle.mcs_reader.specs.declared.byte.ByteRole.TheVariants.{Gap, Comment, Name, Open, Close, Period, Other}
use Rattle.mcs_reader.specs.declared.fault.McsFault.TheVariants.{NoPeriod, Unbalanced, BadByte}
use Rattle.mcs_reader.specs.Line.{begins_statement}
use Rattle.mcs_reader.specs.Pieces.{Before, no_name}
use Rattle.mcs_reader.specs.Position.{Position, IsAfter, role_at, after_line}
use Rattle.mcs_reader.specs.Run.{run, after_run, begins_value, value_run, after_value}
use Rattle.mcs_reader.specs.Scan.{pass, scan, Outcome, on_found, with_list, with_values, closing, after_comment}
use Rattle.mcs_reader.proofs.RoleFacts.{role_of-43}
use Rattle.mcs_reader.proofs.CommentFacts.{here_of, value_run-append-after_value, comment_at, Ended, comment_cut, after_comment-ends, after_comment-open}
use Rattle.mcs_reader.proofs.CutFacts.{begins_with_pluses}
use Rattle.mcs_reader.proofs.RunFacts.{run-append-after_run}
use Rattle.mcs_reader.proofs.ScanFacts.{pass-front, scan-gap, scan-other, scan-end, scan-inside-end, scan-inside-gap, scan-inside-open, scan-inside-close, scan-inside-value_step}
use Rattle.mcs_reader.proofs.ScanPiecesFacts.{scan-comment, scan-open_comment, scan-inside-comment, scan-inside-open_comment}

role_of-end : role_of line_end ≡ Gap
unfolding role_of
role_of-end = refl

-- the byte at a position of this role
pub record Here (text : List ℕ) (role : ByteRole) : Type 0 where
  pub byte : ℕ
  pub rest : List ℕ
  pub whole : text ≡ byte ∷ rest
  pub role_is : role_here byte rest ≡ role

pub here : (text : List ℕ) (role : ByteRole) → Some role ≡ role_at text → Here text role
here [] role h = absurd (cc)
here (b ∷ text) role h = by_test (b == line_end) h where
  by_test : (t : Bool) → Some role ≡ cond t None (Some (role_here b text)) → Here (b ∷ text) role
  by_test true e = absurd (cc)
  by_test false e = record { byte = b; rest = text; whole = refl; role_is = cc }

-- at the line's end
pub record AtEnd (text : List ℕ) : Type 0 where
  pub found : (line depth : ℕ) → scan line (suc depth) no_name false text ≡ scan line (suc depth) no_name false (after_line text)
  pub outside : (line : ℕ) (before : Before) (begun : Bool) → (after_line text ≡ [] → ⊥) → scan line zero before begun text ≡ scan line zero before true (after_line text)
  pub at_end : (line : ℕ) (before : Before) (begun : Bool) → after_line text ≡ [] → scan line zero before begun text ≡ Err (NoPeriod line)

pub ended : (text : List ℕ) → None ≡ role_at text → AtEnd text
ended [] h = record {
  found = λ line depth. refl;
  outside = λ line before begun more. absurd (more refl);
  at_end = λ line before begun none. scan-end line before begun;
}
ended (b ∷ text) h = by_test (b == line_end) refl h where
  by_test : (t : Bool) → (b == line_end) ≡ t → None ≡ cond t None (Some (role_here b text)) → AtEnd (b ∷ text)
  by_test false e none = absurd (cc)
  by_test true e none =
      let is_end : b ≡ line_end = grind (arith, nat_tests) in
      let gap_is : role_here b text ≡ Gap = ap (λ n. role_here n text) is_end ∙ role_of-end in
      let after : after_line (b ∷ text) ≡ text = ap (λ t. cond t text (after_line text)) e in
      record {
        found = λ line depth. scan-inside-gap line depth b text gap_is ∙ ap (scan line (suc depth) no_name false) (sym after);
        outside = λ line before begun more. scan-gap line before begun b text gap_is ∙ ap (λ t. scan line zero before t text) e ∙ ap (scan line zero before true) (sym after);
        at_end = λ line before begun last. scan-gap line before begun b text gap_is ∙ ap (scan line zero before (b == line_end)) (sym after ∙ last) ∙ scan-end line before (b == line_end);
      }

-- in a list, where at least one parenthesis is open

pub inside_end : (line depth : ℕ) (text : List ℕ) → 0 < depth → None ≡ role_at text → scan line depth no_name false text ≡ scan line depth no_name false (after_line text)
inside_end line zero text deep h = absurd (omega arith)
inside_end line (suc depth) text deep h = (ended text h).found line depth

pub inside_last : (line depth : ℕ) (text : List ℕ) → 0 < depth → None ≡ role_at text → after_line text ≡ [] → scan line depth no_name false text ≡ Err (Unbalanced line)
inside_last line zero text deep h last = absurd (omega arith)
inside_last line (suc depth) text deep h last =
    (ended text h).found line depth ∙ ap (scan line (suc depth) no_name false) last ∙ scan-inside-end line depth

pub inside_gap : (line depth : ℕ) (text : List ℕ) → 0 < depth → Some Gap ≡ role_at text → scan line depth no_name false text ≡ scan line depth no_name false (drop 1 text)
inside_gap line zero text deep h = absurd (omega arith)
inside_gap line (suc depth) text deep h =
    let at = here text Gap h in
    ap (scan line (suc depth) no_name false) at.whole
    ∙ scan-inside-gap line depth at.byte at.rest at.role_is
    ∙ ap (λ t. scan line (suc depth) no_name false (drop 1 t)) (sym at.whole)

pub inside_open : (line depth : ℕ) (text : List ℕ) → 0 < depth → Some Open ≡ role_at text → scan line depth no_name false text ≡ scan line (depth + 1) no_name false (drop 1 text)
inside_open line zero text deep h = absurd (omega arith)
inside_open line (suc depth) text deep h =
    let at = here text Open h in
    let deeper : suc (suc depth) ≡ suc depth + 1 = omega arith in
    ap (scan line (suc depth) no_name false) at.whole
    ∙ scan-inside-open line depth at.byte at.rest at.role_is
    ∙ ap (λ d. scan line d no_name false at.rest) deeper
    ∙ ap (λ t. scan line (suc depth + 1) no_name false (drop 1 t)) (sym at.whole)

close_at : (line depth : ℕ) (text : List ℕ) → Some Close ≡ role_at text → scan line (suc depth) no_name false text ≡ closing depth (scan line depth no_name false (drop 1 text))
close_at line depth text h =
    let at = here text Close h in
    ap (scan line (suc depth) no_name false) at.whole
    ∙ scan-inside-close line depth at.byte at.rest at.role_is
    ∙ ap (λ t. closing depth (scan line depth no_name false (drop 1 t))) (sym at.whole)

-- the parenthesis that closes the list
pub inside_close_last : (line depth : ℕ) (text : List ℕ) → 0 < depth → Some Close ≡ role_at text → depth - 1 ≡ 0 → scan line depth no_name false text ≡ on_found (with_list []) (scan line 0 no_name false (drop 1 text))
inside_close_last line zero text deep h last = absurd (omega arith)
inside_close_last line (suc zero) text deep h last = close_at line zero text h
inside_close_last line (suc (suc depth)) text deep h last = absurd (omega arith)

-- the parenthesis that closes a list within it
pub inside_close : (line depth : ℕ) (text : List ℕ) → 0 < depth → Some Close ≡ role_at text → (depth - 1 ≡ 0 → ⊥) → scan line depth no_name false text ≡ scan line (depth - 1) no_name false (drop 1 text)
inside_close line zero text deep h more = absurd (omega arith)
inside_close line (suc zero) text deep h more = absurd (more refl)
inside_close line (suc (suc depth)) text deep h more =
    let less : suc depth ≡ suc (suc depth) - 1 = omega arith in
    close_at line (suc depth) text h ∙ ap (λ d. scan line d no_name false (drop 1 text)) less

pub shorter_after_run : (test : ℕ → Bool) (b : ℕ) (text : List ℕ) → test b ≡ true → length (after_run test (b ∷ text)) < length (b ∷ text)
shorter_after_run test b text h =
    let cut : after_run test (b ∷ text) ≡ after_run test text = ap (λ t. cond t (after_run test text) (b ∷ text)) h in
    let P : List ℕ → Type 0 = λ l. length l < length (b ∷ text) in
    let whole = ap length (run-append-after_run test text) in
    let size = length-append (run test text) (after_run test text) in
    subst P (sym cut) (omega arith)

shorter_after_value : (b : ℕ) (text : List ℕ) → begins_value (b ∷ text) ≡ true → length (after_value (b ∷ text)) < length (b ∷ text)
shorter_after_value b text h =
    let cut : after_value (b ∷ text) ≡ after_value text = ap (λ t. cond t (after_value text) (b ∷ text)) h in
    let P : List ℕ → Type 0 = λ l. length l < length (b ∷ text) in
    let whole = ap length (value_run-append-after_value text) in
    let size = length-append (value_run text) (after_value text) in
    subst P (sym cut) (omega arith)

value_first : (line depth b : ℕ) (text : List ℕ) → begins_value (b ∷ text) ≡ true
    → scan line (suc depth) no_name false (b ∷ text) ≡ on_found (with_values (value_run (b ∷ text) ∷ [])) (scan line (suc depth) no_name false (after_value (b ∷ text)))
value_first line depth b text h =
    let cut : after_value (b ∷ text) ≡ after_value text = ap (λ t. cond t (after_value text) (b ∷ text)) h in
    scan-inside-value_step line depth b text h
    ∙ ap (on_found (with_values (value_run (b ∷ text) ∷ [])))
    (ap (pass line (length (value_run text)) (suc depth) no_name false) (sym (value_run-append-after_value text))
    ∙ pass-front line (suc depth) no_name false (value_run text) (after_value text)
    ∙ ap (scan line (suc depth) no_name false) (sym cut))

value_at : (line depth : ℕ) (text : List ℕ) (role : ByteRole) → Some role ≡ role_at text → belongs_to_value role ≡ true
    → (scan line (suc depth) no_name false text ≡ on_found (with_values (value_run text ∷ [])) (scan line (suc depth) no_name false (after_value text)))
    × (length (after_value text) < length text)
value_at line depth text role h belongs =
    let at = here text role h in
    let is : begins_value (at.byte ∷ at.rest) ≡ true = ap belongs_to_value at.role_is ∙ belongs in
    let P : List ℕ → Type 0 = λ t.
    (scan line (suc depth) no_name false t ≡ on_found (with_values (value_run t ∷ [])) (scan line (suc depth) no_name false (after_value t)))
    × (length (after_value t) < length t) in
    let found : P (at.byte ∷ at.rest) = (value_first line depth at.byte at.rest is, shorter_after_value at.byte at.rest is) in
    subst P (sym at.whole) found

pub inside_value : (line depth : ℕ) (text : List ℕ) (role : ByteRole) → 0 < depth → Some role ≡ role_at text → belongs_to_value role ≡ true
    → (scan line depth no_name false text ≡ on_found (with_values (value_run text ∷ [])) (scan line depth no_name false (after_value text)))
    × (length (after_value text) < length text)
inside_value line zero text role deep h belongs = absurd (omega arith)
inside_value line (suc depth) text role deep h belongs = value_at line depth text role h belongs

pub shorter_at : (text : List ℕ) (role : ByteRole) → Some role ≡ role_at text → length (drop 1 text) + 1 ≡ length text
shorter_at text role h =
    let at = here text role h in
    let P : List ℕ → Type 0 = λ t. length (drop 1 t) + 1 ≡ length t in
    let size : P (at.byte ∷ at.rest) = omega arith in
    subst P (sym at.whole) size

shorter_line : (text : List ℕ) → length (after_line text) ≤ length text
shorter_line [] = omega arith
shorter_line (b ∷ text) = by_test (b == line_end) (shorter_line text) where
  by_test : (t : Bool) → length (after_line text) ≤ length text → length (cond t text (after_line text)) ≤ length (b ∷ text)
  by_test true less = omega arith
  by_test false less = omega arith

pub shorter_after_line : (text : List ℕ) → 0 < length (after_line text) → length (after_line text) < length text
shorter_after_line [] more = more
shorter_after_line (b ∷ text) more = by_test (b == line_end) (shorter_line text) where
  by_test : (t : Bool) → length (after_line text) ≤ length text → length (cond t text (after_line text)) < length (b ∷ text)
  by_test true less = omega arith
  by_test false less = omega arith

pub IsAfter-trans : (now between before : Position) → IsAfter now between → IsAfter between before → IsAfter now before
IsAfter-trans now between before one two = record { text = omega (arith, one.text, two.text); lines = one.lines ∙ two.lines; passed = omega (arith, one.passed, two.passed) }

-- what is no gap and no parenthesis belongs to a value
pub else_value : (role : ByteRole) → (role ≡ Gap → ⊥) → (role ≡ Comment → ⊥) → (role ≡ Open → ⊥) → (role ≡ Close → ⊥) → belongs_to_value role ≡ true
else_value Gap no_gap no_comment no_open no_close = absurd (no_gap refl)
else_value Comment no_gap no_comment no_open no_close = absurd (no_comment refl)
else_value Open no_gap no_comment no_open no_close = absurd (no_open refl)
else_value Close no_gap no_comment no_open no_close = absurd (no_close refl)
else_value Name no_gap no_comment no_open no_close = refl
else_value Period no_gap no_comment no_open no_close = refl
else_value Other no_gap no_comment no_open no_close = refl

-- outside lists

at_other : (line : ℕ) (before : Before) (begun : Bool) (b : ℕ) (text : List ℕ) (role : ByteRole) → role_here b text ≡ role → (begun && begins_statement (b ∷ text)) ≡ false
    → scan line zero before begun (b ∷ text) ≡ scan line zero before false (b ∷ text)
unfolding pass
at_other line before begun b text Gap is none = rw (is, pass) refl
at_other line before begun b text Comment is none = rw (is, pass) refl
at_other line before begun b text Name is none = rw (is, pass) refl
at_other line before begun b text Open is none = rw (is, pass) refl
at_other line before begun b text Close is none = rw (is, pass) refl
at_other line before begun b text Period is none = rw (is, pass) refl
at_other line before begun b text Other is none =
    scan-other line before begun b text is ∙ ap (λ t. Err (cond t (NoPeriod line) (BadByte line))) none ∙ sym (scan-other line before false b text is)

-- a line's beginning matters only where ++ stands there
pub begun_line : (line : ℕ) (before : Before) (text : List ℕ) → begins_statement text ≡ false → scan line zero before true text ≡ scan line zero before false text
begun_line line before [] none = scan-end line before true ∙ sym (scan-end line before false)
begun_line line before (b ∷ text) none = at_other line before true b text (role_here b text) refl none

pub next_statement : (line : ℕ) (before : Before) (text : List ℕ) → begins_statement text ≡ true → scan line zero before true text ≡ Err (NoPeriod line)
next_statement line before text begins =
    let pluses = begins_with_pluses text begins in
    ap (scan line zero before true) pluses.1 ∙ scan-other line before true 43 (43 ∷ pluses.0) role_of-43

not_line_end : (b : ℕ) (text : List ℕ) (role : ByteRole) → Some role ≡ role_at (b ∷ text) → (b == line_end) ≡ false
not_line_end b text role h = by_test (b == line_end) refl h where
  by_test : (t : Bool) → (b == line_end) ≡ t → Some role ≡ cond t None (Some (role_here b text)) → (b == line_end) ≡ false
  by_test true e none = absurd (cc)
  by_test false e some = e

pub outside_gap : (line : ℕ) (before : Before) (text : List ℕ) → Some Gap ≡ role_at text → scan line zero before false text ≡ scan line zero before false (drop 1 text)
outside_gap line before [] h = absurd (cc)
outside_gap line before (b ∷ text) h =
    let no_end = not_line_end b text Gap h in
    let some_gap : Some (role_here b text) ≡ Some Gap = sym (ap (λ t. cond t None (Some (role_here b text))) no_end) ∙ sym h in
    let gap_is : role_here b text ≡ Gap = cc in
    scan-gap line before false b text gap_is ∙ ap (λ t. scan line zero before t text) no_end

-- blanks

blank_is_gap : (b : ℕ) → is_blank b ≡ true → role_of b ≡ Gap
unfolding role_of
blank_is_gap b h = rw h refl

blank_ends_no_line : (b : ℕ) → is_blank b ≡ true → (b == line_end) ≡ false
blank_ends_no_line b h = grind (arith, nat_tests)

pub outside_blanks : (line : ℕ) (before : Before) (text : List ℕ) → scan line zero before false text ≡ scan line zero before false (after_run is_blank text)
outside_blanks line before [] = refl
outside_blanks line before (b ∷ text) = by_test (is_blank b) refl (outside_blanks line before text) where
  by_test : (t : Bool) → is_blank b ≡ t → scan line zero before false text ≡ scan line zero before false (after_run is_blank text)
      → scan line zero before false (b ∷ text) ≡ scan line zero before false (cond t (after_run is_blank text) (b ∷ text))
  by_test false is after = refl
  by_test true is after =
      scan-gap line before false b text (here_of b text Gap (blank_is_gap b is) (λ e. cc))
      ∙ ap (λ t. scan line zero before t text) (blank_ends_no_line b is)
      ∙ after

blanks_inside : (line depth : ℕ) (text : List ℕ) → scan line (suc depth) no_name false text ≡ scan line (suc depth) no_name false (after_run is_blank text)
blanks_inside line depth [] = refl
blanks_inside line depth (b ∷ text) = by_test (is_blank b) refl (blanks_inside line depth text) where
  by_test : (t : Bool) → is_blank b ≡ t → scan line (suc depth) no_name false text ≡ scan line (suc depth) no_name false (after_run is_blank text)
      → scan line (suc depth) no_name false (b ∷ text) ≡ scan line (suc depth) no_name false (cond t (after_run is_blank text) (b ∷ text))
  by_test false is after = refl
  by_test true is after = scan-inside-gap line depth b text (here_of b text Gap (blank_is_gap b is) (λ e. cc)) ∙ after

pub inside_blanks : (line depth : ℕ) (text : List ℕ) → 0 < depth → scan line depth no_name false text ≡ scan line depth no_name false (after_run is_blank text)
inside_blanks line zero text deep = absurd (omega arith)
inside_blanks line (suc depth) text deep = blanks_inside line depth text

pub outside_line : (line : ℕ) (before : Before) (text : List ℕ) → None ≡ role_at text → 0 < length (after_line text) → begins_statement (after_line text) ≡ false
    → scan line zero before false text ≡ scan line zero before false (after_line text)
outside_line line before text h more none =
    (ended text h).outside line before false (λ e. absurd (let size = ap length e in omega arith)) ∙ begun_line line before (after_line text) none

pub outside_statement : (line : ℕ) (before : Before) (text : List ℕ) → None ≡ role_at text → 0 < length (after_line text) → begins_statement (after_line text) ≡ true
    → scan line zero before false text ≡ Err (NoPeriod line)
outside_statement line before text h more begins =
    (ended text h).outside line before false (λ e. absurd (let size = ap length e in omega arith)) ∙ next_statement line before (after_line text) begins

pub outside_last : (line : ℕ) (before : Before) (text : List ℕ) → None ≡ role_at text → after_line text ≡ [] → scan line zero before false text ≡ Err (NoPeriod line)
outside_last line before text h last = (ended text h).at_end line before false last

-- a comment that begins here

record CommentHere (text : List ℕ) : Type 0 where
  pub rest : List ℕ
  pub whole : text ≡ 47 ∷ 42 ∷ rest

comment_here : (text : List ℕ) → role_at text ≡ Some Comment → CommentHere text
comment_here text h =
    let at = here text Comment (sym h) in
    let cut = comment_at at.byte at.rest at.role_is in
    record { rest = cut.rest; whole = at.whole ∙ ap (λ n. n ∷ at.rest) cut.byte_is ∙ ap (λ t. 47 ∷ t) cut.whole }

-- the byte after the first one of a comment's beginning stands in the same line
pub comment_goes_on : (text : List ℕ) → role_at text ≡ Some Comment → IsSome (role_at (drop 1 text))
comment_goes_on text h =
    let P : List ℕ → Type 0 = λ t. IsSome (role_at (drop 1 t)) in
    let some : P (47 ∷ 42 ∷ (comment_here text h).rest) = refl in
    subst P (sym (comment_here text h).whole) some

-- whatever is found after a comment, is found before it
passes : (found : List ℕ → Outcome) (line : ℕ)
    → ((body rest : List ℕ) → IsCommentText body → found (47 ∷ 42 ∷ (body ++ 42 ∷ 47 ∷ rest)) ≡ found rest)
    → (text rest : List ℕ) → role_at text ≡ Some Comment → after_comment (drop 2 text) ≡ Some rest → found text ≡ found rest
passes found line over text rest h after = by_cut (comment_cut at.rest) where
  at : CommentHere text
  at = comment_here text h

  after_is : after_comment at.rest ≡ Some rest
  after_is = ap (λ t. after_comment (drop 2 t)) (sym at.whole) ∙ after

  by_cut : Ended at.rest ⊎ IsCommentText at.rest → found text ≡ found rest
  by_cut (inl c) =
      let ends : Some c.rest ≡ Some rest = sym (after_comment-ends c.body c.rest c.is) ∙ ap after_comment (sym c.whole) ∙ after_is in
      let same : c.rest ≡ rest = cc in
      ap found (at.whole ∙ ap (λ t. 47 ∷ 42 ∷ t) c.whole) ∙ over c.body c.rest c.is ∙ ap found same
  by_cut (inr unclosed) = absurd (let never = sym (after_comment-open at.rest unclosed) ∙ after_is in cc)

-- and what an open comment gives
stays_open : (found : List ℕ → Outcome) (line : ℕ)
    → ((body : List ℕ) → IsCommentText body → found (47 ∷ 42 ∷ body) ≡ Err (Unbalanced line))
    → (text : List ℕ) → role_at text ≡ Some Comment → after_comment (drop 2 text) ≡ None → found text ≡ Err (Unbalanced line)
stays_open found line opens text h after = by_cut (comment_cut at.rest) where
  at : CommentHere text
  at = comment_here text h

  after_is : after_comment at.rest ≡ None
  after_is = ap (λ t. after_comment (drop 2 t)) (sym at.whole) ∙ after

  by_cut : Ended at.rest ⊎ IsCommentText at.rest → found text ≡ Err (Unbalanced line)
  by_cut (inl c) = absurd (let ends = sym (after_comment-ends c.body c.rest c.is) ∙ ap after_comment (sym c.whole) ∙ after_is in cc)
  by_cut (inr unclosed) = ap found at.whole ∙ opens at.rest unclosed

pub outside_comment : (line : ℕ) (before : Before) (text rest : List ℕ) → role_at text ≡ Some Comment → after_comment (drop 2 text) ≡ Some rest
    → scan line zero before false text ≡ scan line zero before false rest
outside_comment line before text rest h after =
    passes (scan line zero before false) line (λ body rest is. scan-comment line before false body rest is) text rest h after

pub outside_open_comment : (line : ℕ) (before : Before) (text : List ℕ) → role_at text ≡ Some Comment → after_comment (drop 2 text) ≡ None → scan line zero before false text ≡ Err (Unbalanced line)
outside_open_comment line before text h after =
    stays_open (scan line zero before false) line (λ body is. scan-open_comment line before false body is) text h after

pub inside_comment : (line depth : ℕ) (text rest : List ℕ) → 0 < depth → role_at text ≡ Some Comment → after_comment (drop 2 text) ≡ Some rest
    → scan line depth no_name false text ≡ scan line depth no_name false rest
inside_comment line zero text rest deep h after = absurd (omega arith)
inside_comment line (suc depth) text rest deep h after =
    passes (scan line (suc depth) no_name false) line (λ body rest is. scan-inside-comment line depth body rest is) text rest h after

pub inside_open_comment : (line depth : ℕ) (text : List ℕ) → 0 < depth → role_at text ≡ Some Comment → after_comment (drop 2 text) ≡ None
    → scan line depth no_name false text ≡ Err (Unbalanced line)
inside_open_comment line zero text deep h after = absurd (omega arith)
inside_open_comment line (suc depth) text deep h after =
    stays_open (scan line (suc depth) no_name false) line (λ body is. scan-inside-open_comment line depth body is) text h after
