-- What the machine does outside lists, at a position of each role.
use Rattle.std.proofs.Common.{◌≡◌, ◌≢◌, ℕ, zero, suc, ◌-◌, ◌==◌, ◌<◌, inl, inr, Bool, true, false, List, [], ◌∷◌, length, drop, Option, Some, None, unwrap_or, Result, Ok, Err, IsErr, refl, sym, ◌∙◌, ap, subst}
use Rattle.mcs_reader.specs.Byte.{is_name_byte}
use Rattle.mcs_reader.specs.Comment.{role_here}
use Rattle.mcs_reader.specs.declared.byte.ByteRole.{ByteRole}
use Rattle.mcs_reader.specs.declared.byte.ByteRole.TheVariants.{Gap, Comment, Name, Open, Close, Period, Other}
use Rattle.mcs_reader.specs.declared.fault.McsFault.TheVariants.{NoPeriod, Unbalanced, BadByte}
use Rattle.mcs_reader.specs.Lists.{OpensList, after_raw_list}
use Rattle.mcs_reader.specs.Pieces.{Before, no_name, a_name, name_comment, named_before}
use Rattle.mcs_reader.specs.Position.{role_at}
use Rattle.mcs_reader.specs.Run.{run, after_run}
use Rattle.mcs_reader.specs.Scan.{pass, scan, Found, Outcome, on_found, with_name, with_list_after, with_operands, stray, after_comment, after_raw, past}
use Rattle.mcs_reader.proofs.RoleFacts.{role-is_name, role-is_open}
use Rattle.mcs_reader.proofs.CommentFacts.{plain}
use Rattle.mcs_reader.proofs.RawFacts.{RawAt, raw_cut, after_raw-ends, after_raw-open}
use Rattle.mcs_reader.proofs.RunFacts.{run-append-after_run, begins_with-after_run, is_word-run}
use Rattle.mcs_reader.proofs.ScanFacts.{skip-step, scan-gap, scan-comment_step, scan-name_step, scan-open, scan-close, scan-period, scan-other}
use Rattle.mcs_reader.proofs.ScanPiecesFacts.{scan-word, scan-raw_list, scan-open_raw}
use Rattle.mcs_reader.proofs.ScanPositionFacts.{here, shorter_after_run}

-- without a name before it, no list comes before the next name

abbrev pub without_values : Found → Found
without_values found = record { values = None; operands = found.operands; rest = found.rest }

without-name : (name : List ℕ) (r : Outcome) → on_found without_values (on_found (with_name name) r) ≡ on_found (with_name name) r
without-name name (Ok found) = refl
without-name name (Err fault) = refl

without-past : (line : ℕ) (text : List ℕ) (o : Option (List ℕ)) (next : ℕ → Outcome) → ((skip : ℕ) → on_found without_values (next skip) ≡ next skip)
    → on_found without_values (past line text o next) ≡ past line text o next
without-past line text None next same = refl
without-past line text (Some rest) next same = same (length text - length rest)

pass-end : (line skip : ℕ) (begun : Bool) → pass line skip zero no_name begun [] ≡ Err (NoPeriod line)
unfolding pass
pass-end line skip begun = refl

unnamed : (line skip : ℕ) (begun : Bool) (text : List ℕ) → on_found without_values (pass line skip zero no_name begun text) ≡ pass line skip zero no_name begun text
unnamed line skip begun [] = ap (on_found without_values) (pass-end line skip begun) ∙ sym (pass-end line skip begun)
unnamed line (suc skip) begun (b ∷ text) =
    let step = skip-step line skip zero no_name begun b text in
    ap (on_found without_values) step ∙ unnamed line skip begun text ∙ sym step
unnamed line zero begun (b ∷ text) = by_role (role_here b text) refl (λ skip begun. unnamed line skip begun text) where
  from : (r : Outcome) → scan line zero no_name begun (b ∷ text) ≡ r → on_found without_values r ≡ r → on_found without_values (scan line zero no_name begun (b ∷ text)) ≡ scan line zero no_name begun (b ∷ text)
  from r is same = ap (on_found without_values) is ∙ same ∙ sym is

  by_role : (role : ByteRole) → role_here b text ≡ role → ((skip : ℕ) (begun : Bool) → on_found without_values (pass line skip zero no_name begun text) ≡ pass line skip zero no_name begun text)
      → on_found without_values (scan line zero no_name begun (b ∷ text)) ≡ scan line zero no_name begun (b ∷ text)
  by_role Gap is after = from (scan line zero no_name (b == 10) text) (scan-gap line no_name begun b text is) (after zero (b == 10))
  by_role Comment is after =
      let o = after_comment (drop 1 text) in
      let next : ℕ → Outcome = λ skip. pass line skip zero no_name false text in
      from (past line text o next) (scan-comment_step line no_name begun b text is) (without-past line text o next (λ skip. after skip false))
  by_role Name is after =
      let r = pass line (length (run is_name_byte text)) zero (named_before (run is_name_byte (b ∷ text))) false text in
      from (on_found (with_name (run is_name_byte (b ∷ text))) r) (scan-name_step line no_name begun b text is) (without-name (run is_name_byte (b ∷ text)) r)
  by_role Open is after = from (Err (BadByte line)) (scan-open line no_name begun b text is) refl
  by_role Close is after = from (Err (Unbalanced line)) (scan-close line no_name begun b text is) refl
  by_role Period is after = from (Ok (record { values = None; operands = []; rest = text })) (scan-period line no_name begun b text is) refl
  by_role Other is after = from (Err (stray line begun (b ∷ text))) (scan-other line no_name begun b text is) refl

pub no_list_unnamed : (line : ℕ) (begun : Bool) (text : List ℕ) → on_found without_values (scan line zero no_name begun text) ≡ scan line zero no_name begun text
no_list_unnamed line begun text = unnamed line zero begun text

-- a name, and the list after it, are one operand

pub operand_found : (name : List ℕ) (list : Option (List (List ℕ))) (values : List (List ℕ)) (r : Outcome) → on_found without_values r ≡ r → unwrap_or list [] ≡ values
    → on_found (with_name name) (with_list_after list r) ≡ on_found (with_operands (record { name = name; values = values } ∷ [])) r
operand_found name list values r h is =
    let P : Outcome → Type 0 = λ o. on_found (with_name name) (with_list_after list o) ≡ on_found (with_operands (record { name = name; values = values } ∷ [])) o in
    subst P h (by_case list r is) where
      by_case : (l : Option (List (List ℕ))) (o : Outcome) → unwrap_or l [] ≡ values
          → on_found (with_name name) (with_list_after l (on_found without_values o)) ≡ on_found (with_operands (record { name = name; values = values } ∷ [])) (on_found without_values o)
      by_case None (Ok found) e = ap (λ vs. Ok (record { values = None; operands = record { name = name; values = vs } ∷ found.operands; rest = found.rest })) e
      by_case None (Err fault) e = refl
      by_case (Some vs) (Ok found) e = ap (λ vs. Ok (record { values = None; operands = record { name = name; values = vs } ∷ found.operands; rest = found.rest })) e
      by_case (Some vs) (Err fault) e = refl

-- positions outside lists

values_opened : (line : ℕ) (text : List ℕ) → role_at text ≡ Some Open → scan line zero a_name false text ≡ scan line 1 no_name false (drop 1 text)
values_opened line text h =
    let at = here text Open (sym h) in
    ap (scan line zero a_name false) at.whole
    ∙ scan-open line a_name false at.byte at.rest at.role_is
    ∙ ap (λ t. scan line 1 no_name false (drop 1 t)) (sym at.whole)

-- a list of COMMENT

open_byte : (b : ℕ) (text : List ℕ) → role_here b text ≡ Open → b ≡ 40
open_byte b text is = role-is_open b (plain b text Open is (λ e. cc)).role_is

raw_opened : (line : ℕ) (text : List ℕ) → role_at text ≡ Some Open → scan line zero name_comment false text ≡ after_raw_list line (after_raw zero (drop 1 text))
raw_opened line text h =
    let at = here text Open (sym h) in
    ap (scan line zero name_comment false) (at.whole ∙ ap (λ n. n ∷ at.rest) (open_byte at.byte at.rest at.role_is))
    ∙ by_cut at.rest (raw_cut 1 at.rest)
    ∙ ap (λ t. after_raw_list line (after_raw zero (drop 1 t))) (sym at.whole)
  where
    by_cut : (more : List ℕ) → RawAt 1 more → scan line zero name_comment false (40 ∷ more) ≡ after_raw_list line (after_raw zero more)
    by_cut more (inl c) =
        ap (λ t. scan line zero name_comment false (40 ∷ t)) c.whole
        ∙ scan-raw_list line false c.raw c.rest c.is
        ∙ ap (after_raw_list line) (sym (ap (after_raw zero) c.whole ∙ after_raw-ends c.raw c.rest c.is))
    by_cut more (inr u) =
        ap (λ t. scan line zero name_comment false (40 ∷ t)) u.whole
        ∙ scan-open_raw line false u.raw u.deeper u.is u.all
        ∙ ap (after_raw_list line) (sym (ap (after_raw zero) u.whole ∙ (after_raw-open zero u.raw u.deeper u.is u.all).1))

pub list_opened : (line : ℕ) (text at after : List ℕ) → ((before : Before) → scan line zero before false text ≡ scan line zero before false at) → role_at at ≡ Some Open → after ≡ drop 1 at
    → OpensList line text after
list_opened line text at after same h is =
    subst (OpensList line text) (sym is) (record { of_name = same a_name ∙ values_opened line at h; of_comment = same name_comment ∙ raw_opened line at h })

pub raw_unclosed : (line : ℕ) (r : Result (List ℕ) ℕ) → IsErr r → after_raw_list line r ≡ Err (Unbalanced line)
raw_unclosed line (Ok rest) err = absurd (cc)
raw_unclosed line (Err depth) err = refl

-- where no list follows a name, the name makes no difference

unnamed_same : (line : ℕ) (before : Before) (b : ℕ) (text : List ℕ) (role : ByteRole) → role_here b text ≡ role → role ≢ Gap → role ≢ Comment → role ≢ Open
    → scan line zero before false (b ∷ text) ≡ scan line zero no_name false (b ∷ text)
unfolding pass
unnamed_same line before b text Gap is no_gap no_comment no_open = absurd (no_gap refl)
unnamed_same line before b text Comment is no_gap no_comment no_open = absurd (no_comment refl)
unnamed_same line before b text Name is no_gap no_comment no_open = rw (is, pass) refl
unnamed_same line before b text Open is no_gap no_comment no_open = absurd (no_open refl)
unnamed_same line before b text Close is no_gap no_comment no_open = rw (is, pass) refl
unnamed_same line before b text Period is no_gap no_comment no_open = rw (is, pass) refl
unnamed_same line before b text Other is no_gap no_comment no_open = rw (is, pass) refl

pub outside_no_list : (line : ℕ) (before : Before) (text : List ℕ) (role : ByteRole) → role_at text ≡ Some role → role ≢ Gap → role ≢ Comment → role ≢ Open
    → scan line zero before false text ≡ scan line zero no_name false text
outside_no_list line before text role h no_gap no_comment no_open =
    let at = here text role (sym h) in
    ap (scan line zero before false) at.whole ∙ unnamed_same line before at.byte at.rest role at.role_is no_gap no_comment no_open ∙ ap (scan line zero no_name false) (sym at.whole)

name_first : (line : ℕ) (before : Before) (b : ℕ) (text : List ℕ) → is_name_byte b ≡ true
    → scan line zero before false (b ∷ text)
    ≡ on_found (with_name (run is_name_byte (b ∷ text))) (scan line zero (named_before (run is_name_byte (b ∷ text))) false (after_run is_name_byte (b ∷ text)))
name_first line before b text name =
    ap (scan line zero before false) (sym (run-append-after_run is_name_byte (b ∷ text)))
    ∙ scan-word line before false (run is_name_byte (b ∷ text)) (after_run is_name_byte (b ∷ text)) (is_word-run is_name_byte b text name) (begins_with-after_run is_name_byte (b ∷ text))

pub outside_name : (line : ℕ) (before : Before) (text : List ℕ) → role_at text ≡ Some Name
    → (scan line zero before false text ≡ on_found (with_name (run is_name_byte text)) (scan line zero (named_before (run is_name_byte text)) false (after_run is_name_byte text)))
    × (length (after_run is_name_byte text) < length text)
outside_name line before text h =
    let at = here text Name (sym h) in
    let name : is_name_byte at.byte ≡ true = role-is_name at.byte (plain at.byte at.rest Name at.role_is (λ e. cc)).role_is in
    let P : List ℕ → Type 0 = λ t.
    (scan line zero before false t ≡ on_found (with_name (run is_name_byte t)) (scan line zero (named_before (run is_name_byte t)) false (after_run is_name_byte t)))
    × (length (after_run is_name_byte t) < length t) in
    let found : P (at.byte ∷ at.rest) = (name_first line before at.byte at.rest name, shorter_after_run is_name_byte at.byte at.rest name) in
    subst P (sym at.whole) found

pub outside_period : (line : ℕ) (before : Before) (text : List ℕ) → role_at text ≡ Some Period → scan line zero before false text ≡ Ok (record { values = None; operands = []; rest = drop 1 text })
outside_period line before text h =
    let at = here text Period (sym h) in
    ap (scan line zero before false) at.whole
    ∙ scan-period line before false at.byte at.rest at.role_is
    ∙ ap (λ t. Ok (record { values = None; operands = []; rest = drop 1 t })) (sym at.whole)

pub outside_close : (line : ℕ) (before : Before) (text : List ℕ) → role_at text ≡ Some Close → scan line zero before false text ≡ Err (Unbalanced line)
outside_close line before text h =
    let at = here text Close (sym h) in
    ap (scan line zero before false) at.whole ∙ scan-close line before false at.byte at.rest at.role_is

no_operand : (line : ℕ) (b : ℕ) (text : List ℕ) (role : ByteRole) → role_here b text ≡ role → role ≢ Gap → role ≢ Comment → role ≢ Name → role ≢ Close → role ≢ Period
    → scan line zero no_name false (b ∷ text) ≡ Err (BadByte line)
no_operand line b text Gap is no_gap no_comment not_named no_close no_period = absurd (no_gap refl)
no_operand line b text Comment is no_gap no_comment not_named no_close no_period = absurd (no_comment refl)
no_operand line b text Name is no_gap no_comment not_named no_close no_period = absurd (not_named refl)
no_operand line b text Open is no_gap no_comment not_named no_close no_period = scan-open line no_name false b text is
no_operand line b text Close is no_gap no_comment not_named no_close no_period = absurd (no_close refl)
no_operand line b text Period is no_gap no_comment not_named no_close no_period = absurd (no_period refl)
no_operand line b text Other is no_gap no_comment not_named no_close no_period = scan-other line no_name false b text is

pub outside_else : (line : ℕ) (text : List ℕ) (role : ByteRole) → role_at text ≡ Some role → role ≢ Gap → role ≢ Comment → role ≢ Name → role ≢ Close → role ≢ Period
    → scan line zero no_name false text ≡ Err (BadByte line)
outside_else line text role h no_gap no_comment not_named no_close no_period =
    let at = here text role (sym h) in
    ap (scan line zero no_name false) at.whole ∙ no_operand line at.byte at.rest role at.role_is no_gap no_comment not_named no_close no_period
