-- How many lines a head has.
use Rattle.std.proofs.Common.{◌≡◌, ℕ, ◌+◌, ◌≤◌, ◌==◌, All, IsTrue, Bool, true, false, cond, zero, List, [], ◌∷◌, ◌++◌, length, drop, refl, sym, ap, ◌∙◌, arith, append_assoc, append-nil, length-append, suc, subst, Result, Ok, Err}
use Rattle.std.proofs.lemmas.List.Elements.{All-head, All-tail, filter-append}
use Rattle.std.specs.List.{filter, flat_map}
use Rattle.std.proofs.lemmas.Bool.{or_parts}
use Rattle.httparse.specs.Grammar.{AllPass, LineEnd, crlf, lf, Field, IsField, IsRequestHead, RequestHead, ReadsRequest, is_token_byte, is_uri_byte, is_value_byte, print_blank, print_end, print_field, print_request, print_section, print_version}
use Rattle.httparse.specs.Ascii.{colon, space}
use Rattle.httparse.specs.Outcome.{IsCompleteAnd}
use Rattle.httparse.specs.Spans.{FindsRequest, IsRequestAt}
use Rattle.httparse.specs.declared.Error.{Error}
use Rattle.httparse.specs.declared.spans.HeaderSpan.{HeaderSpan}
use Rattle.httparse.specs.declared.spans.RequestSpans.{RequestSpans}
use Rattle.httparse.specs.declared.Status.{Status}
use Rattle.httparse.specs.declared.Status.TheVariants.{Complete, Partial}
use Rattle.httparse.specs.Pieces.{Stops, is_newline}
use Rattle.httparse.proofs.PieceLemmas.{Stops_token}
use Rattle.lemmas.proofs.TestFacts.{same_number}
use Rattle.requests.specs.HeadEnd.{empty_lines_len, feeds, line_feed, lines_between, without_empty_lines}

feeds_append : (a b : List ℕ) → feeds (a ++ b) ≡ feeds a + feeds b
feeds_append a b = ap length (filter-append (λ c. c == line_feed) a b) ∙ length-append (filter (λ c. c == line_feed) a) _

feeds_end : (end : LineEnd) → feeds (print_end end) ≡ 1
feeds_end crlf = refl
feeds_end lf = refl

-- bytes of a class without LF have none
no_feed : (test : ℕ → Bool) (bytes : List ℕ) → test line_feed ≡ false → AllPass test bytes → feeds bytes ≡ 0
no_feed test [] never h = refl
no_feed test (b ∷ bytes) never h = by (no_feed test bytes never (All-tail (λ c. IsTrue (test c)) b bytes h)) (b == line_feed) refl
  where
    by : feeds bytes ≡ 0 → (v : Bool) → (b == line_feed) ≡ v → length (cond v (b ∷ filter (λ c. c == line_feed) bytes) (filter (λ c. c == line_feed) bytes)) ≡ 0
    by later true e =
        let same : b ≡ line_feed = same_number b line_feed e in
        let passes : test b ≡ true = All-head (λ c. IsTrue (test c)) b bytes h in
        let both : true ≡ false = sym passes ∙ ap test same ∙ never in
        cc
    by later false e = later

no_token_feed : is_token_byte line_feed ≡ false
unfolding is_token_byte
no_token_feed = refl

feeds_field : (f : Field) → IsField f → feeds (print_field f) ≡ 1
feeds_field f is =
    let a = feeds_append (f.name ++ (colon ∷ f.raw)) (print_end f.end) in
    let b = feeds_append f.name (colon ∷ f.raw) in
    let c = feeds_end f.end in
    let name = no_feed is_token_byte f.name no_token_feed is.name.1 in
    let raw = no_feed is_value_byte f.raw refl is.raw in
    omega arith

feeds_fields : (fields : List Field) → All IsField fields → feeds (flat_map print_field fields) ≡ length fields
feeds_fields [] are = refl
feeds_fields (f ∷ fields) are =
    let e = feeds_append (print_field f) (flat_map print_field fields) in
    let g = feeds_field f (All-head IsField f fields are) in
    let h = feeds_fields fields (All-tail IsField f fields are) in
    omega arith

feeds_version : (minor : ℕ) → minor ≤ 1 → feeds (space ∷ print_version minor) ≡ 0
feeds_version zero few = refl
feeds_version (suc zero) few = refl
feeds_version (suc (suc minor)) few = absurd (omega (arith, few))

-- a head without the empty lines before it
abbrev lines_of : RequestHead → List ℕ
lines_of h =
    h.method ++ ((space ∷ h.target) ++ ((space ∷ print_version h.minor) ++ (print_end h.line_end ++ print_section h.fields h.last)))

-- it has a line for each field, its first line and its blank one
feeds_lines : (h : RequestHead) → IsRequestHead h → feeds (lines_of h) ≡ length h.fields + 2
feeds_lines h is =
    let section = print_section h.fields h.last in
    let ended = print_end h.line_end ++ section in
    let a = feeds_append h.method ((space ∷ h.target) ++ ((space ∷ print_version h.minor) ++ ended)) in
    let b = feeds_append (space ∷ h.target) ((space ∷ print_version h.minor) ++ ended) in
    let c = feeds_append (space ∷ print_version h.minor) ended in
    let d = feeds_append (print_end h.line_end) section in
    let e = feeds_append (flat_map print_field h.fields) (print_end h.last) in
    let f = feeds_fields h.fields is.fields in
    let g = feeds_end h.line_end in
    let i = feeds_end h.last in
    let j = no_feed is_token_byte h.method no_token_feed is.method.1 in
    let k = no_feed is_uri_byte h.target refl is.target.1 in
    let l = feeds_version h.minor is.minor in
    omega arith

no_line : (b : ℕ) (rest : List ℕ) → is_newline b ≡ false → empty_lines_len (b ∷ rest) ≡ 0
no_line b rest h = let parts = or_parts (b == 13) (b == 10) h in rw (parts.0, parts.1) refl

skip : (blank : List LineEnd) (rest : List ℕ) → Stops is_newline rest → without_empty_lines (print_blank blank ++ rest) ≡ rest
skip [] [] stops = absurd stops
skip [] (b ∷ rest) stops = ap (λ n. drop n (b ∷ rest)) (no_line b rest stops)
skip (crlf ∷ blank) rest stops =
    let text = print_blank blank ++ rest in
    let two : 1 + (1 + empty_lines_len text) ≡ suc (suc (empty_lines_len text)) = omega arith in
    ap (λ n. drop n (13 ∷ 10 ∷ text)) two ∙ skip blank rest stops
skip (lf ∷ blank) rest stops =
    let text = print_blank blank ++ rest in
    let one : 1 + empty_lines_len text ≡ suc (empty_lines_len text) = omega arith in
    ap (λ n. drop n (10 ∷ text)) one ∙ skip blank rest stops

shape : (a b c d e f : List ℕ) → ((((a ++ b) ++ c) ++ d) ++ e) ++ f ≡ a ++ (b ++ (c ++ (d ++ (e ++ f))))
shape a b c d e f = simp append_assoc

printed : (h : RequestHead) → print_request h ≡ print_blank h.blank ++ lines_of h
unfolding print_request
printed h =
    shape (print_blank h.blank) h.method (space ∷ h.target) (space ∷ print_version h.minor) (print_end h.line_end)
    (print_section h.fields h.last)

-- a head has a line for each field between its first and its blank one
pub line_each : (bytes : List ℕ) (h : RequestHead) → ReadsRequest bytes h [] → lines_between bytes ≡ length h.fields
line_each bytes h reads =
    let whole : bytes ≡ print_blank h.blank ++ lines_of h = reads.1 ∙ append-nil _ ∙ printed h in
    let stops = Stops_token h.method _ reads.0.method.0 reads.0.method.1 in
    let count : feeds (without_empty_lines bytes) ≡ feeds (lines_of h) =
    ap (λ l. feeds (without_empty_lines l)) whole ∙ ap feeds (skip h.blank (lines_of h) stops) in
    let lines = feeds_lines h reads.0 in
    omega arith

few_fields : (bytes : List ℕ) (h : RequestHead) → ReadsRequest bytes h [] → lines_between bytes ≤ 64 → length h.fields ≤ 64
few_fields bytes h reads few = let each = line_each bytes h reads in omega arith

-- the head that a parser read to its end is as long as the bytes
complete : {A E : Type 0} (P : A → Type 0) (r : Result (Status A) E) (a : A) → r ≡ Ok (Complete a) → IsCompleteAnd r P → P a
complete P (Ok (Complete b)) a e h = let same : b ≡ a = cc in subst P same h
complete P (Ok Partial) a e h = absurd h
complete P (Err error) a e h = absurd h

pub found_len : (bytes : List ℕ) (headers : List HeaderSpan) (r : Result (Status RequestSpans) Error) (spans : RequestSpans) (h : RequestHead)
    → FindsRequest bytes 64 headers r → r ≡ Ok (Complete spans) → ReadsRequest bytes h [] → lines_between bytes ≤ 64
    → spans.len ≡ length bytes
found_len bytes headers r spans h finds is reads few =
    let at = complete (λ s. IsRequestAt bytes headers s h) r spans is (finds h [] reads (few_fields bytes h reads few)) in
    at.len ∙ ap length (sym (reads.1 ∙ append-nil _))

never : {A E : Type 0} (P : A → Type 0) (r : Result (Status A) E) (error : E) → r ≡ Err error → IsCompleteAnd r P → ⊥
never P (Ok (Complete b)) error e h = cc
never P (Ok Partial) error e h = h
never P (Err other) error e h = h

pub failed : (bytes : List ℕ) (headers : List HeaderSpan) (r : Result (Status RequestSpans) Error) (error : Error) (h : RequestHead)
    → FindsRequest bytes 64 headers r → r ≡ Err error → ReadsRequest bytes h [] → lines_between bytes ≤ 64 → ⊥
failed bytes headers r error h finds is reads few =
    never (λ s. IsRequestAt bytes headers s h) r error is (finds h [] reads (few_fields bytes h reads few))
