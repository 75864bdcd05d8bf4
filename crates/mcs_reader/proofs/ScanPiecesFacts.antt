-- What the machine finds in the pieces of a statement and of a list.
use Rattle.std.proofs.Common.{◌≡◌, ℕ, zero, suc, ◌==◌, ◌&&◌, Bool, true, false, cond, List, [], ◌∷◌, ◌++◌, length, Option, Some, None, option_map, Ok, Err, refl, sym, ◌∙◌, ap, append_assoc, append-nil}
use Rattle.std.specs.List.{list_all}
use Rattle.std.proofs.lemmas.Bool.{and_parts}
use Rattle.mcs_reader.specs.Byte.{is_name_byte, belongs_to_value}
use Rattle.mcs_reader.specs.Comment.{begins_comment, somewhere, IsCommentText}
use Rattle.mcs_reader.specs.declared.byte.ByteRole.TheVariants.{Gap, Name, Other}
use Rattle.mcs_reader.specs.Pieces.{Before, no_name, a_name, name_comment, named_before, Pieces, nothing, gap, comment, word, list, raw_list, spell, begins_word, is_word, is_value_byte, IsInside, IsOutside, ends_with, ends_line, values, take_list, operands}
use Rattle.mcs_reader.specs.Raw.{Raw, spell_raw, IsRaw, spell_raw_open, AllRaw}
use Rattle.mcs_reader.specs.Run.{run, begins_value, value_run}
use Rattle.mcs_reader.specs.Stop.{Stop, text_ends, statement_begins, stray_close, stray_byte, nameless_list, open_comment, open_list, open_raw, bad_subject, spell_end, IsEnd, spell_open, AllInside, spell_stop, IsStop, fault_of}
use Rattle.mcs_reader.specs.Verb.{begins_with}
use Rattle.mcs_reader.specs.declared.fault.McsFault.{McsFault}
use Rattle.mcs_reader.specs.declared.fault.McsFault.TheVariants.{NoPeriod, Unbalanced, BadByte}
use Rattle.mcs_reader.specs.Scan.{pass, scan, Outcome, on_found, with_name, with_values, with_list, closing, past, past_raw}
use Rattle.mcs_reader.proofs.ScanFacts.{pass-front, passed, scan-gap, scan-comment_step, scan-name_step, scan-open, scan-close, scan-period, scan-other, scan-end, scan-inside-end, scan-inside-gap, scan-inside-comment_step, scan-inside-open, scan-inside-close, scan-inside-value_step}
use Rattle.mcs_reader.proofs.RoleFacts.{both, role_of-name, not_name, first_of_word, role_of-40, role_of-41, role_of-43, role_of-46}
use Rattle.mcs_reader.proofs.CommentFacts.{here_of, plain, value_run_is, after_comment-ends, after_comment-open}
use Rattle.mcs_reader.proofs.RawFacts.{after_raw-ends, after_raw-open}
use Rattle.mcs_reader.proofs.RunFacts.{run_is}

abbrev pub begins_name : List ℕ → Bool
begins_name text = begins_with is_name_byte text

-- changes of what is found

no_values_more : (o : Option (List (List ℕ))) → option_map (λ more. [] ++ more) o ≡ o
no_values_more None = refl
no_values_more (Some vs) = refl

pub on_found-no_values : (r : Outcome) → on_found (with_values []) r ≡ r
on_found-no_values (Ok found) = ap (λ o. Ok (record { values = o; operands = found.operands; rest = found.rest })) (no_values_more found.values)
on_found-no_values (Err fault) = refl

more_values : (a b : List (List ℕ)) (o : Option (List (List ℕ))) → option_map (λ more. a ++ more) (option_map (λ more. b ++ more) o) ≡ option_map (λ more. (a ++ b) ++ more) o
more_values a b None = refl
more_values a b (Some vs) = ap (λ x. Some x) (sym (append_assoc a b vs))

pub on_found-values : (a b : List (List ℕ)) (r : Outcome) → on_found (with_values a) (on_found (with_values b) r) ≡ on_found (with_values (a ++ b)) r
on_found-values a b (Ok found) = ap (λ o. Ok (record { values = o; operands = found.operands; rest = found.rest })) (more_values a b found.values)
on_found-values a b (Err fault) = refl

-- one word

all_of_word : (test : ℕ → Bool) (w : List ℕ) → is_word test w ≡ true → list_all test w ≡ true
all_of_word test [] is = refl
all_of_word test (b ∷ []) is = ap (λ t. t && true) is
all_of_word test (b ∷ c ∷ w) is =
    let parts = both (test b) (is_word test (c ∷ w)) is in
    ap (λ t. t && list_all test (c ∷ w)) parts.0 ∙ all_of_word test (c ∷ w) parts.1

value_of_run : (line depth b : ℕ) (w text : List ℕ) (goes_on : Bool) → begins_value (b ∷ (w ++ text)) ≡ goes_on → cond goes_on (b ∷ value_run (w ++ text)) [] ≡ b ∷ w
    → scan line (suc depth) no_name false (b ∷ (w ++ text)) ≡ on_found (with_values ((b ∷ w) ∷ [])) (scan line (suc depth) no_name false text)
value_of_run line depth b w text false e run_is = absurd (cc)
value_of_run line depth b w text true e run_is =
    let more : value_run (w ++ text) ≡ w = cc in
    let whole : value_run (b ∷ (w ++ text)) ≡ b ∷ w = ap (λ t. cond t (b ∷ value_run (w ++ text)) []) e ∙ run_is in
    scan-inside-value_step line depth b (w ++ text) e
    ∙ ap (λ v. on_found (with_values (v ∷ [])) (pass line (length (value_run (w ++ text))) (suc depth) no_name false (w ++ text))) whole
    ∙ ap (λ v. on_found (with_values ((b ∷ w) ∷ [])) (pass line (length v) (suc depth) no_name false (w ++ text))) more
    ∙ ap (on_found (with_values ((b ∷ w) ∷ []))) (pass-front line (suc depth) no_name false w text)

pub scan-value : (line depth : ℕ) (w text : List ℕ) → is_word is_value_byte w ≡ true → somewhere begins_comment w ≡ false → begins_value text ≡ false →
    scan line (suc depth) no_name false (w ++ text) ≡ on_found (with_values (w ∷ [])) (scan line (suc depth) no_name false text)
scan-value line depth [] text is none ends = absurd (cc)
scan-value line depth (b ∷ w) text is none ends =
    value_of_run line depth b w text (begins_value (b ∷ (w ++ text))) refl (value_run_is (b ∷ w) text is none ends)

pub scan-word : (line : ℕ) (before : Before) (begun : Bool) (w text : List ℕ) → is_word is_name_byte w ≡ true → begins_name text ≡ false →
    scan line zero before begun (w ++ text) ≡ on_found (with_name w) (scan line zero (named_before w) false text)
scan-word line before begun [] text is ends = absurd (cc)
scan-word line before begun (b ∷ w) text is ends =
    let all = all_of_word is_name_byte (b ∷ w) is in
    let whole : run is_name_byte (b ∷ (w ++ text)) ≡ b ∷ w = run_is is_name_byte (b ∷ w) text all ends in
    let more : run is_name_byte (w ++ text) ≡ w = run_is is_name_byte w text (and_parts (is_name_byte b) (list_all is_name_byte w) all).1 ends in
    scan-name_step line before begun b (w ++ text) (here_of b (w ++ text) Name (role_of-name b (first_of_word is_name_byte b w is)) (λ e. cc))
    ∙ ap (λ v. on_found (with_name v) (pass line (length (run is_name_byte (w ++ text))) zero (named_before v) false (w ++ text))) whole
    ∙ ap (λ v. on_found (with_name (b ∷ w)) (pass line (length v) zero (named_before (b ∷ w)) false (w ++ text))) more
    ∙ ap (on_found (with_name (b ∷ w))) (pass-front line zero (named_before (b ∷ w)) false w text)

-- one comment

comment_passed : (body rest : List ℕ) → 42 ∷ (body ++ 42 ∷ 47 ∷ rest) ≡ (42 ∷ (body ++ 42 ∷ 47 ∷ [])) ++ rest
comment_passed body rest = ap (λ t. 42 ∷ t) (sym (append_assoc body (42 ∷ 47 ∷ []) rest))

pub scan-comment : (line : ℕ) (before : Before) (begun : Bool) (body rest : List ℕ) → IsCommentText body →
    scan line zero before begun (47 ∷ 42 ∷ (body ++ 42 ∷ 47 ∷ rest)) ≡ scan line zero before false rest
scan-comment line before begun body rest is =
    let text : List ℕ = 42 ∷ (body ++ 42 ∷ 47 ∷ rest) in
    scan-comment_step line before begun 47 text refl
    ∙ ap (λ o. past line text o (λ skip. pass line skip zero before false text)) (after_comment-ends body rest is)
    ∙ passed line zero before text (42 ∷ (body ++ 42 ∷ 47 ∷ [])) rest (comment_passed body rest)

pub scan-inside-comment : (line depth : ℕ) (body rest : List ℕ) → IsCommentText body →
    scan line (suc depth) no_name false (47 ∷ 42 ∷ (body ++ 42 ∷ 47 ∷ rest)) ≡ scan line (suc depth) no_name false rest
scan-inside-comment line depth body rest is =
    let text : List ℕ = 42 ∷ (body ++ 42 ∷ 47 ∷ rest) in
    scan-inside-comment_step line depth 47 text refl
    ∙ ap (λ o. past line text o (λ skip. pass line skip (suc depth) no_name false text)) (after_comment-ends body rest is)
    ∙ passed line (suc depth) no_name text (42 ∷ (body ++ 42 ∷ 47 ∷ [])) rest (comment_passed body rest)

pub scan-open_comment : (line : ℕ) (before : Before) (begun : Bool) (body : List ℕ) → IsCommentText body → scan line zero before begun (47 ∷ 42 ∷ body) ≡ Err (Unbalanced line)
scan-open_comment line before begun body is =
    scan-comment_step line before begun 47 (42 ∷ body) refl
    ∙ ap (λ o. past line (42 ∷ body) o (λ skip. pass line skip zero before false (42 ∷ body))) (after_comment-open body is)

pub scan-inside-open_comment : (line depth : ℕ) (body : List ℕ) → IsCommentText body → scan line (suc depth) no_name false (47 ∷ 42 ∷ body) ≡ Err (Unbalanced line)
scan-inside-open_comment line depth body is =
    scan-inside-comment_step line depth 47 (42 ∷ body) refl
    ∙ ap (λ o. past line (42 ∷ body) o (λ skip. pass line skip (suc depth) no_name false (42 ∷ body))) (after_comment-open body is)

-- a list of COMMENT

pub scan-raw_list : (line : ℕ) (begun : Bool) (raw : Raw) (rest : List ℕ) → IsRaw raw →
    scan line zero name_comment begun (40 ∷ (spell_raw raw ++ 41 ∷ rest)) ≡ on_found (with_list []) (scan line zero no_name false rest)
scan-raw_list line begun raw rest is =
    let text : List ℕ = spell_raw raw ++ 41 ∷ rest in
    scan-open line name_comment begun 40 text role_of-40
    ∙ ap (λ o. past_raw line text o (λ skip. pass line skip zero no_name false text)) (after_raw-ends raw rest is)
    ∙ ap (on_found (with_list [])) (passed line zero no_name text (spell_raw raw ++ 41 ∷ []) rest (sym (append_assoc (spell_raw raw) (41 ∷ []) rest)))

pub scan-open_raw : (line : ℕ) (begun : Bool) (raw : Raw) (deeper : List Raw) → IsRaw raw → AllRaw deeper → scan line zero name_comment begun (40 ∷ spell_raw_open raw deeper) ≡ Err (Unbalanced line)
scan-open_raw line begun raw deeper is all =
    let text : List ℕ = spell_raw_open raw deeper in
    scan-open line name_comment begun 40 text role_of-40
    ∙ ap (λ o. past_raw line text o (λ skip. pass line skip zero no_name false text)) (after_raw-open zero raw deeper is all).1

-- no word goes on after pieces

pub after_inside : (rest : Pieces) (text : List ℕ) → IsInside rest → begins_word rest ≡ false → begins_value text ≡ false → begins_value (spell rest ++ text) ≡ false
after_inside nothing text is none ends = ends
after_inside (gap b rest) text is none ends = ap belongs_to_value (here_of b (spell rest ++ text) Gap is.0 (λ e. cc))
after_inside (comment body rest) text is none ends = refl
after_inside (word w rest) text is none ends = absurd (cc)
after_inside (list inside rest) text is none ends = ap belongs_to_value role_of-40
after_inside (raw_list raw rest) text is none ends = absurd is

pub after_outside : (before : Before) (rest : Pieces) (text : List ℕ) → IsOutside before rest → begins_word rest ≡ false → begins_name text ≡ false → begins_name (spell rest ++ text) ≡ false
after_outside before nothing text is none ends = ends
after_outside before (gap b rest) text is none ends = not_name b Gap is.0 (λ e. cc)
after_outside before (comment body rest) text is none ends = refl
after_outside before (word w rest) text is none ends = absurd (cc)
after_outside before (list inside rest) text is none ends = refl
after_outside before (raw_list raw rest) text is none ends = refl

-- the pieces of a list, up to its closing parenthesis

pub scan-list : (line depth : ℕ) (pieces : Pieces) (text : List ℕ) → IsInside pieces →
    scan line (suc depth) no_name false (spell pieces ++ 41 ∷ text) ≡ on_found (with_values (values pieces)) (closing depth (scan line depth no_name false text))
scan-list line depth nothing text is =
    scan-inside-close line depth 41 text role_of-41
    ∙ sym (on_found-no_values (closing depth (scan line depth no_name false text)))
scan-list line depth (gap b rest) text is =
    scan-inside-gap line depth b (spell rest ++ 41 ∷ text) (here_of b (spell rest ++ 41 ∷ text) Gap is.0 (λ e. cc)) ∙ scan-list line depth rest text is.1
scan-list line depth (comment body rest) text is =
    ap (λ t. scan line (suc depth) no_name false (47 ∷ 42 ∷ t)) (append_assoc body (42 ∷ 47 ∷ spell rest) (41 ∷ text))
    ∙ scan-inside-comment line depth body (spell rest ++ 41 ∷ text) is.0
    ∙ scan-list line depth rest text is.1
scan-list line depth (word w rest) text is =
    ap (scan line (suc depth) no_name false) (append_assoc w (spell rest) (41 ∷ text))
    ∙ scan-value line depth w (spell rest ++ 41 ∷ text) is.0 is.1 (after_inside rest (41 ∷ text) is.3 is.2 (ap belongs_to_value role_of-41))
    ∙ ap (on_found (with_values (w ∷ []))) (scan-list line depth rest text is.3)
    ∙ on_found-values (w ∷ []) (values rest) (closing depth (scan line depth no_name false text))
scan-list line depth (list inside rest) text is =
    ap (λ t. scan line (suc depth) no_name false (40 ∷ t)) (append_assoc (spell inside) (41 ∷ spell rest) (41 ∷ text))
    ∙ scan-inside-open line depth 40 (spell inside ++ 41 ∷ (spell rest ++ 41 ∷ text)) role_of-40
    ∙ scan-list line (suc depth) inside (spell rest ++ 41 ∷ text) is.0
    ∙ ap (on_found (with_values (values inside))) (scan-list line depth rest text is.1)
    ∙ on_found-values (values inside) (values rest) (closing depth (scan line depth no_name false text))
scan-list line depth (raw_list raw rest) text is = absurd is

-- a fault after the pieces of a list
pub scan-inside-fault : (line depth : ℕ) (pieces : Pieces) (text : List ℕ) (fault : McsFault) → IsInside pieces → begins_value text ≡ false →
    scan line (suc depth) no_name false text ≡ Err fault → scan line (suc depth) no_name false (spell pieces ++ text) ≡ Err fault
scan-inside-fault line depth nothing text fault is ends there = there
scan-inside-fault line depth (gap b rest) text fault is ends there =
    scan-inside-gap line depth b (spell rest ++ text) (here_of b (spell rest ++ text) Gap is.0 (λ e. cc)) ∙ scan-inside-fault line depth rest text fault is.1 ends there
scan-inside-fault line depth (comment body rest) text fault is ends there =
    ap (λ t. scan line (suc depth) no_name false (47 ∷ 42 ∷ t)) (append_assoc body (42 ∷ 47 ∷ spell rest) text)
    ∙ scan-inside-comment line depth body (spell rest ++ text) is.0
    ∙ scan-inside-fault line depth rest text fault is.1 ends there
scan-inside-fault line depth (word w rest) text fault is ends there =
    ap (scan line (suc depth) no_name false) (append_assoc w (spell rest) text)
    ∙ scan-value line depth w (spell rest ++ text) is.0 is.1 (after_inside rest text is.3 is.2 ends)
    ∙ ap (on_found (with_values (w ∷ []))) (scan-inside-fault line depth rest text fault is.3 ends there)
scan-inside-fault line depth (list inside rest) text fault is ends there =
    ap (λ t. scan line (suc depth) no_name false (40 ∷ t)) (append_assoc (spell inside) (41 ∷ spell rest) text)
    ∙ scan-inside-open line depth 40 (spell inside ++ 41 ∷ (spell rest ++ text)) role_of-40
    ∙ scan-list line (suc depth) inside (spell rest ++ text) is.0
    ∙ ap (on_found (with_values (values inside))) (scan-inside-fault line depth rest text fault is.1 ends there)
scan-inside-fault line depth (raw_list raw rest) text fault is ends there = absurd is

-- a list that the text ends in
end_of_list : (line depth : ℕ) (end : Option (List ℕ)) → IsEnd end → scan line (suc depth) no_name false (spell_end end) ≡ Err (Unbalanced line)
end_of_list line depth None is = scan-inside-end line depth
end_of_list line depth (Some body) is = scan-inside-open_comment line depth body is

no_value_at_end : (end : Option (List ℕ)) → begins_value (spell_end end) ≡ false
no_value_at_end None = refl
no_value_at_end (Some body) = refl

pub scan-unclosed : (line depth : ℕ) (pieces : Pieces) (deeper : List Pieces) (end : Option (List ℕ)) → IsInside pieces → AllInside deeper → IsEnd end →
    scan line (suc depth) no_name false (spell_open pieces deeper end) ≡ Err (Unbalanced line)
scan-unclosed line depth pieces [] end is all ends =
    scan-inside-fault line depth pieces (spell_end end) (Unbalanced line) is (no_value_at_end end) (end_of_list line depth end ends)
scan-unclosed line depth pieces (inner ∷ more) end is all ends =
    scan-inside-fault line depth pieces (40 ∷ spell_open inner more end) (Unbalanced line) is (ap belongs_to_value role_of-40)
    (scan-inside-open line depth 40 (spell_open inner more end) role_of-40 ∙ scan-unclosed line (suc depth) inner more end all.0 all.1 ends)

-- the pieces of a statement, up to its period

pub scan-statement : (line : ℕ) (before : Before) (begun : Bool) (pieces : Pieces) (text : List ℕ) → IsOutside before pieces →
    scan line zero before begun (spell pieces ++ 46 ∷ text) ≡ Ok (record { values = take_list pieces; operands = operands pieces; rest = text })
scan-statement line before begun nothing text is = scan-period line before begun 46 text role_of-46
scan-statement line before begun (gap b rest) text is =
    scan-gap line before begun b (spell rest ++ 46 ∷ text) (here_of b (spell rest ++ 46 ∷ text) Gap is.0 (λ e. cc)) ∙ scan-statement line before (b == 10) rest text is.1
scan-statement line before begun (comment body rest) text is =
    ap (λ t. scan line zero before begun (47 ∷ 42 ∷ t)) (append_assoc body (42 ∷ 47 ∷ spell rest) (46 ∷ text))
    ∙ scan-comment line before begun body (spell rest ++ 46 ∷ text) is.0
    ∙ scan-statement line before false rest text is.1
scan-statement line before begun (word w rest) text is =
    ap (scan line zero before begun) (append_assoc w (spell rest) (46 ∷ text))
    ∙ scan-word line before begun w (spell rest ++ 46 ∷ text) is.0 (after_outside (named_before w) rest (46 ∷ text) is.2 is.1 refl)
    ∙ ap (on_found (with_name w)) (scan-statement line (named_before w) false rest text is.2)
scan-statement line before begun (list inside rest) text is =
    ap (λ t. scan line zero before begun (40 ∷ t)) (append_assoc (spell inside) (41 ∷ spell rest) (46 ∷ text))
    ∙ ap (λ n. scan line zero n begun (40 ∷ (spell inside ++ 41 ∷ (spell rest ++ 46 ∷ text)))) is.0
    ∙ scan-open line a_name begun 40 (spell inside ++ 41 ∷ (spell rest ++ 46 ∷ text)) role_of-40
    ∙ scan-list line zero inside (spell rest ++ 46 ∷ text) is.1
    ∙ ap (λ r. on_found (with_values (values inside)) (on_found (with_list []) r)) (scan-statement line no_name false rest text is.2)
    ∙ ap (λ vs. Ok (record { values = Some vs; operands = operands rest; rest = text })) (append-nil (values inside))
scan-statement line before begun (raw_list raw rest) text is =
    ap (λ t. scan line zero before begun (40 ∷ t)) (append_assoc (spell_raw raw) (41 ∷ spell rest) (46 ∷ text))
    ∙ ap (λ n. scan line zero n begun (40 ∷ (spell_raw raw ++ 41 ∷ (spell rest ++ 46 ∷ text)))) is.0
    ∙ scan-raw_list line begun raw (spell rest ++ 46 ∷ text) is.1
    ∙ ap (on_found (with_list [])) (scan-statement line no_name false rest text is.2)

-- a fault after the pieces of a statement
pub scan-fault : (line : ℕ) (before : Before) (begun : Bool) (pieces : Pieces) (text : List ℕ) (fault : McsFault) → IsOutside before pieces → begins_name text ≡ false →
    scan line zero (ends_with before pieces) (ends_line begun pieces) text ≡ Err fault → scan line zero before begun (spell pieces ++ text) ≡ Err fault
scan-fault line before begun nothing text fault is ends there = there
scan-fault line before begun (gap b rest) text fault is ends there =
    scan-gap line before begun b (spell rest ++ text) (here_of b (spell rest ++ text) Gap is.0 (λ e. cc)) ∙ scan-fault line before (b == 10) rest text fault is.1 ends there
scan-fault line before begun (comment body rest) text fault is ends there =
    ap (λ t. scan line zero before begun (47 ∷ 42 ∷ t)) (append_assoc body (42 ∷ 47 ∷ spell rest) text)
    ∙ scan-comment line before begun body (spell rest ++ text) is.0
    ∙ scan-fault line before false rest text fault is.1 ends there
scan-fault line before begun (word w rest) text fault is ends there =
    ap (scan line zero before begun) (append_assoc w (spell rest) text)
    ∙ scan-word line before begun w (spell rest ++ text) is.0 (after_outside (named_before w) rest text is.2 is.1 ends)
    ∙ ap (on_found (with_name w)) (scan-fault line (named_before w) false rest text fault is.2 ends there)
scan-fault line before begun (list inside rest) text fault is ends there =
    ap (λ t. scan line zero before begun (40 ∷ t)) (append_assoc (spell inside) (41 ∷ spell rest) text)
    ∙ ap (λ n. scan line zero n begun (40 ∷ (spell inside ++ 41 ∷ (spell rest ++ text)))) is.0
    ∙ scan-open line a_name begun 40 (spell inside ++ 41 ∷ (spell rest ++ text)) role_of-40
    ∙ scan-list line zero inside (spell rest ++ text) is.1
    ∙ ap (λ r. on_found (with_values (values inside)) (on_found (with_list []) r)) (scan-fault line no_name false rest text fault is.2 ends there)
scan-fault line before begun (raw_list raw rest) text fault is ends there =
    ap (λ t. scan line zero before begun (40 ∷ t)) (append_assoc (spell_raw raw) (41 ∷ spell rest) text)
    ∙ ap (λ n. scan line zero n begun (40 ∷ (spell_raw raw ++ 41 ∷ (spell rest ++ text)))) is.0
    ∙ scan-raw_list line begun raw (spell rest ++ text) is.1
    ∙ ap (on_found (with_list [])) (scan-fault line no_name false rest text fault is.2 ends there)

-- what stops a statement, where it is no period

pub no_name_after : (before : Before) (begun : Bool) (stop : Stop) → IsStop before begun stop → begins_name (spell_stop stop) ≡ false
no_name_after before begun text_ends is = refl
no_name_after before begun (statement_begins text) is = refl
no_name_after before begun (stray_close text) is = refl
no_name_after before begun (stray_byte b text) is = not_name b Other (plain b text Other is.0 (λ e. cc)).role_is (λ e. cc)
no_name_after before begun (nameless_list text) is = refl
no_name_after before begun (open_comment body) is = refl
no_name_after before begun (open_list pieces deeper end) is = refl
no_name_after before begun (open_raw raw deeper) is = refl
no_name_after before begun (bad_subject text) is = refl

-- not the period
abbrev pub IsFlaw : Stop → Type 0
IsFlaw (bad_subject text) = ⊥
IsFlaw _ = Unit {0}

pub scan-stop : (line : ℕ) (before : Before) (begun : Bool) (stop : Stop) → IsStop before begun stop → IsFlaw stop → scan line zero before begun (spell_stop stop) ≡ Err (fault_of stop line)
scan-stop line before begun text_ends is flaw = scan-end line before begun
scan-stop line before begun (statement_begins text) is flaw =
    scan-other line before begun 43 (43 ∷ text) role_of-43
    ∙ ap (λ t. Err (cond (t && true) (NoPeriod line) (BadByte line))) is
scan-stop line before begun (stray_close text) is flaw = scan-close line before begun 41 text role_of-41
scan-stop line before begun (stray_byte b text) is flaw =
    scan-other line before begun b text is.0
    ∙ ap (λ t. Err (cond t (NoPeriod line) (BadByte line))) is.1
scan-stop line before begun (nameless_list text) is flaw =
    ap (λ n. scan line zero n begun (40 ∷ text)) is ∙ scan-open line no_name begun 40 text role_of-40
scan-stop line before begun (open_comment body) is flaw = scan-open_comment line before begun body is
scan-stop line before begun (open_list pieces deeper end) is flaw =
    ap (λ n. scan line zero n begun (40 ∷ spell_open pieces deeper end)) is.0
    ∙ scan-open line a_name begun 40 (spell_open pieces deeper end) role_of-40
    ∙ scan-unclosed line zero pieces deeper end is.1 is.2 is.3
scan-stop line before begun (open_raw raw deeper) is flaw =
    ap (λ n. scan line zero n begun (40 ∷ spell_raw_open raw deeper)) is.0 ∙ scan-open_raw line begun raw deeper is.1 is.2
scan-stop line before begun (bad_subject text) is flaw = absurd flaw
