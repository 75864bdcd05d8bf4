-- Every text is pieces and what stops them: a total function that cuts a text so.
use Rattle.std.proofs.Common.{◌≡◌, ℕ, zero, suc, ◌==◌, ◌&&◌, ◌⊎◌, inl, inr, Bool, true, false, cond, List, [], ◌∷◌, ◌++◌, length, drop, Option, Some, None, refl, sym, ◌∙◌, ap, subst, arith, append_assoc}
use Rattle.std.proofs.Math.Seq.{drop-append_seam}
use Rattle.std.proofs.lemmas.Bool.Decides.{nat_tests}
use Rattle.mcs_reader.specs.Byte.{role_of, is_name_byte, belongs_to_value}
use Rattle.mcs_reader.specs.Comment.{role_here, begins_comment, somewhere, IsCommentText}
use Rattle.mcs_reader.specs.declared.byte.ByteRole.{ByteRole}
use Rattle.mcs_reader.specs.declared.byte.ByteRole.TheVariants.{Gap, Comment, Name, Open, Close, Period, Other}
use Rattle.mcs_reader.specs.Line.{begins_statement}
use Rattle.mcs_reader.specs.Pieces.{Before, no_name, a_name, name_comment, named_before, Pieces, nothing, gap, comment, word, list, raw_list, spell, begins_word, is_word, is_value_byte, IsInside, IsOutside, ends_with, ends_line}
use Rattle.mcs_reader.specs.Raw.{spell_raw}
use Rattle.mcs_reader.specs.Run.{run, after_run, begins_value}
use Rattle.mcs_reader.specs.Stop.{Stop, text_ends, statement_begins, stray_close, stray_byte, nameless_list, open_comment, open_list, open_raw, bad_subject, spell_end, IsEnd, spell_open, AllInside, spell_stop, IsStop}
use Rattle.mcs_reader.specs.Verb.{begins_with}
use Rattle.mcs_reader.proofs.RoleFacts.{role-is_name, role-is_open, role-is_close, role-is_period, first_of_word}
use Rattle.mcs_reader.proofs.CommentFacts.{plain, comment_at, CommentAt, Ended, comment_cut, value_here}
use Rattle.mcs_reader.proofs.RawFacts.{RawAt, raw_cut}
use Rattle.mcs_reader.proofs.RunFacts.{run-append-after_run, begins_with-after_run, is_word-run}

-- outside lists: pieces, and a stop or the period
pub record Outer (before : Before) (begun : Bool) (text : List ℕ) : Type 0 where
  pub pieces : Pieces
  pub stop : Stop
  pub outside : IsOutside before pieces
  pub stops : IsStop (ends_with before pieces) (ends_line begun pieces) stop
  pub whole : text ≡ spell pieces ++ spell_stop stop

-- in a list: pieces up to its closing parenthesis, after which P holds
pub record Closes (P : List ℕ → Type 0) (text : List ℕ) : Type 0 where
  pub pieces : Pieces
  pub rest : List ℕ
  pub inside : IsInside pieces
  pub whole : text ≡ spell pieces ++ 41 ∷ rest
  pub after : P rest

-- in a list that the text ends in
pub record Unclosed (text : List ℕ) : Type 0 where
  pub pieces : Pieces
  pub deeper : List Pieces
  pub end : Option (List ℕ)
  pub inside : IsInside pieces
  pub all : AllInside deeper
  pub ends : IsEnd end
  pub whole : text ≡ spell_open pieces deeper end

abbrev pub At : ℕ → Before → Bool → List ℕ → Type 0
At zero before begun text = Outer before begun text
At (suc depth) before begun text = Closes (At depth no_name false) text ⊎ Unclosed text

-- what holds at every position further on, holds after a front
at_rest : (P : List ℕ → Type 0) (text front rest : List ℕ) → text ≡ front ++ rest → ((skip : ℕ) → P (drop skip text)) → P rest
at_rest P text front rest whole after = subst P (ap (drop (length front)) whole ∙ drop-append_seam front rest) (after (length front))

-- pieces don't begin with a word where no name byte stands
no_word : (before : Before) (pieces : Pieces) (tail : List ℕ) → IsOutside before pieces → begins_with is_name_byte (spell pieces ++ tail) ≡ false → begins_word pieces ≡ false
no_word before nothing tail is none = refl
no_word before (gap b rest) tail is none = refl
no_word before (comment body rest) tail is none = refl
no_word before (word [] rest) tail is none = absurd (let h : false ≡ true = is.0 in cc)
no_word before (word (b ∷ w) rest) tail is none = absurd (let name = first_of_word is_name_byte b w is.0 in cc)
no_word before (list inside rest) tail is none = refl
no_word before (raw_list raw rest) tail is none = refl

lone : (b : ℕ) → somewhere begins_comment (b ∷ []) ≡ false
lone b = by_test (b == 47) where
  by_test : (t : Bool) → cond (cond t false false) true false ≡ false
  by_test true = refl
  by_test false = refl

-- a byte of a value in front of the pieces
value_in_front : (b : ℕ) (pieces : Pieces) (tail : List ℕ) → is_value_byte b ≡ true → begins_comment (b ∷ (spell pieces ++ tail)) ≡ false → IsInside pieces
    → (more : Pieces) × IsInside more × (spell more ≡ b ∷ spell pieces)
value_in_front b nothing tail value none is = (word (b ∷ []) nothing, (value, lone b, refl, tt), refl)
value_in_front b (gap c rest) tail value none is = (word (b ∷ []) (gap c rest), (value, lone b, refl, is), refl)
value_in_front b (comment body rest) tail value none is = (word (b ∷ []) (comment body rest), (value, lone b, refl, is), refl)
value_in_front b (list inside rest) tail value none is = (word (b ∷ []) (list inside rest), (value, lone b, refl, is), refl)
value_in_front b (raw_list raw rest) tail value none is = absurd is
value_in_front b (word [] rest) tail value none is = absurd (let h : false ≡ true = is.0 in cc)
value_in_front b (word (c ∷ w) rest) tail value none is = (
  word (b ∷ c ∷ w) rest,
  (
    ap (λ t. cond t (is_word is_value_byte (c ∷ w)) false) value ∙ is.0,
    ap (λ t. cond t true (somewhere begins_comment (c ∷ w))) none ∙ is.1,
    is.2,
    is.3,
  ),
  refl,
)

-- pieces that spell one byte more do so before an open parenthesis too
open_in_front : (b : ℕ) (pieces more : Pieces) (deeper : List Pieces) (end : Option (List ℕ)) → spell more ≡ b ∷ spell pieces → spell_open more deeper end ≡ b ∷ spell_open pieces deeper end
open_in_front b pieces more [] end e = ap (λ t. t ++ spell_end end) e
open_in_front b pieces more (inner ∷ deeper) end e = ap (λ t. t ++ 40 ∷ spell_open inner deeper end) e

open_list_in_front : (inside rest : Pieces) (deeper : List Pieces) (end : Option (List ℕ)) → spell_open (list inside rest) deeper end ≡ 40 ∷ (spell inside ++ 41 ∷ spell_open rest deeper end)
open_list_in_front inside rest [] end = ap (λ t. 40 ∷ t) (append_assoc (spell inside) (41 ∷ spell rest) (spell_end end))
open_list_in_front inside rest (inner ∷ deeper) end = ap (λ t. 40 ∷ t) (append_assoc (spell inside) (41 ∷ spell rest) (40 ∷ spell_open inner deeper end))

open_comment_in_front : (body : List ℕ) (rest : Pieces) (deeper : List Pieces) (end : Option (List ℕ))
    → spell_open (comment body rest) deeper end ≡ 47 ∷ 42 ∷ (body ++ 42 ∷ 47 ∷ spell_open rest deeper end)
open_comment_in_front body rest [] end = ap (λ t. 47 ∷ 42 ∷ t) (append_assoc body (42 ∷ 47 ∷ spell rest) (spell_end end))
open_comment_in_front body rest (inner ∷ deeper) end = ap (λ t. 47 ∷ 42 ∷ t) (append_assoc body (42 ∷ 47 ∷ spell rest) (40 ∷ spell_open inner deeper end))

-- what stands after the pieces of a list in which the text ends
tail_of : (pieces : Pieces) (deeper : List Pieces) (end : Option (List ℕ)) → (tail : List ℕ) × (spell_open pieces deeper end ≡ spell pieces ++ tail)
tail_of pieces [] end = (spell_end end, refl)
tail_of pieces (inner ∷ deeper) end = (40 ∷ spell_open inner deeper end, refl)

-- outside lists, by the role of the first byte

outer_gap : (before : Before) (begun : Bool) (b : ℕ) (text : List ℕ) → role_here b text ≡ Gap → Outer before (b == 10) text → Outer before begun (b ∷ text)
outer_gap before begun b text is r = record {
  pieces = gap b r.pieces;
  stop = r.stop;
  outside = ((plain b text Gap is (λ e. cc)).role_is, r.outside);
  stops = r.stops;
  whole = ap (λ t. b ∷ t) r.whole;
}

-- where a comment begins
comment_begins : (b : ℕ) (text : List ℕ) (at : CommentAt b text) → b ∷ text ≡ 47 ∷ 42 ∷ at.rest
comment_begins b text at = ap (λ n. n ∷ text) at.byte_is ∙ ap (λ t. 47 ∷ t) at.whole

-- what stands after a comment, as a position further on
after_ended : (b : ℕ) (text : List ℕ) (at : CommentAt b text) (c : Ended at.rest) → text ≡ (42 ∷ (c.body ++ 42 ∷ 47 ∷ [])) ++ c.rest
after_ended b text at c = at.whole ∙ ap (λ t. 42 ∷ t) (c.whole ∙ sym (append_assoc c.body (42 ∷ 47 ∷ []) c.rest))

outer_comment : (before : Before) (begun : Bool) (b : ℕ) (text : List ℕ) (at : CommentAt b text) → ((skip : ℕ) → Outer before false (drop skip text)) → Ended at.rest ⊎ IsCommentText at.rest
    → Outer before begun (b ∷ text)
outer_comment before begun b text at after (inl c) =
    let r = at_rest (Outer before false) text (42 ∷ (c.body ++ 42 ∷ 47 ∷ [])) c.rest (after_ended b text at c) after in
    record {
      pieces = comment c.body r.pieces;
      stop = r.stop;
      outside = (c.is, r.outside);
      stops = r.stops;
      whole =
          comment_begins b text at
          ∙ ap (λ t. 47 ∷ 42 ∷ t) (c.whole ∙ ap (λ t. c.body ++ 42 ∷ 47 ∷ t) r.whole ∙ sym (append_assoc c.body (42 ∷ 47 ∷ spell r.pieces) (spell_stop r.stop)));
    }
outer_comment before begun b text at after (inr unclosed) =
    record { pieces = nothing; stop = open_comment at.rest; outside = tt; stops = unclosed; whole = comment_begins b text at }

outer_name : (before : Before) (begun : Bool) (b : ℕ) (text : List ℕ) → role_of b ≡ Name → Outer (named_before (b ∷ run is_name_byte text)) false (after_run is_name_byte text)
    → Outer before begun (b ∷ text)
outer_name before begun b text is r =
    let w : List ℕ = b ∷ run is_name_byte text in
    let name : is_name_byte b ≡ true = role-is_name b is in
    let P : List ℕ → Type 0 = λ t. begins_with is_name_byte t ≡ false in
    let Q : List ℕ → Type 0 = λ t. is_word is_name_byte t ≡ true in
    let cut : run is_name_byte (b ∷ text) ≡ w = ap (λ t. cond t w []) name in
    record {
      pieces = word w r.pieces;
      stop = r.stop;
      outside = (
        subst Q cut (is_word-run is_name_byte b text name),
        no_word (named_before w) r.pieces (spell_stop r.stop) r.outside (subst P r.whole (begins_with-after_run is_name_byte text)),
        r.outside,
      );
      stops = r.stops;
      whole =
          ap (λ t. b ∷ t) (sym (run-append-after_run is_name_byte text))
          ∙ ap (λ t. w ++ t) r.whole
          ∙ sym (append_assoc w (spell r.pieces) (spell_stop r.stop));
    }

outer_list : (begun : Bool) (text : List ℕ) → At 1 no_name false text → Outer a_name begun (40 ∷ text)
outer_list begun text (inl c) = record {
  pieces = list c.pieces c.after.pieces;
  stop = c.after.stop;
  outside = (refl, c.inside, c.after.outside);
  stops = c.after.stops;
  whole =
      ap (λ t. 40 ∷ t) (c.whole ∙ ap (λ t. spell c.pieces ++ 41 ∷ t) c.after.whole)
      ∙ ap (λ t. 40 ∷ t) (sym (append_assoc (spell c.pieces) (41 ∷ spell c.after.pieces) (spell_stop c.after.stop)));
}
outer_list begun text (inr u) = record {
  pieces = nothing;
  stop = open_list u.pieces u.deeper u.end;
  outside = tt;
  stops = (refl, u.inside, u.all, u.ends);
  whole = ap (λ t. 40 ∷ t) u.whole;
}

outer_raw : (begun : Bool) (text : List ℕ) → ((skip : ℕ) → Outer no_name false (drop skip text)) → RawAt 1 text → Outer name_comment begun (40 ∷ text)
outer_raw begun text after (inl c) =
    let r = at_rest (Outer no_name false) text (spell_raw c.raw ++ 41 ∷ []) c.rest (c.whole ∙ sym (append_assoc (spell_raw c.raw) (41 ∷ []) c.rest)) after in
    record {
      pieces = raw_list c.raw r.pieces;
      stop = r.stop;
      outside = (refl, c.is, r.outside);
      stops = r.stops;
      whole =
          ap (λ t. 40 ∷ t) (c.whole ∙ ap (λ t. spell_raw c.raw ++ 41 ∷ t) r.whole)
          ∙ ap (λ t. 40 ∷ t) (sym (append_assoc (spell_raw c.raw) (41 ∷ spell r.pieces) (spell_stop r.stop)));
    }
outer_raw begun text after (inr u) = record {
  pieces = nothing;
  stop = open_raw u.raw u.deeper;
  outside = tt;
  stops = (refl, u.is, u.all);
  whole = ap (λ t. 40 ∷ t) u.whole;
}

outer_open : (before : Before) (begun : Bool) (text : List ℕ) → At 1 no_name false text → ((skip : ℕ) → Outer no_name false (drop skip text)) → Outer before begun (40 ∷ text)
outer_open a_name begun text r after = outer_list begun text r
outer_open name_comment begun text r after = outer_raw begun text after (raw_cut 1 text)
outer_open no_name begun text r after = record { pieces = nothing; stop = nameless_list text; outside = tt; stops = refl; whole = refl }

-- a line that begins with ++
pluses : (begun : Bool) (b : ℕ) (text : List ℕ) → (begun && begins_statement (b ∷ text)) ≡ true → (begun ≡ true) × (rest : List ℕ) × (b ∷ text ≡ 43 ∷ 43 ∷ rest)
pluses false b text h = absurd (cc)
pluses true b [] h = absurd (cc)
pluses true b (c ∷ text) h = by_first (b == 43) refl where
  by_first : (t : Bool) → (b == 43) ≡ t → (true ≡ true) × (rest : List ℕ) × (b ∷ c ∷ text ≡ 43 ∷ 43 ∷ rest)
  by_first true e =
      let second : (c == 43) ≡ true = sym (ap (λ t. cond t (c == 43) false) e) ∙ h in
      let first_is : b ≡ 43 = grind (arith, nat_tests) in
      let second_is : c ≡ 43 = grind (arith, nat_tests) in
      (refl, text, cc)
  by_first false e = absurd (let no : false ≡ true = sym (ap (λ t. cond t (c == 43) false) e) ∙ h in cc)

outer_other : (before : Before) (begun : Bool) (b : ℕ) (text : List ℕ) → role_here b text ≡ Other → Outer before begun (b ∷ text)
outer_other before begun b text is = by_test (begun && begins_statement (b ∷ text)) refl where
  by_test : (t : Bool) → (begun && begins_statement (b ∷ text)) ≡ t → Outer before begun (b ∷ text)
  by_test true e =
      let found = pluses begun b text e in
      record { pieces = nothing; stop = statement_begins found.1; outside = tt; stops = found.0; whole = found.2 }
  by_test false e = record { pieces = nothing; stop = stray_byte b text; outside = tt; stops = (is, e); whole = refl }

-- in a list

inner_gap : (P : List ℕ → Type 0) (b : ℕ) (text : List ℕ) → role_of b ≡ Gap → Closes P text ⊎ Unclosed text → Closes P (b ∷ text) ⊎ Unclosed (b ∷ text)
inner_gap P b text is (inl c) = inl (record { pieces = gap b c.pieces; rest = c.rest; inside = (is, c.inside); whole = ap (λ t. b ∷ t) c.whole; after = c.after })
inner_gap P b text is (inr u) = inr (record {
  pieces = gap b u.pieces;
  deeper = u.deeper;
  end = u.end;
  inside = (is, u.inside);
  all = u.all;
  ends = u.ends;
  whole = ap (λ t. b ∷ t) u.whole ∙ sym (open_in_front b u.pieces (gap b u.pieces) u.deeper u.end refl);
})

inner_value : (P : List ℕ → Type 0) (b : ℕ) (text : List ℕ) → begins_value (b ∷ text) ≡ true → Closes P text ⊎ Unclosed text → Closes P (b ∷ text) ⊎ Unclosed (b ∷ text)
inner_value P b text is (inl c) =
    let here = value_here b text is in
    let more = value_in_front b c.pieces (41 ∷ c.rest) here.0 (ap (λ t. begins_comment (b ∷ t)) (sym c.whole) ∙ here.1) c.inside in
    inl (record { pieces = more.0; rest = c.rest; inside = more.1; whole = ap (λ t. b ∷ t) c.whole ∙ ap (λ t. t ++ 41 ∷ c.rest) (sym more.2); after = c.after })
inner_value P b text is (inr u) =
    let here = value_here b text is in
    let tail = tail_of u.pieces u.deeper u.end in
    let more = value_in_front b u.pieces tail.0 here.0 (ap (λ t. begins_comment (b ∷ t)) (sym (u.whole ∙ tail.1)) ∙ here.1) u.inside in
    inr (record {
      pieces = more.0;
      deeper = u.deeper;
      end = u.end;
      inside = more.1;
      all = u.all;
      ends = u.ends;
      whole = ap (λ t. b ∷ t) u.whole ∙ sym (open_in_front b u.pieces more.0 u.deeper u.end more.2);
    })

comment_then : (P : List ℕ → Type 0) (b : ℕ) (text : List ℕ) (at : CommentAt b text) (c : Ended at.rest) → Closes P c.rest ⊎ Unclosed c.rest → Closes P (b ∷ text) ⊎ Unclosed (b ∷ text)
comment_then P b text at c (inl r) = inl (record {
  pieces = comment c.body r.pieces;
  rest = r.rest;
  inside = (c.is, r.inside);
  whole =
      comment_begins b text at
      ∙ ap (λ t. 47 ∷ 42 ∷ t) (c.whole ∙ ap (λ t. c.body ++ 42 ∷ 47 ∷ t) r.whole ∙ sym (append_assoc c.body (42 ∷ 47 ∷ spell r.pieces) (41 ∷ r.rest)));
  after = r.after;
})
comment_then P b text at c (inr u) = inr (record {
  pieces = comment c.body u.pieces;
  deeper = u.deeper;
  end = u.end;
  inside = (c.is, u.inside);
  all = u.all;
  ends = u.ends;
  whole =
      comment_begins b text at
      ∙ ap (λ t. 47 ∷ 42 ∷ t) (c.whole ∙ ap (λ t. c.body ++ 42 ∷ 47 ∷ t) u.whole)
      ∙ sym (open_comment_in_front c.body u.pieces u.deeper u.end);
})

inner_comment : (P : List ℕ → Type 0) (b : ℕ) (text : List ℕ) (at : CommentAt b text) → ((skip : ℕ) → Closes P (drop skip text) ⊎ Unclosed (drop skip text)) → Ended at.rest ⊎ IsCommentText at.rest
    → Closes P (b ∷ text) ⊎ Unclosed (b ∷ text)
inner_comment P b text at after (inl c) =
    comment_then P b text at c (at_rest (λ t. Closes P t ⊎ Unclosed t) text (42 ∷ (c.body ++ 42 ∷ 47 ∷ [])) c.rest (after_ended b text at c) after)
inner_comment P b text at after (inr unclosed) =
    inr (record { pieces = nothing; deeper = []; end = Some at.rest; inside = tt; all = tt; ends = unclosed; whole = comment_begins b text at })

-- what follows a list within a list
list_then : (P : List ℕ → Type 0) (pieces : Pieces) (text rest : List ℕ) → IsInside pieces → text ≡ spell pieces ++ 41 ∷ rest → Closes P rest ⊎ Unclosed rest → Closes P (40 ∷ text) ⊎ Unclosed (40 ∷ text)
list_then P pieces text rest is whole (inl c) = inl (record {
  pieces = list pieces c.pieces;
  rest = c.rest;
  inside = (is, c.inside);
  whole =
      ap (λ t. 40 ∷ t) (whole ∙ ap (λ t. spell pieces ++ 41 ∷ t) c.whole)
      ∙ ap (λ t. 40 ∷ t) (sym (append_assoc (spell pieces) (41 ∷ spell c.pieces) (41 ∷ c.rest)));
  after = c.after;
})
list_then P pieces text rest is whole (inr u) = inr (record {
  pieces = list pieces u.pieces;
  deeper = u.deeper;
  end = u.end;
  inside = (is, u.inside);
  all = u.all;
  ends = u.ends;
  whole = ap (λ t. 40 ∷ t) (whole ∙ ap (λ t. spell pieces ++ 41 ∷ t) u.whole) ∙ sym (open_list_in_front pieces u.pieces u.deeper u.end);
})

inner_open : (depth : ℕ) (text : List ℕ) → At (suc (suc depth)) no_name false text → At (suc depth) no_name false (40 ∷ text)
inner_open depth text (inl c) = list_then (At depth no_name false) c.pieces text c.rest c.inside c.whole c.after
inner_open depth text (inr u) = inr (record {
  pieces = nothing;
  deeper = u.pieces ∷ u.deeper;
  end = u.end;
  inside = tt;
  all = (u.inside, u.all);
  ends = u.ends;
  whole = ap (λ t. 40 ∷ t) u.whole;
})

-- at the end of the text
at_end : (depth : ℕ) (before : Before) (begun : Bool) → At depth before begun []
at_end zero before begun = record { pieces = nothing; stop = text_ends; outside = tt; stops = tt; whole = refl }
at_end (suc depth) before begun = inr (record { pieces = nothing; deeper = []; end = None; inside = tt; all = tt; ends = tt; whole = refl })

-- from the cuts at every position further on, that at a position
abbrev After : List ℕ → Type 0
After text = (skip depth : ℕ) (before : Before) (begun : Bool) → At depth before begun (drop skip text)

outer : (before : Before) (begun : Bool) (b : ℕ) (text : List ℕ) (role : ByteRole) → role_here b text ≡ role → After text → Outer before begun (b ∷ text)
outer before begun b text Gap is after = outer_gap before begun b text is (after zero zero before (b == 10))
outer before begun b text Comment is after =
    let at = comment_at b text is in
    outer_comment before begun b text at (λ skip. after skip zero before false) (comment_cut at.rest)
outer before begun b text Name is after =
    outer_name before begun b text (plain b text Name is (λ e. cc)).role_is
    (at_rest (Outer (named_before (b ∷ run is_name_byte text)) false) text (run is_name_byte text) (after_run is_name_byte text) (sym (run-append-after_run is_name_byte text))
    (λ skip. after skip zero (named_before (b ∷ run is_name_byte text)) false))
outer before begun b text Open is after =
    let P : ℕ → Type 0 = λ n. Outer before begun (n ∷ text) in
    subst P (sym (role-is_open b (plain b text Open is (λ e. cc)).role_is)) (outer_open before begun text (after zero 1 no_name false) (λ skip. after skip zero no_name false))
outer before begun b text Close is after =
    record { pieces = nothing; stop = stray_close text; outside = tt; stops = tt; whole = ap (λ n. n ∷ text) (role-is_close b (plain b text Close is (λ e. cc)).role_is) }
outer before begun b text Period is after =
    record { pieces = nothing; stop = bad_subject text; outside = tt; stops = tt; whole = ap (λ n. n ∷ text) (role-is_period b (plain b text Period is (λ e. cc)).role_is) }
outer before begun b text Other is after = outer_other before begun b text is

inner : (depth : ℕ) (before : Before) (begun : Bool) (b : ℕ) (text : List ℕ) (role : ByteRole) → role_here b text ≡ role → After text → At (suc depth) before begun (b ∷ text)
inner depth before begun b text Gap is after = inner_gap (At depth no_name false) b text (plain b text Gap is (λ e. cc)).role_is (after zero (suc depth) no_name false)
inner depth before begun b text Comment is after =
    let at = comment_at b text is in
    inner_comment (At depth no_name false) b text at (λ skip. after skip (suc depth) no_name false) (comment_cut at.rest)
inner depth before begun b text Name is after = inner_value (At depth no_name false) b text (ap belongs_to_value is) (after zero (suc depth) no_name false)
inner depth before begun b text Open is after =
    let P : ℕ → Type 0 = λ n. At (suc depth) no_name false (n ∷ text) in
    subst P (sym (role-is_open b (plain b text Open is (λ e. cc)).role_is)) (inner_open depth text (after zero (suc (suc depth)) no_name false))
inner depth before begun b text Close is after =
    inl (record { pieces = nothing; rest = text; inside = tt; whole = ap (λ n. n ∷ text) (role-is_close b (plain b text Close is (λ e. cc)).role_is); after = after zero depth no_name false })
inner depth before begun b text Period is after = inner_value (At depth no_name false) b text (ap belongs_to_value is) (after zero (suc depth) no_name false)
inner depth before begun b text Other is after = inner_value (At depth no_name false) b text (ap belongs_to_value is) (after zero (suc depth) no_name false)

pub decomposed : (skip depth : ℕ) (before : Before) (begun : Bool) (text : List ℕ) → At depth before begun (drop skip text)
decomposed zero depth before begun [] = at_end depth before begun
decomposed (suc skip) depth before begun [] = at_end depth before begun
decomposed (suc skip) depth before begun (b ∷ text) = decomposed skip depth before begun text
decomposed zero zero before begun (b ∷ text) = outer before begun b text (role_here b text) refl (λ skip depth before begun. decomposed skip depth before begun text)
decomposed zero (suc depth) before begun (b ∷ text) = inner depth before begun b text (role_here b text) refl (λ skip depth before begun. decomposed skip depth before begun text)
