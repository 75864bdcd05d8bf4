-- Lists of COMMENT: the machine finds the parenthesis that closes one.
use Rattle.std.proofs.Common.{◌≡◌, ℕ, zero, suc, ◌==◌, ◌||◌, ◌⊎◌, inl, inr, Bool, true, false, cond, List, [], ◌∷◌, ◌++◌, Ok, Err, refl, sym, ◌∙◌, ap, arith, append_assoc, append-nil}
use Rattle.std.proofs.lemmas.Bool.Decides.{nat_tests}
use Rattle.std.proofs.lemmas.Bool.{or_parts}
use Rattle.mcs_reader.specs.Raw.{Raw, raw_end, raw_byte, raw_nested, is_parenthesis, spell_raw, IsRaw, spell_raw_open, AllRaw}
use Rattle.mcs_reader.specs.Scan.{after_raw}

pub raw-open : (depth : ℕ) (text : List ℕ) → after_raw depth (40 ∷ text) ≡ after_raw (suc depth) text
raw-open zero text = refl
raw-open (suc depth) text = refl

pub raw-close : (depth : ℕ) (text : List ℕ) → after_raw (suc depth) (41 ∷ text) ≡ after_raw depth text
raw-close depth text = refl

pub raw-close_last : (text : List ℕ) → after_raw zero (41 ∷ text) ≡ Ok text
raw-close_last text = refl

pub raw-byte : (depth b : ℕ) (text : List ℕ) → is_parenthesis b ≡ false → after_raw depth (b ∷ text) ≡ after_raw depth text
raw-byte zero b text is =
    let parts = or_parts (b == 40) (b == 41) is in
    ap (λ t. cond t (after_raw 1 text) (cond (b == 41) (Ok text) (after_raw zero text))) parts.0
    ∙ ap (λ t. cond t (Ok text) (after_raw zero text)) parts.1
raw-byte (suc depth) b text is =
    let parts = or_parts (b == 40) (b == 41) is in
    ap (λ t. cond t (after_raw (suc (suc depth)) text) (cond (b == 41) (after_raw depth text) (after_raw (suc depth) text))) parts.0
    ∙ ap (λ t. cond t (after_raw depth text) (after_raw (suc depth) text)) parts.1

-- what has matching parentheses is passed at any depth
pub after_raw-raw : (depth : ℕ) (raw : Raw) (text : List ℕ) → IsRaw raw → after_raw depth (spell_raw raw ++ text) ≡ after_raw depth text
after_raw-raw depth raw_end text is = refl
after_raw-raw depth (raw_byte b rest) text is = raw-byte depth b (spell_raw rest ++ text) is.0 ∙ after_raw-raw depth rest text is.1
after_raw-raw depth (raw_nested inside rest) text is =
    ap (λ t. after_raw depth (40 ∷ t)) (append_assoc (spell_raw inside) (41 ∷ spell_raw rest) text)
    ∙ raw-open depth (spell_raw inside ++ 41 ∷ (spell_raw rest ++ text))
    ∙ after_raw-raw (suc depth) inside (41 ∷ (spell_raw rest ++ text)) is.0
    ∙ raw-close depth (spell_raw rest ++ text)
    ∙ after_raw-raw depth rest text is.1

pub after_raw-ends : (raw : Raw) (text : List ℕ) → IsRaw raw → after_raw zero (spell_raw raw ++ 41 ∷ text) ≡ Ok text
after_raw-ends raw text is = after_raw-raw zero raw (41 ∷ text) is ∙ raw-close_last text

raw-end : (depth : ℕ) → after_raw depth [] ≡ Err depth
raw-end zero = refl
raw-end (suc depth) = refl

pub after_raw-open : (depth : ℕ) (raw : Raw) (deeper : List Raw) → IsRaw raw → AllRaw deeper → (unclosed : ℕ) × (after_raw depth (spell_raw_open raw deeper) ≡ Err unclosed)
after_raw-open depth raw [] is all = (depth, ap (after_raw depth) (sym (append-nil (spell_raw raw))) ∙ after_raw-raw depth raw [] is ∙ raw-end depth)
after_raw-open depth raw (inner ∷ more) is all =
    let rest = after_raw-open (suc depth) inner more all.0 all.1 in (
      rest.0,
      after_raw-raw depth raw (40 ∷ spell_raw_open inner more) is ∙ raw-open depth (spell_raw_open inner more) ∙ rest.1,
    )

-- Every text is that of a list of COMMENT up to the parenthesis that closes it, or such a list in which
-- the text ends.

pub record RawCloses (P : List ℕ → Type 0) (text : List ℕ) : Type 0 where
  pub raw : Raw
  pub rest : List ℕ
  pub is : IsRaw raw
  pub whole : text ≡ spell_raw raw ++ 41 ∷ rest
  pub after : P rest

pub record RawUnclosed (text : List ℕ) : Type 0 where
  pub raw : Raw
  pub deeper : List Raw
  pub is : IsRaw raw
  pub all : AllRaw deeper
  pub whole : text ≡ spell_raw_open raw deeper

abbrev pub RawAt : ℕ → List ℕ → Type 0
RawAt zero text = Unit {0}
RawAt (suc depth) text = RawCloses (RawAt depth) text ⊎ RawUnclosed text

byte_in_front : (b : ℕ) (raw : Raw) (deeper : List Raw) → spell_raw_open (raw_byte b raw) deeper ≡ b ∷ spell_raw_open raw deeper
byte_in_front b raw [] = refl
byte_in_front b raw (inner ∷ deeper) = refl

nested_in_front : (inside rest : Raw) (deeper : List Raw) → spell_raw_open (raw_nested inside rest) deeper ≡ 40 ∷ (spell_raw inside ++ 41 ∷ spell_raw_open rest deeper)
nested_in_front inside rest [] = refl
nested_in_front inside rest (inner ∷ deeper) = ap (λ t. 40 ∷ t) (append_assoc (spell_raw inside) (41 ∷ spell_raw rest) (40 ∷ spell_raw_open inner deeper))

cut_byte : (P : List ℕ → Type 0) (b : ℕ) (text : List ℕ) → is_parenthesis b ≡ false → RawCloses P text ⊎ RawUnclosed text → RawCloses P (b ∷ text) ⊎ RawUnclosed (b ∷ text)
cut_byte P b text is (inl c) = inl (record { raw = raw_byte b c.raw; rest = c.rest; is = (is, c.is); whole = ap (λ t. b ∷ t) c.whole; after = c.after })
cut_byte P b text is (inr u) = inr (record { raw = raw_byte b u.raw; deeper = u.deeper; is = (is, u.is); all = u.all; whole = ap (λ t. b ∷ t) u.whole ∙ sym (byte_in_front b u.raw u.deeper) })

nested_then : (P : List ℕ → Type 0) (inside : Raw) (text rest : List ℕ) → IsRaw inside → text ≡ spell_raw inside ++ 41 ∷ rest → RawCloses P rest ⊎ RawUnclosed rest
    → RawCloses P (40 ∷ text) ⊎ RawUnclosed (40 ∷ text)
nested_then P inside text rest is whole (inl c) = inl (record {
  raw = raw_nested inside c.raw;
  rest = c.rest;
  is = (is, c.is);
  whole =
      ap (λ t. 40 ∷ t) (whole ∙ ap (λ t. spell_raw inside ++ 41 ∷ t) c.whole)
      ∙ ap (λ t. 40 ∷ t) (sym (append_assoc (spell_raw inside) (41 ∷ spell_raw c.raw) (41 ∷ c.rest)));
  after = c.after;
})
nested_then P inside text rest is whole (inr u) = inr (record {
  raw = raw_nested inside u.raw;
  deeper = u.deeper;
  is = (is, u.is);
  all = u.all;
  whole = ap (λ t. 40 ∷ t) (whole ∙ ap (λ t. spell_raw inside ++ 41 ∷ t) u.whole) ∙ sym (nested_in_front inside u.raw u.deeper);
})

cut_open : (depth : ℕ) (text : List ℕ) → RawAt (suc (suc depth)) text → RawAt (suc depth) (40 ∷ text)
cut_open depth text (inl c) = nested_then (RawAt depth) c.raw text c.rest c.is c.whole c.after
cut_open depth text (inr u) = inr (record { raw = raw_end; deeper = u.raw ∷ u.deeper; is = tt; all = (u.is, u.all); whole = ap (λ t. 40 ∷ t) u.whole })

pub raw_cut : (depth : ℕ) (text : List ℕ) → RawAt depth text
raw_cut zero text = tt
raw_cut (suc depth) [] = inr (record { raw = raw_end; deeper = []; is = tt; all = tt; whole = refl })
raw_cut (suc depth) (b ∷ text) = by_open (b == 40) refl (raw_cut (suc depth) text) (raw_cut (suc (suc depth)) text) (raw_cut depth text) where
  by_close : (t : Bool) → (b == 40) ≡ false → (b == 41) ≡ t → RawAt (suc depth) text → RawAt depth text → RawAt (suc depth) (b ∷ text)
  by_close true other e here after =
      let close : b ≡ 41 = grind (arith, nat_tests) in
      inl (record { raw = raw_end; rest = text; is = tt; whole = ap (λ n. n ∷ text) close; after = after })
  by_close false other e here after = cut_byte (RawAt depth) b text (ap (λ t. t || (b == 41)) other ∙ e) here

  by_open : (t : Bool) → (b == 40) ≡ t → RawAt (suc depth) text → RawAt (suc (suc depth)) text → RawAt depth text → RawAt (suc depth) (b ∷ text)
  by_open true e here deeper after =
      let unclosed : b ≡ 40 = grind (arith, nat_tests) in
      rw unclosed (cut_open depth text deeper)
  by_open false e here deeper after = by_close (b == 41) e refl here after
