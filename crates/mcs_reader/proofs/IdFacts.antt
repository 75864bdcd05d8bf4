-- What padding does to an id's text, and what such a text is made of.
use Rattle.std.proofs.Common.{◌≡◌, ℕ, zero, suc, ◌+◌, ◌-◌, ◌<◌, ◌≤◌, ◌==◌, ◌⊎◌, ◌∙◌, true, false, not, cond, if◌then◌else◌, List, [], ◌∷◌, ◌++◌, length, take, drop, replicate, refl, ap, arith, Some, None, codes}
use Rattle.std.specs.List.{list_all, prefix_len, take_while}
use Rattle.std.specs.Str.{IsAscii}
use Rattle.std.proofs.lemmas.Bool.Decides.{nat_tests}
use Rattle.std.proofs.lemmas.List.{drop-replicate, length-append, length-replicate}
use Rattle.std.proofs.lemmas.List.Sums.{take_while-cons, prefix_len-le-length}
use Rattle.std.proofs.lemmas.Str.Ascii.{IsAscii-nil, IsAscii-cons}
use Rattle.std.proofs.lemmas.Bool.{and_parts}
use Rattle.mcs_reader.specs.Id.{id_of, is_id_byte, is_id_text, padded, text_of, IsId}

id_byte-no_blank : (b : ℕ) → is_id_byte b ≡ true → (b == 32) ≡ false
id_byte-no_blank b allowed = grind (arith, nat_tests)

id_byte-ascii : (b : ℕ) → is_id_byte b ≡ true → b < 128
id_byte-ascii b allowed = grind (arith, nat_tests)

pub id_byte_below : (b : ℕ) → is_id_byte b ≡ true → b < 256
id_byte_below b allowed = grind (arith, nat_tests)

-- the length of an id's text, taken from the test
pub id_text_in_range : (t : List ℕ) → 0 < length t → length t ≤ 7 → is_id_text t ≡ list_all is_id_byte t
id_text_in_range t some few = grind (arith, nat_tests)

pub id_text_out_of_range : (t : List ℕ) → (length t ≡ 0) ⊎ (7 < length t) → is_id_text t ≡ false
id_text_out_of_range t outside = grind (arith, nat_tests)

pub id_bytes : (t : List ℕ) → is_id_text t ≡ true → list_all is_id_byte t ≡ true
id_bytes t allowed = grind (arith, nat_tests)

ascii_id_bytes : (t : List ℕ) → list_all is_id_byte t ≡ true → IsAscii t
ascii_id_bytes [] allowed = IsAscii-nil
ascii_id_bytes (b ∷ t) allowed =
    let parts = and_parts (is_id_byte b) (list_all is_id_byte t) allowed in
    IsAscii-cons b t (id_byte-ascii b parts.0) (ascii_id_bytes t parts.1)

pub ascii_id_text : (t : List ℕ) → is_id_text t ≡ true → IsAscii t
ascii_id_text t allowed = ascii_id_bytes t (id_bytes t allowed)

-- the text is what the bytes begin with, up to a blank
pub text_begins : (bs : List ℕ) → take (prefix_len (λ b. not (b == 32)) bs) bs ≡ text_of bs
text_begins [] = refl
text_begins (b ∷ bs) =
    take_while-cons (λ x. not (x == 32)) b bs
    ∙ elim (b == 32) as (λ v. cond (not v) (b ∷ take_while (λ x. not (x == 32)) bs) [] ≡ (if v then [] else b ∷ text_of bs)) [
      | true ↦ refl
      | false ↦ ap (λ s. b ∷ s) (text_begins bs)
    ]

pub text_fits : (bs : List ℕ) → prefix_len (λ b. not (b == 32)) bs ≤ length bs
text_fits bs = prefix_len-le-length (λ b. not (b == 32)) bs

-- blanks after a text are no part of it
text_of-blanks : (n : ℕ) → text_of (replicate n 32) ≡ []
text_of-blanks zero = refl
text_of-blanks (suc n) = refl

text_of-append_blanks : (t : List ℕ) (n : ℕ) → list_all is_id_byte t ≡ true → text_of (t ++ replicate n 32) ≡ t
text_of-append_blanks [] n allowed = text_of-blanks n
text_of-append_blanks (b ∷ t) n allowed =
    let parts = and_parts (is_id_byte b) (list_all is_id_byte t) allowed in
    rw (id_byte-no_blank b parts.0) (ap (λ s. b ∷ s) (text_of-append_blanks t n parts.1))

-- a text that is written over seven blanks
pub padded_over_blanks : (t : List ℕ) → t ++ drop (length t) (replicate 7 32) ≡ padded t
padded_over_blanks t = ap (λ s. t ++ s) (drop-replicate (length t) 7 32)

pub made_over_blanks : (t xs : List ℕ) → is_id_text t ≡ true → xs ≡ t → Some (xs ++ drop (length t) (replicate 7 32)) ≡ id_of t
made_over_blanks t xs allowed same = rw (same, allowed) (ap (λ bytes. Some bytes) (padded_over_blanks t))

pub text_over_blanks : (t xs : List ℕ) → is_id_text t ≡ true → xs ≡ t → text_of (xs ++ drop (length t) (replicate 7 32)) ≡ t
text_over_blanks t xs allowed same =
    rw (same, padded_over_blanks t) (text_of-append_blanks t (7 - length t) (id_bytes t allowed))

pub id_over_blanks : (t xs : List ℕ) → is_id_text t ≡ true → xs ≡ t → IsId (xs ++ drop (length t) (replicate 7 32))
id_over_blanks t xs allowed same =
    rw (text_over_blanks t xs allowed same) (allowed, rw same (padded_over_blanks t))

pub text_is_few : (text : List ℕ) → is_id_text text ≡ true → length text ≤ 7
text_is_few text is = grind (arith, nat_tests)

-- an id has seven bytes
pub id_len : (bytes : List ℕ) → IsId bytes → length bytes ≡ 7
id_len bytes is = ap length is.1 ∙ length-append t (replicate (7 - length t) 32) ∙ ap (λ n. length t + n) (length-replicate (7 - length t) 32) ∙ whole (text_is_few t is.0)
  where
    t : List ℕ
    t = text_of bytes

    whole : length t ≤ 7 → length t + (7 - length t) ≡ 7
    whole le = omega arith

-- Worked examples: UA1, and texts that are too long, empty, in small letters, or hold a blank.
example-short : id_of (codes "UA1") ≡ Some (codes "UA1    ")
example-short = refl

example-short_text : text_of (codes "UA1    ") ≡ codes "UA1"
example-short_text = refl

example-long : id_of (codes "UA10001") ≡ Some (codes "UA10001")
example-long = refl

example-others : id_of (codes "@#$") ≡ Some (codes "@#$    ")
example-others = refl

example-too_long : id_of (codes "UA100012") ≡ None
example-too_long = refl

example-empty : id_of [] ≡ None
example-empty = refl

example-small : id_of (codes "ua10001") ≡ None
example-small = refl

example-blank : id_of (codes "UA 1") ≡ None
example-blank = refl
