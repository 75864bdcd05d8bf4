-- What a head asks for.
use Rattle.std.proofs.Common.{◌≡◌, ◌⊎◌, inl, inr, ℕ, ◌+◌, ◌^◌, ◌<◌, ◌≤◌, lit<, Bool, true, false, List, [], ◌∷◌, length, nat_le, nat_lt, Some, None, Ok, Err, refl, sym, ap, ◌∙◌, arith}
use Rattle.std.proofs.lemmas.Bool.Decides.{nat_tests}
use Rattle.std.proofs.lemmas.Int.Digits.{digits_value-lt}
use Rattle.std.proofs.lemmas.Str.{IsAscii-take}
use Rattle.std.proofs.lemmas.Str.Ascii.{IsAscii-nil, IsAscii-cons}
use Rattle.std.proofs.Math.Nat.{pow-le-pow_right}
use Rattle.std.specs.Char.{digit_value, is_ascii_digit}
use Rattle.std.specs.List.{list_all}
use Rattle.std.specs.Str.{IsAscii}
use Rattle.std.specs.Str.Parse.{AllDigits, digits_value}
use Rattle.std.proofs.lemmas.Bool.{and_parts}
use Rattle.requests.specs.Headers.{Pair, has, is_named, sole, values}
use Rattle.requests.specs.Text.{begins_with, is_number}
use Rattle.requests.specs.Request.{change_number, is_path, length_by, length_told, length_untold, longest_body, path_of, slash}
use Rattle.requests.specs.declared.refusal.Refusal.TheVariants.{BadRequest, TooLarge}

order : (t : Bool) (a b : ℕ) → nat_le a b ≡ t → (a ≤ b) ⊎ (b < a)
order true a b h = inl (grind (arith, nat_tests))
order false a b h = inr (grind (arith, nat_tests))

-- ---- the body's length

pub told : (method value : List ℕ) (vs : List (List ℕ)) → Some value ≡ sole vs → length_told value ≡ length_by method vs
told method value [] h = cc
told method value (v ∷ []) h = let same : value ≡ v = cc in ap length_told same
told method value (v ∷ w ∷ more) h = cc

any_value : (name : List ℕ) (field : Pair) (fields : List Pair) → is_named name field ≡ false → values name (field ∷ fields) ≡ values name fields
any_value name field fields h = rw h refl

one_value : (name : List ℕ) (field : Pair) (fields : List Pair) → is_named name field ≡ true → values name (field ∷ fields) ≡ field.1 ∷ values name fields
one_value name field fields h = rw h refl

test : (t : Bool) (name : List ℕ) (field : Pair) (fields : List Pair) → is_named name field ≡ t
    → (has name fields ≡ false → values name fields ≡ []) → has name (field ∷ fields) ≡ false → values name (field ∷ fields) ≡ []
test true name field fields e rest h = let never : true ≡ false = (rw e at h) in cc
test false name field fields e rest h = any_value name field fields e ∙ rest (rw e at h)

-- where no field has a name, there are no values
pub no_values : (name : List ℕ) (fields : List Pair) → has name fields ≡ false → values name fields ≡ []
no_values name [] h = refl
no_values name (field ∷ fields) h = test (is_named name field) name field fields refl (no_values name fields) h

some_test : (t : Bool) (name : List ℕ) (field : Pair) (fields : List Pair) → is_named name field ≡ t
    → (has name fields ≡ true → values name fields ≡ [] → true ≡ false) → has name (field ∷ fields) ≡ true
    → values name (field ∷ fields) ≡ [] → true ≡ false
some_test true name field fields e rest h none = let never = sym (one_value name field fields e) ∙ none in cc
some_test false name field fields e rest h none = rest (rw e at h) (sym (any_value name field fields e) ∙ none)

some_values : (name : List ℕ) (fields : List Pair) → has name fields ≡ true → values name fields ≡ [] → true ≡ false
some_values name [] h none = sym h
some_values name (field ∷ fields) h none = some_test (is_named name field) name field fields refl (some_values name fields) h none

two : (method : List ℕ) (vs : List (List ℕ)) → None ≡ sole vs → (vs ≡ [] → true ≡ false) → Err BadRequest ≡ length_by method vs
two method [] h some = let never = some refl in cc
two method (v ∷ []) h some = cc
two method (v ∷ w ∷ more) h some = refl

-- more than one value
pub repeated : (method name : List ℕ) (fields : List Pair) → None ≡ sole (values name fields) → has name fields ≡ true
    → Err BadRequest ≡ length_by method (values name fields)
repeated method name fields h some = two method (values name fields) h (some_values name fields some)

-- no value
pub untold : (method name : List ℕ) (fields : List Pair) → has name fields ≡ false
    → length_untold method ≡ length_by method (values name fields)
untold method name fields h = ap (length_by method) (sym (no_values name fields h))

-- a length that stops one over the limit
limited : (v n most : ℕ) → (v ≤ most + 1 → n ≡ v) → (most + 1 < v → n ≡ most + 1) → n ≤ most → n ≡ v
limited v n most value over low = elim (order (nat_le v (most + 1)) v (most + 1) refl) [
  | inl h ↦ value h
  | inr h ↦ absurd (let e : n ≡ most + 1 = over h in omega arith)
]

pub told_within : (value : List ℕ) (n : ℕ) → is_number value ≡ true
    → (digits_value 10 value ≤ 67108865 → n ≡ digits_value 10 value) → (67108865 < digits_value 10 value → n ≡ 67108865)
    → n ≤ 67108864 → Ok n ≡ length_told value
unfolding longest_body
told_within value n is exact over low =
    let same : n ≡ digits_value 10 value = limited (digits_value 10 value) n 67108864 exact over low in
    let test : nat_le (digits_value 10 value) 67108864 ≡ true = grind (arith, nat_tests) in
    rw (is, test) (ap (λ k. Ok k) same)

pub told_over : (value : List ℕ) (n : ℕ) → is_number value ≡ true
    → (digits_value 10 value ≤ 67108865 → n ≡ digits_value 10 value) → (67108865 < digits_value 10 value → n ≡ 67108865)
    → 67108864 < n → Err TooLarge ≡ length_told value
unfolding longest_body
told_over value n is exact over high =
    let more : 67108864 < digits_value 10 value = elim (order (nat_le (digits_value 10 value) 67108865) (digits_value 10 value) 67108865 refl) [
      | inl h ↦ let e : n ≡ digits_value 10 value = exact h in omega arith
      | inr h ↦ omega arith
    ] in
    let test : nat_le (digits_value 10 value) 67108864 ≡ false = grind (arith, nat_tests) in
    rw (is, test) refl

digit_below : (b : ℕ) → is_ascii_digit b ≡ true → digit_value b < 10
digit_below b h = grind (arith, nat_tests)

all_digits : (text : List ℕ) → list_all is_ascii_digit text ≡ true → AllDigits 10 text
all_digits [] h = tt
all_digits (b ∷ text) h =
    let parts = and_parts (is_ascii_digit b) (list_all is_ascii_digit text) h in
    (digit_below b parts.0, all_digits text parts.1)

-- 19 digits fit
pub few_digits : (text : List ℕ) → is_number text ≡ true → length text ≤ 19 → digits_value 10 text ≤ 18446744073709551615
few_digits text is few =
    let digits = and_parts (nat_lt 0 (length text)) (list_all is_ascii_digit text) is in
    let below : digits_value 10 text < 10 ^ length text = digits_value-lt 10 text (all_digits text digits.1) in
    let power : 10 ^ length text ≤ 10 ^ 19 = pow-le-pow_right (lit< tt) few in
    omega arith

-- ---- the path

byte_ascii : (b : ℕ) → nat_lt b 128 ≡ true → b < 128
byte_ascii b h = grind (arith, nat_tests)

pub all_ascii : (text : List ℕ) → list_all (λ b. nat_lt b 128) text ≡ true → IsAscii text
all_ascii [] h = IsAscii-nil
all_ascii (b ∷ text) h =
    let parts = and_parts (nat_lt b 128) (list_all (λ b. nat_lt b 128) text) h in
    IsAscii-cons b text (byte_ascii b parts.0) (all_ascii text parts.1)

pub path_ascii : (target path : List ℕ) → is_path target ≡ true → path ≡ path_of target → IsAscii path
path_ascii target path h is =
    let parts = and_parts (begins_with slash target) (list_all (λ b. nat_lt b 128) target) h in
    rw is (IsAscii-take target _ (all_ascii target parts.1))

pub number_read : (text : List ℕ) (n : ℕ) → is_number text ≡ true → length text ≤ 19 → n ≡ digits_value 10 text → Some n ≡ change_number text
number_read text n is few same =
    let test : nat_le (length text) 19 ≡ true = grind (arith, nat_tests) in
    rw (is, test) (ap (λ k. Some k) same)
