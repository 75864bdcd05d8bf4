-- Where comments begin and end, and the runs that they end.
use Rattle.std.proofs.Common.{◌≡◌, ◌≢◌, ℕ, ◌==◌, ◌⊎◌, inl, inr, Bool, true, false, cond, List, [], ◌∷◌, ◌++◌, Some, None, refl, sym, ◌∙◌, ap, arith}
use Rattle.std.proofs.lemmas.Bool.Decides.{nat_tests}
use Rattle.lemmas.proofs.TestFacts.{never}
use Rattle.mcs_reader.specs.Byte.{role_of, belongs_to_value}
use Rattle.mcs_reader.specs.Comment.{next_is, begins_comment, ends_comment, somewhere, IsCommentText, role_here}
use Rattle.mcs_reader.specs.declared.byte.ByteRole.{ByteRole}
use Rattle.mcs_reader.specs.declared.byte.ByteRole.TheVariants.{Comment, Other}
use Rattle.mcs_reader.specs.Pieces.{is_word, is_value_byte}
use Rattle.mcs_reader.specs.Run.{begins_value, value_run, after_value}
use Rattle.mcs_reader.specs.Scan.{after_comment}
use Rattle.mcs_reader.proofs.RoleFacts.{both, role_of-42, role_of-47, never_comment}

-- the role of a byte at its position

pub here_of : (b : ℕ) (text : List ℕ) (role : ByteRole) → role_of b ≡ role → role ≢ Other → role_here b text ≡ role
here_of b text role is other = by_test (b == 47) refl where
  by_test : (t : Bool) → (b == 47) ≡ t → cond (cond t (next_is 42 text) false) Comment (role_of b) ≡ role
  by_test true e = let slash : b ≡ 47 = grind (arith, nat_tests) in absurd (other (sym is ∙ ap role_of slash ∙ role_of-47))
  by_test false e = is

pub record Plain (b : ℕ) (text : List ℕ) (role : ByteRole) : Type 0 where
  pub role_is : role_of b ≡ role
  pub no_comment : begins_comment (b ∷ text) ≡ false

pub plain : (b : ℕ) (text : List ℕ) (role : ByteRole) → role_here b text ≡ role → role ≢ Comment → Plain b text role
plain b text role is other = by_test (begins_comment (b ∷ text)) refl is where
  by_test : (t : Bool) → begins_comment (b ∷ text) ≡ t → cond t Comment (role_of b) ≡ role → Plain b text role
  by_test true e h = absurd (other (sym h))
  by_test false e h = record { role_is = h; no_comment = e }

pub record CommentAt (b : ℕ) (text : List ℕ) : Type 0 where
  pub byte_is : b ≡ 47
  pub rest : List ℕ
  pub whole : text ≡ 42 ∷ rest

next_byte : (n : ℕ) (text : List ℕ) → next_is n text ≡ true → (rest : List ℕ) × (text ≡ n ∷ rest)
next_byte n [] h = absurd (cc)
next_byte n (b ∷ text) h = (text, ap (λ x. x ∷ text) (grind (arith, nat_tests)))

pub comment_at : (b : ℕ) (text : List ℕ) → role_here b text ≡ Comment → CommentAt b text
comment_at b text is = by_test (begins_comment (b ∷ text)) refl is where
  by_test : (t : Bool) → begins_comment (b ∷ text) ≡ t → cond t Comment (role_of b) ≡ Comment → CommentAt b text
  by_test true e h =
      let parts = both (b == 47) (next_is 42 text) e in
      let next = next_byte 42 text parts.1 in
      record { byte_is = grind (arith, nat_tests); rest = next.0; whole = next.1 }
  by_test false e h = absurd (never_comment b h)

-- values

pub value_goes_on : (b : ℕ) (text : List ℕ) → is_value_byte b ≡ true → begins_comment (b ∷ text) ≡ false → begins_value (b ∷ text) ≡ true
value_goes_on b text value none = ap (λ t. belongs_to_value (cond t Comment (role_of b))) none ∙ value

pub value_here : (b : ℕ) (text : List ℕ) → begins_value (b ∷ text) ≡ true → (is_value_byte b ≡ true) × (begins_comment (b ∷ text) ≡ false)
value_here b text h = by_test (begins_comment (b ∷ text)) refl h where
  by_test : (t : Bool) → begins_comment (b ∷ text) ≡ t → belongs_to_value (cond t Comment (role_of b)) ≡ true → (is_value_byte b ≡ true) × (begins_comment (b ∷ text) ≡ false)
  by_test true e value = absurd (cc)
  by_test false e value = (value, e)

-- a star would go on with the value
pub no_star : (text : List ℕ) → begins_value text ≡ false → next_is 42 text ≡ false
no_star [] h = refl
no_star (b ∷ text) h = by_test (b == 42) refl where
  by_test : (t : Bool) → (b == 42) ≡ t → (b == 42) ≡ false
  by_test true e =
      let star : b ≡ 42 = grind (arith, nat_tests) in
      let goes_on : begins_value (b ∷ text) ≡ true = ap (λ n. begins_value (n ∷ text)) star ∙ ap belongs_to_value role_of-42 in
      absurd (cc)
  by_test false e = e

pub value_run-append-after_value : (text : List ℕ) → value_run text ++ after_value text ≡ text
value_run-append-after_value [] = refl
value_run-append-after_value (b ∷ text) = by_test (begins_value (b ∷ text)) (value_run-append-after_value text) where
  by_test : (t : Bool) → value_run text ++ after_value text ≡ text → cond t (b ∷ value_run text) [] ++ cond t (after_value text) (b ∷ text) ≡ b ∷ text
  by_test true whole = ap (λ t. b ∷ t) whole
  by_test false whole = refl

pub begins_value-after_value : (text : List ℕ) → begins_value (after_value text) ≡ false
begins_value-after_value [] = refl
begins_value-after_value (b ∷ text) = by_test (begins_value (b ∷ text)) refl (begins_value-after_value text) where
  by_test : (t : Bool) → begins_value (b ∷ text) ≡ t → begins_value (after_value text) ≡ false → begins_value (cond t (after_value text) (b ∷ text)) ≡ false
  by_test true e after = after
  by_test false e after = e

no_run : (text : List ℕ) → begins_value text ≡ false → value_run text ≡ []
no_run [] ends = refl
no_run (b ∷ text) ends = ap (λ t. cond t (b ∷ value_run text) []) ends

pub neither : (x y : Bool) → cond x true y ≡ false → (x ≡ false) × (y ≡ false)
neither true y h = absurd (cc)
neither false y h = (refl, h)

-- what is a value's text goes as far as the value
pub value_run_is : (w text : List ℕ) → is_word is_value_byte w ≡ true → somewhere begins_comment w ≡ false → begins_value text ≡ false → value_run (w ++ text) ≡ w
value_run_is [] text is none ends = absurd (cc)
value_run_is (b ∷ []) text is none ends =
    let last : begins_comment (b ∷ text) ≡ false = ap (λ t. cond (b == 47) t false) (no_star text ends) ∙ never (b == 47) in
    ap (λ t. cond t (b ∷ value_run text) []) (value_goes_on b text is last) ∙ ap (λ t. b ∷ t) (no_run text ends)
value_run_is (b ∷ c ∷ w) text is none ends =
    let parts = both (is_value_byte b) (is_word is_value_byte (c ∷ w)) is in
    let nones = neither (begins_comment (b ∷ c ∷ w)) (somewhere begins_comment (c ∷ w)) none in
    ap (λ t. cond t (b ∷ value_run ((c ∷ w) ++ text)) []) (value_goes_on b ((c ∷ w) ++ text) parts.0 nones.0)
    ∙ ap (λ t. b ∷ t) (value_run_is (c ∷ w) text parts.1 nones.1 ends)

-- the end of a comment

pub after_comment-ends : (body rest : List ℕ) → IsCommentText body → after_comment (body ++ 42 ∷ 47 ∷ rest) ≡ Some rest
after_comment-ends [] rest is = refl
after_comment-ends (b ∷ []) rest is =
    let parts = neither (ends_comment (b ∷ [])) false is in
    ap (λ t. cond t (Some (47 ∷ rest)) (Some rest)) parts.0
after_comment-ends (b ∷ c ∷ body) rest is =
    let parts = neither (ends_comment (b ∷ c ∷ body)) (somewhere ends_comment (c ∷ body)) is in
    ap (λ t. cond t (Some (body ++ 42 ∷ 47 ∷ rest)) (after_comment ((c ∷ body) ++ 42 ∷ 47 ∷ rest))) parts.0
    ∙ after_comment-ends (c ∷ body) rest parts.1

pub after_comment-open : (text : List ℕ) → IsCommentText text → after_comment text ≡ None
after_comment-open [] is = refl
after_comment-open (b ∷ []) is =
    let parts = neither (ends_comment (b ∷ [])) false is in
    ap (λ t. cond t (Some []) None) parts.0
after_comment-open (b ∷ c ∷ text) is =
    let parts = neither (ends_comment (b ∷ c ∷ text)) (somewhere ends_comment (c ∷ text)) is in
    ap (λ t. cond t (Some text) (after_comment (c ∷ text))) parts.0 ∙ after_comment-open (c ∷ text) parts.1

-- a comment ends, or goes on to the end of the text
pub record Ended (text : List ℕ) : Type 0 where
  pub body : List ℕ
  pub rest : List ℕ
  pub is : IsCommentText body
  pub whole : text ≡ body ++ 42 ∷ 47 ∷ rest

not_ended : (b : ℕ) (body rest : List ℕ) → ends_comment (b ∷ (body ++ 42 ∷ 47 ∷ rest)) ≡ false → ends_comment (b ∷ body) ≡ false
not_ended b [] rest h = h
not_ended b (c ∷ body) rest h = h

pub comment_cut : (text : List ℕ) → Ended text ⊎ IsCommentText text
comment_cut [] = inr refl
comment_cut (b ∷ text) = by_test (ends_comment (b ∷ text)) refl (comment_cut text) where
  by_test : (t : Bool) → ends_comment (b ∷ text) ≡ t → Ended text ⊎ IsCommentText text → Ended (b ∷ text) ⊎ IsCommentText (b ∷ text)
  by_test true e after =
      let parts = both (b == 42) (next_is 47 text) e in
      let next = next_byte 47 text parts.1 in
      let star : b ≡ 42 = grind (arith, nat_tests) in
      inl (record { body = []; rest = next.0; is = refl; whole = ap (λ t. b ∷ t) next.1 ∙ ap (λ n. n ∷ 47 ∷ next.0) star })
  by_test false e (inl c) =
      let none : ends_comment (b ∷ (c.body ++ 42 ∷ 47 ∷ c.rest)) ≡ false = ap (λ t. ends_comment (b ∷ t)) (sym c.whole) ∙ e in
      inl (record {
        body = b ∷ c.body;
        rest = c.rest;
        is = ap (λ t. cond t true (somewhere ends_comment c.body)) (not_ended b c.body c.rest none) ∙ c.is;
        whole = ap (λ t. b ∷ t) c.whole;
      })
  by_test false e (inr unclosed) = inr (ap (λ t. cond t true (somewhere ends_comment text)) e ∙ unclosed)
