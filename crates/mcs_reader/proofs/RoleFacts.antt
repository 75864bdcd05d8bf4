-- What the role of a byte says of it.
use Rattle.std.proofs.Common.{◌≡◌, ℕ, ◌==◌, ◌||◌, not, Bool, true, false, cond, List, [], ◌∷◌, refl, sym, ◌∙◌, subst, arith}
use Rattle.std.proofs.lemmas.Bool.Decides.{nat_tests}
use Rattle.lemmas.proofs.TestFacts.{same_number}
use Rattle.mcs_reader.specs.Byte.{role_of, is_gap, is_name_byte, belongs_to_value}
use Rattle.mcs_reader.specs.declared.byte.ByteRole.{ByteRole}
use Rattle.mcs_reader.specs.declared.byte.ByteRole.TheVariants.{Gap, Comment, Name, Open, Close, Period, Other}
use Rattle.mcs_reader.specs.Pieces.{is_word, is_value_byte}

-- both halves of a test made by `if`
pub both : (x y : Bool) → cond x y false ≡ true → (x ≡ true) × (y ≡ true)
both true y h = (refl, h)
both false y h = absurd (cc)

-- which test a byte of this role has passed, of those that are tried in turn
abbrev Passed : (gap name opens closes ends : Bool) → ByteRole → Type 0
Passed gap name opens closes ends Gap = gap ≡ true
Passed gap name opens closes ends Comment = ⊥
Passed gap name opens closes ends Name = name ≡ true
Passed gap name opens closes ends Open = opens ≡ true
Passed gap name opens closes ends Close = closes ≡ true
Passed gap name opens closes ends Period = ends ≡ true
Passed gap name opens closes ends Other = Unit {0}

passed : (gap name opens closes ends : Bool) → Passed gap name opens closes ends (cond gap Gap (cond name Name (cond opens Open (cond closes Close (cond ends Period Other)))))
passed true name opens closes ends = refl
passed false true opens closes ends = refl
passed false false true closes ends = refl
passed false false false true ends = refl
passed false false false false true = refl
passed false false false false false = tt

passed_by : (b : ℕ) (role : ByteRole) → role_of b ≡ role → Passed (is_gap b) (is_name_byte b) (b == 40) (b == 41) (b == 46) role
unfolding role_of
passed_by b role h = subst (Passed (is_gap b) (is_name_byte b) (b == 40) (b == 41) (b == 46)) h (passed (is_gap b) (is_name_byte b) (b == 40) (b == 41) (b == 46))

pub role-is_name : (b : ℕ) → role_of b ≡ Name → is_name_byte b ≡ true
role-is_name b h = passed_by b Name h

pub name_is_no_gap : (b : ℕ) → is_name_byte b ≡ true → is_gap b ≡ false
name_is_no_gap b h = grind (arith, nat_tests)

pub role_of-name : (b : ℕ) → is_name_byte b ≡ true → role_of b ≡ Name
unfolding role_of
role_of-name b h = let no_gap = name_is_no_gap b h in rw (no_gap, h) refl

-- no other role is a name's
pub not_name : (b : ℕ) (role : ByteRole) → role_of b ≡ role → (role ≡ Name → ⊥) → is_name_byte b ≡ false
not_name b role is other = by_test (is_name_byte b) refl where
  by_test : (t : Bool) → is_name_byte b ≡ t → is_name_byte b ≡ false
  by_test true e = absurd (other (sym is ∙ role_of-name b e))
  by_test false e = e

pub first_of_word : (test : ℕ → Bool) (b : ℕ) (w : List ℕ) → is_word test (b ∷ w) ≡ true → test b ≡ true
first_of_word test b [] h = h
first_of_word test b (c ∷ w) h = (both (test b) (is_word test (c ∷ w)) h).0

pub role-is_open : (b : ℕ) → role_of b ≡ Open → b ≡ 40
role-is_open b h = same_number b 40 (passed_by b Open h)

pub role-is_close : (b : ℕ) → role_of b ≡ Close → b ≡ 41
role-is_close b h = same_number b 41 (passed_by b Close h)

pub role-is_period : (b : ℕ) → role_of b ≡ Period → b ≡ 46
role-is_period b h = same_number b 46 (passed_by b Period h)

pub role_of-41 : role_of 41 ≡ Close
unfolding role_of
role_of-41 = refl

pub role_of-40 : role_of 40 ≡ Open
unfolding role_of
role_of-40 = refl

pub role_of-46 : role_of 46 ≡ Period
unfolding role_of
role_of-46 = refl

pub role_of-43 : role_of 43 ≡ Other
unfolding role_of
role_of-43 = refl

pub role_of-42 : role_of 42 ≡ Other
unfolding role_of
role_of-42 = refl

pub role_of-47 : role_of 47 ≡ Other
unfolding role_of
role_of-47 = refl

-- no byte alone begins a comment
pub never_comment : (b : ℕ) → role_of b ≡ Comment → ⊥
never_comment b h = passed_by b Comment h

belongs_by_tests : (gap name opens closes ends : Bool) → (name ≡ true → (opens ≡ false) × (closes ≡ false))
    → belongs_to_value (cond gap Gap (cond name Name (cond opens Open (cond closes Close (cond ends Period Other))))) ≡ not (gap || opens || closes)
belongs_by_tests true name opens closes ends apart = refl
belongs_by_tests false true opens closes ends apart = let alone = apart refl in rw (alone.0, alone.1) refl
belongs_by_tests false false true closes ends apart = refl
belongs_by_tests false false false true ends apart = refl
belongs_by_tests false false false false true apart = refl
belongs_by_tests false false false false false apart = refl

name_apart : (b : ℕ) → is_name_byte b ≡ true → ((b == 40) ≡ false) × ((b == 41) ≡ false)
name_apart b h = (grind (arith, nat_tests), grind (arith, nat_tests))

-- a byte belongs to a value unless it is one of six
pub value_byte_by_exclusion : (b : ℕ) → is_value_byte b ≡ not (is_gap b || b == 40 || b == 41)
unfolding role_of
value_byte_by_exclusion b = belongs_by_tests (is_gap b) (is_name_byte b) (b == 40) (b == 41) (b == 46) (name_apart b)
