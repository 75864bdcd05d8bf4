-- From why one statement is refused to why several are.
use Rattle.std.proofs.Common.{◌≡◌, ◌≤◌, ◌<◌, ◌+◌, ◌^◌, ℕ, Bool, true, List, Result, Ok, Err, IsTrue, OnOk, sym, ◌∙◌, ap, subst, arith}
use Rattle.std.specs.Result.{IsErrAnd}
use Rattle.std.specs.Prelude.{◌-◌, get_or, length, sum_by, take}
use Rattle.std.specs.List.{AllByRecursion, list_all}
use Rattle.std.proofs.lemmas.List.Sums.{sum_by-take-drop, sum_by_more}
use Rattle.sqlite_rules.proofs.ListLemmas.{all_has, has_at, test_has}
use Rattle.sqlite.specs.State.{HasCleanDisk, State, Survives}
use Rattle.sqlite.specs.declared.error.Error.{Error}
use Rattle.sql_tables.specs.Stored.{Stored}
use Rattle.sql_tables.specs.Ours.{held_by}
use Rattle.sql_tables.specs.Writing.{Changes, IsKnown}
use Rattle.sql_tables.proofs.StopFacts.{was_clean}
use Rattle.sql_writes.specs.Excused.{Excuses, IsExcused, Takes}
use Rattle.bureau_store.specs.Effects.{effect_as}
use Rattle.sql_writes.specs.Room.{AreUpTo, IsRoomy, rows_made}
use Rattle.bureau_store.specs.declared.effect.Effect.{Effect}
use Rattle.sql_writes.proofs.ExcuseFacts.{still_excused}
use Rattle.sql_writes.proofs.NumberFacts.{raised_up_to}

-- the same refusal, of statements that would have added more, told by a caller
pub stopped_first : {A B : Type 0} (old new : State) (e : Error) (result : Result B Error) (rows more : ℕ) (Fits Others : Stored → Type 0) → IsErrAnd result (λ f. f ≡ e)
    → ((stored : Stored) → Others stored → Fits stored) → Takes {Answer = A} old new (Err e) rows Fits → rows ≤ more → Takes old new result more Others
stopped_first {A} {B} old new e result rows more Fits Others same fits one fewer = by result same
  where
    by : (r : Result B Error) → IsErrAnd r (λ f. f ≡ e) → Takes old new r more Others
    by (Ok b) same = absurd same
    by (Err f) same = record {
      excused = λ most room clean inside from. subst (Excuses old new) (sym same) (one.excused most (omega (arith, room, fewer)) clean inside (from.0, fits (held_by old.now) from.1));
      numbers = tt;
    }

-- one call and then another, which fits where the first began
pub takes_here : {A B E : Type 0} (old mid new : State) (a : A) (result : Result B Error) (first : Stored → Stored) (rows more : ℕ) (One Two : Stored → Type 0)
    → (HasCleanDisk mid → IsKnown old.now → One (held_by old.now) → Two (first (held_by old.now))) → Changes {Fault = E} old mid (Ok a) first → Takes {Answer = A} old mid (Ok a) rows One → Survives mid new (λ trees. ⊥) → Takes mid new result more Two
    → Takes old new result (rows + more) One
takes_here {A} {B} {E} old mid new a result first rows more One Two fits change one survives two = record {
  excused = λ most room. by result most room (two.excused (most + rows) (omega (arith, room)));
  numbers = done result two.numbers;
}
  where
    after : HasCleanDisk new → IsTrue old.in_transaction → IsTrue mid.is_open × IsTrue mid.in_transaction × (IsKnown old.now → IsKnown mid.now × (held_by mid.now ≡ first (held_by old.now)) × (mid.now.trees 0 ≡ old.now.trees 0))
    after clean inside = change.done (was_clean mid new _ survives clean) inside

    roomy : HasCleanDisk new → IsTrue old.in_transaction → (most : ℕ) → IsRoomy most old.now → IsRoomy (most + rows) mid.now
    roomy clean inside most from = (((after clean inside).2 from.0).0, one.numbers (was_clean mid new _ survives clean) inside most from)

    by : (r : Result B Error) (most : ℕ) → most + (rows + more) < 2 ^ 63 → IsExcused mid new r (λ database. IsRoomy (most + rows) database × Two (held_by database))
        → IsExcused old new r (λ database. IsRoomy most database × One (held_by database))
    by (Ok b) most room then = tt
    by (Err e) most room then = λ clean inside from.
        let it = after clean inside in
        still_excused old mid new e it.0 change.survives.counts change.survives.limit
        (then clean it.1 (roomy clean inside most from.0, subst Two (sym (it.2 from.0.0).1) (fits (was_clean mid new _ survives clean) from.0.0 from.1)))

    done : (r : Result B Error) → OnOk r (HasCleanDisk new → IsTrue mid.in_transaction → (most : ℕ) → IsRoomy most mid.now → AreUpTo (most + more) new.now.trees)
        → OnOk r (HasCleanDisk new → IsTrue old.in_transaction → (most : ℕ) → IsRoomy most old.now → AreUpTo (most + (rows + more)) new.now.trees)
    done (Err e) numbers = tt
    done (Ok b) numbers = λ clean inside most from.
        subst (λ n. AreUpTo n new.now.trees) (omega arith) (numbers clean (after clean inside).1 (most + rows) (roomy clean inside most from))

-- the same of calls that fit wherever they begin
pub takes_then : {A B E : Type 0} (old mid new : State) (a : A) (result : Result B Error) (first : Stored → Stored) (rows more : ℕ) (One Two : Stored → Type 0)
    → ((stored : Stored) → One stored → Two (first stored)) → Changes {Fault = E} old mid (Ok a) first → Takes {Answer = A} old mid (Ok a) rows One → Survives mid new (λ trees. ⊥) → Takes mid new result more Two
    → Takes old new result (rows + more) One
takes_then old mid new a result first rows more One Two fits change one survives two =
    takes_here old mid new a result first rows more One Two (λ clean known. fits (held_by old.now)) change one survives two

-- the same, of fewer rows
pub takes_more : {A : Type 0} (old new : State) (result : Result A Error) (rows more : ℕ) (Fits Others : Stored → Type 0) → ((stored : Stored) → Others stored → Fits stored) → rows ≤ more
    → Takes old new result rows Fits → Takes old new result more Others
takes_more {A} old new result rows more Fits Others fits fewer one = record {
  excused = λ most room. by result most room (one.excused most (omega (arith, room, fewer)));
  numbers = done result one.numbers;
}
  where
    by : (r : Result A Error) (most : ℕ) → most + more < 2 ^ 63 → IsExcused old new r (λ database. IsRoomy most database × Fits (held_by database)) → IsExcused old new r (λ database. IsRoomy most database × Others (held_by database))
    by (Ok a) most room it = tt
    by (Err e) most room it = λ clean inside from. it clean inside (from.0, fits (held_by old.now) from.1)

    done : (r : Result A Error) → OnOk r (HasCleanDisk new → IsTrue old.in_transaction → (most : ℕ) → IsRoomy most old.now → AreUpTo (most + rows) new.now.trees)
        → OnOk r (HasCleanDisk new → IsTrue old.in_transaction → (most : ℕ) → IsRoomy most old.now → AreUpTo (most + more) new.now.trees)
    done (Err e) numbers = tt
    done (Ok a) numbers = λ clean inside most from.
        let sum : (most + rows) + (more - rows) ≡ most + more = omega (arith, fewer) in
        subst (λ n. AreUpTo n new.now.trees) sum (raised_up_to (most + rows) (more - rows) new.now.trees (numbers clean inside most from))

-- one row, of which alone such a thing is true
pub takes_alone : {A : Type 0} (old new : State) (result : Result A Error) (Fits : Stored → Type 0) → Takes old new result 1 (λ stored. Fits stored × Unit {0}) → Takes old new result 1 Fits
takes_alone old new result Fits one = takes_more old new result 1 1 (λ stored. Fits stored × Unit {0}) Fits (λ stored fits. (fits, tt)) (omega arith) one

-- a success is told otherwise
pub takes_told : {A B : Type 0} (old new : State) (a : A) (b : B) (rows : ℕ) (Fits : Stored → Type 0) → Takes {Answer = A} old new (Ok a) rows Fits → Takes {Answer = B} old new (Ok b) rows Fits
takes_told old new a b rows Fits one = record { excused = λ most room. tt; numbers = one.numbers }

-- ---- lists, element by element

-- so many rows, which are as many as these
pub takes_as : {A : Type 0} (old new : State) (result : Result A Error) (Fits : Stored → Type 0) {rows other : ℕ} → rows ≡ other → Takes old new result rows Fits → Takes old new result other Fits
takes_as old new result Fits same one = subst (λ n. Takes old new result n Fits) same one

module _ {X : Type 0} where
  module _ (count : X → ℕ) where
    pub more_rows : (xs : List X) (i : ℕ) (x : X) → i < length xs → x ≡ get_or xs i x → sum_by count (take i xs) + count x ≡ sum_by count (take (i + 1) xs)
    more_rows xs i x low at = ap (λ y. sum_by count (take i xs) + count y) at ∙ sym (sum_by_more count xs i x low)

    pub fewer_rows : (xs : List X) (i : ℕ) (x : X) → i < length xs → x ≡ get_or xs i x → sum_by count (take i xs) + count x ≤ sum_by count xs
    fewer_rows xs i x low at =
        let more = more_rows xs i x low at in
        let whole = sum_by-take-drop count xs (i + 1) in
        omega (arith, more, whole)

  pub element : (P : X → Type 0) (xs : List X) (i : ℕ) (x : X) → i < length xs → x ≡ get_or xs i x → AllByRecursion P xs → P x
  element P xs i x low at all = all_has P xs x all (has_at xs i x low at)

  pub element_passes : (p : X → Bool) (xs : List X) (i : ℕ) (x : X) → i < length xs → x ≡ get_or xs i x → list_all p xs ≡ true → p x ≡ true
  element_passes p xs i x low at all = test_has p xs x all (has_at xs i x low at)

-- a refusal of statements that fit whatever is there
pub takes_excuse : {A : Type 0} (old new : State) (result : Result A Error) (rows most : ℕ) → most + rows < 2 ^ 63 → Takes old new result rows (λ stored. Unit {0}) → IsExcused old new result (IsRoomy most)
takes_excuse {A} old new result rows most room one = by result (one.excused most room)
  where
    by : (r : Result A Error) → IsExcused old new r (λ database. IsRoomy most database × Unit {0}) → IsExcused old new r (IsRoomy most)
    by (Ok a) it = tt
    by (Err e) it = λ clean inside from. it clean inside (from, tt)

-- the same of an effect that it is
pub takes_of : {A : Type 0} (old new : State) (result : Result A Error) (effect same : Effect) → effect ≡ same → Takes old new result (rows_made (effect_as same)) (λ stored. Unit {0}) → Takes old new result (rows_made (effect_as effect)) (λ stored. Unit {0})
takes_of old new result effect same is one = subst (λ (it : Effect). Takes old new result (rows_made (effect_as it)) (λ stored. Unit {0})) (sym is) one
