-- Changes that are so where something is true of the rows.
use Rattle.std.proofs.Common.{◌≡◌, ◌+◌, ℕ, Result, Ok, Err, refl, sym, ◌∙◌, ap, subst}
use Rattle.std.specs.Result.{IsErr}
use Rattle.std.proofs.lemmas.Bool.{false≢true}
use Rattle.sqlite.specs.State.{HasCleanDisk, State, Survives}
use Rattle.sqlite.specs.declared.error.Error.{Error}
use Rattle.sql_tables.specs.Stored.{Stored}
use Rattle.sql_tables.specs.Ours.{held_by}
use Rattle.sql_tables.specs.Writing.{Changes, IsKnown}
use Rattle.sql_writes.specs.Altering.{ChangesWhere}
use Rattle.sql_writes.specs.Excused.{IsExcused, Takes}
use Rattle.sql_writes.specs.Room.{IsRoomy}
use Rattle.sql_rows.proofs.ChangeFacts.{alike_here, changes_then, refused, stopped, untouched}
use Rattle.sql_rows.proofs.TurnFacts.{told}
use Rattle.sql_writes.proofs.TakeFacts.{takes_then}

-- a change that is this one where such a thing is true
pub where_here : {A F : Type 0} (old new : State) (result : Result A F) (Fits : Stored → Type 0) (change other : Stored → Stored) → ((stored : Stored) → Fits stored → change stored ≡ other stored)
    → Changes old new result change → ChangesWhere old new result Fits other
where_here old new result Fits change other same h = record { made = change; changes = h; same = same }

-- one that is this one whatever the rows are
pub where_any : {A F : Type 0} (old new : State) (result : Result A F) (Fits : Stored → Type 0) (change : Stored → Stored) → Changes old new result change → ChangesWhere old new result Fits change
where_any old new result Fits change h = where_here old new result Fits change change (λ stored fits. refl) h

-- under another name
pub where_alike : {A F : Type 0} (old new : State) (result : Result A F) (Fits : Stored → Type 0) (change other : Stored → Stored) → ((stored : Stored) → Fits stored → change stored ≡ other stored)
    → ChangesWhere old new result Fits change → ChangesWhere old new result Fits other
where_alike old new result Fits change other same h = record { made = h.made; changes = h.changes; same = λ stored fits. h.same stored fits ∙ same stored fits }

-- the same success, told otherwise
pub where_told : {A B F G : Type 0} (old new : State) (a : A) (b : B) (Fits : Stored → Type 0) (change : Stored → Stored) → ChangesWhere {Fault = F} old new (Ok a) Fits change → ChangesWhere {Fault = G} old new (Ok b) Fits change
where_told old new a b Fits change h = record { made = h.made; changes = told old new a b h.made h.changes; same = h.same }

-- a refusal is one of every change
pub where_refused : {A B E F : Type 0} (old new : State) (e : E) (result : Result B F) (Fits Others : Stored → Type 0) (change other : Stored → Stored) → IsErr result
    → ChangesWhere {Answer = A} old new (Err e) Fits change → ChangesWhere old new result Others other
where_refused old new e result Fits Others change other is h =
    record { made = other; changes = refused old new e result h.made other is h.changes; same = λ stored fits. refl }

-- nothing is done, and the call is refused
pub where_untouched : {B F : Type 0} (s : State) (result : Result B F) (Fits : Stored → Type 0) (other : Stored → Stored) → IsErr result → ChangesWhere s s result Fits other
where_untouched s (Ok b) Fits other is = absurd (false≢true is)
where_untouched s (Err f) Fits other is = where_any s s (Err f) Fits other (untouched s f other)

-- one change, and a refusal of the next
pub where_stopped : {A B C E F G : Type 0} (old mid new : State) (a : A) (f : F) (result : Result C G) (Fits Others : Stored → Type 0) (first second other : Stored → Stored) → IsErr result
    → ChangesWhere {Fault = E} old mid (Ok a) Fits first → Changes {Answer = B} mid new (Err f) second → ChangesWhere old new result Others other
where_stopped old mid new a f result Fits Others first second other is one two =
    record { made = other; changes = stopped old mid new a f result one.made second other is one.changes two; same = λ stored fits. refl }

-- one change and then another, which together are this one
pub where_then : {A B E F : Type 0} (old mid new : State) (a : A) (result : Result B F) (Fits : Stored → Type 0) (first second whole : Stored → Stored) → ((stored : Stored) → second (first stored) ≡ whole stored)
    → ChangesWhere {Fault = E} old mid (Ok a) Fits first → Changes mid new result second → ChangesWhere old new result Fits whole
where_then old mid new a result Fits first second whole same one two = record {
  made = λ stored. second (one.made stored);
  changes = changes_then old mid new a result one.made second one.changes two;
  same = λ stored fits. ap second (one.same stored fits) ∙ same stored;
}

-- the same of two that are so where something is true
pub where_both : {A B E F : Type 0} (old mid new : State) (a : A) (result : Result B F) (Fits Others : Stored → Type 0) (first second whole : Stored → Stored) → ((stored : Stored) → Fits stored → Others (first stored))
    → ((stored : Stored) → second (first stored) ≡ whole stored) → ChangesWhere {Fault = E} old mid (Ok a) Fits first → ChangesWhere mid new result Others second → ChangesWhere old new result Fits whole
where_both old mid new a result Fits Others first second whole after same one two = record {
  made = λ stored. two.made (one.made stored);
  changes = changes_then old mid new a result one.made two.made one.changes two.changes;
  same = λ stored fits. two.same (one.made stored) (subst Others (sym (one.same stored fits)) (after stored fits)) ∙ ap second (one.same stored fits) ∙ same stored;
}

-- and it is true
pub where_known : {A F : Type 0} (old new : State) (result : Result A F) (Fits : Stored → Type 0) (change : Stored → Stored) → (HasCleanDisk new → IsKnown old.now → Fits (held_by old.now))
    → ChangesWhere old new result Fits change → Changes old new result change
where_known old new result Fits change fits h = alike_here old new result h.made change (λ clean known. h.same (held_by old.now) (fits clean known)) h.changes

-- ---- why they are refused

pub takes_where : {A B E : Type 0} (old mid new : State) (a : A) (result : Result B Error) (first : Stored → Stored) (rows more : ℕ) (One Two : Stored → Type 0)
    → ((stored : Stored) → One stored → Two (first stored)) → ChangesWhere {Fault = E} old mid (Ok a) One first → Takes {Answer = A} old mid (Ok a) rows One → Survives mid new (λ trees. ⊥) → Takes mid new result more Two
    → Takes old new result (rows + more) One
takes_where old mid new a result first rows more One Two after one taken survives two =
    takes_then old mid new a result one.made rows more One Two (λ stored fits. subst Two (sym (one.same stored fits)) (after stored fits)) one.changes taken survives two

pub takes_known : {A : Type 0} (old new : State) (result : Result A Error) (rows : ℕ) (Fits : Stored → Type 0) → (HasCleanDisk new → IsKnown old.now → Fits (held_by old.now))
    → Takes old new result rows Fits → Takes old new result rows (λ stored. Unit {0})
takes_known {A} old new result rows Fits fits one = record { excused = λ most room. by result most (one.excused most room); numbers = one.numbers }
  where
    by : (r : Result A Error) (most : ℕ) → IsExcused old new r (λ database. IsRoomy most database × Fits (held_by database)) → IsExcused old new r (λ database. IsRoomy most database × Unit {0})
    by (Ok a) most it = tt
    by (Err e) most it = λ clean inside from. it clean inside (from.0, fits clean from.0.0)
