-- From what is said of one statement to what it changes, and from one change to several.
use Rattle.std.proofs.Common.{◌≡◌, ℕ, List, [], Result, Ok, Err, IfErr, IfOk, IsTrue, OnOk, sym, ◌∙◌, ap, subst}
use Rattle.std.specs.Result.{IsErr}
use Rattle.std.proofs.lemmas.Bool.{false≢true}
use Rattle.sqlite.specs.Effect.{Database}
use Rattle.sqlite.specs.Order.{Row}
use Rattle.sqlite.specs.State.{Executes, HasCleanDisk, IsNotRun, IsUnchanged, KeepsCommit, State, Survives}
use Rattle.sqlite.specs.declared.error.Error.{Error}
use Rattle.sql_tables.specs.Stored.{Stored}
use Rattle.sql_tables.specs.Ours.{held_by}
use Rattle.sql_tables.specs.Writing.{Changes, IsKnown}
use Rattle.sql_tables.proofs.StopFacts.{kept_then, kept_unchanged, kept_unrun, no_read, survives_both, was_clean}
use Rattle.sql_rows.specs.Running.{Ran}

-- one statement is a change
pub changed_by : {A F : Type 0} (old new : State) (text : List ℕ) (params : Row) (result : Result A F) (change : Stored → Stored) → Ran text params old new result
    → (HasCleanDisk old → (count : ℕ) → IsKnown old.now → Executes text params old new (Ok count) → IsKnown new.now × (held_by new.now ≡ change (held_by old.now)) × (new.now.trees 0 ≡ old.now.trees 0))
    → Changes old new result change
changed_by {A} {F} old new text params result change ran meant = record { keeps = ran.keeps; survives = ran.survives; done = by result ran.done }
  where
    by : (r : Result A F)
        → OnOk r (HasCleanDisk new → IsTrue old.in_transaction → IsTrue new.is_open × IsTrue new.in_transaction × ((count : ℕ) × Executes text params old new (Ok count)))
        → OnOk r (HasCleanDisk new → IsTrue old.in_transaction → IsTrue new.is_open × IsTrue new.in_transaction × (IsKnown old.now → IsKnown new.now × (held_by new.now ≡ change (held_by old.now)) × (new.now.trees 0 ≡ old.now.trees 0)))
    by (Ok a) done = λ clean inside.
        let it = done clean inside in
        (it.0, it.1, λ known. meant (was_clean old new _ ran.survives clean) it.2.0 known it.2.1)
    by (Err e) done = tt

-- what is committed stays over both of two steps
pub keeps_both : (old mid new : State) → (HasCleanDisk mid → IsTrue old.in_transaction → KeepsCommit old mid) → (HasCleanDisk new → IsTrue mid.in_transaction → KeepsCommit mid new)
    → Survives mid new (λ trees. ⊥) → (HasCleanDisk mid → IsTrue old.in_transaction → IsTrue mid.in_transaction) → HasCleanDisk new → IsTrue old.in_transaction → KeepsCommit old new
keeps_both old mid new one two survives stays clean inside =
    let before = was_clean mid new _ survives clean in
    kept_then old mid new (one before inside) (two clean (stays before inside))

-- one change and then another
pub changes_then : {A B E F : Type 0} (old mid new : State) (a : A) (result : Result B F) (first second : Stored → Stored)
    → Changes {Fault = E} old mid (Ok a) first → Changes mid new result second → Changes old new result (λ stored. second (first stored))
changes_then {A} {B} {E} {F} old mid new a result first second one two = record {
  keeps = keeps_both old mid new one.keeps two.keeps two.survives (λ clean inside. (one.done clean inside).1);
  survives = survives_both old mid new one.survives two.survives;
  done = by result two.done;
}
  where
    by : (r : Result B F)
        → OnOk r (HasCleanDisk new → IsTrue mid.in_transaction → IsTrue new.is_open × IsTrue new.in_transaction × (IsKnown mid.now → IsKnown new.now × (held_by new.now ≡ second (held_by mid.now)) × (new.now.trees 0 ≡ mid.now.trees 0)))
        → OnOk r (HasCleanDisk new → IsTrue old.in_transaction → IsTrue new.is_open × IsTrue new.in_transaction × (IsKnown old.now → IsKnown new.now × (held_by new.now ≡ second (first (held_by old.now))) × (new.now.trees 0 ≡ old.now.trees 0)))
    by (Ok b) done = λ clean inside.
        let before = one.done (was_clean mid new _ two.survives clean) inside in
        let it = done clean before.1 in
        (it.0, it.1, λ known. let known_then = before.2 known in ((it.2 known_then.0).0, (it.2 known_then.0).1 ∙ ap second known_then.1, (it.2 known_then.0).2 ∙ known_then.2))
    by (Err e) done = tt

-- a refusal is one of every change
pub refused : {A B E F : Type 0} (old new : State) (e : E) (result : Result B F) (change other : Stored → Stored) → IsErr result
    → Changes {Answer = A} old new (Err e) change → Changes old new result other
refused old new e (Ok b) change other is h = absurd (false≢true is)
refused old new e (Err f) change other is h = record { keeps = h.keeps; survives = h.survives; done = tt }

-- one change, and a refusal of the next
pub stopped : {A B C E F G : Type 0} (old mid new : State) (a : A) (f : F) (result : Result C G) (first second other : Stored → Stored) → IsErr result
    → Changes {Fault = E} old mid (Ok a) first → Changes {Answer = B} mid new (Err f) second → Changes old new result other
stopped old mid new a f result first second other is one two =
    refused old new f result (λ stored. second (first stored)) other is (changes_then old mid new a (Err f) first second one two)

-- a change under another name
pub alike : {A F : Type 0} (old new : State) (result : Result A F) (change other : Stored → Stored) → ((stored : Stored) → change stored ≡ other stored)
    → Changes old new result change → Changes old new result other
alike old new result change other same h = subst (Changes old new result) (λ i stored. same stored i) h

-- nothing is done, and the call is refused
pub untouched : {A F : Type 0} (s : State) (e : F) (change : Stored → Stored) → Changes {Answer = A} s s (Err e) change
untouched s e change =
    record { keeps = λ clean inside. (no_read s).keeps clean; survives = (no_read s).survives; done = tt }

-- a statement is prepared
pub prepared : {A : Type 0} (text_of : A → List ℕ) (old new : State) (text : List ℕ) (result : Result A Error)
    → (HasCleanDisk new → IfOk result (λ a. (text_of a ≡ text) × IsUnchanged old new))
    → (HasCleanDisk new → IfErr result (λ e. (params : Row) → IsNotRun old new text params e))
    → Survives old new (λ trees. ⊥) → Changes old new result (λ stored. stored)
prepared text_of old new text (Ok a) ok err survives = record {
  keeps = λ clean inside. kept_unchanged old new (ok clean).1;
  survives = survives;
  done = λ clean inside.
      let same = (ok clean).1 in
      let mode : IsTrue new.in_transaction = same.0.mode ∙ inside in
      (same.0.is_open, mode, λ known. (subst IsKnown (sym same.0.now_is) known, ap held_by same.0.now_is, ap (λ (d : Database). d.trees 0) same.0.now_is));
}
prepared text_of old new text (Err e) ok err survives = record { keeps = λ clean inside. kept_unrun old new text [] e (err clean []); survives = survives; done = tt }

-- one change and then another, which together are this one
pub both : {A B E F : Type 0} (old mid new : State) (a : A) (result : Result B F) (first second whole : Stored → Stored)
    → ((stored : Stored) → second (first stored) ≡ whole stored) → Changes {Fault = E} old mid (Ok a) first → Changes mid new result second → Changes old new result whole
both old mid new a result first second whole same one two =
    alike old new result (λ stored. second (first stored)) whole same (changes_then old mid new a result first second one two)

-- a change that is this one too where it starts
pub alike_here : {A F : Type 0} (old new : State) (result : Result A F) (change other : Stored → Stored)
    → (HasCleanDisk new → IsKnown old.now → change (held_by old.now) ≡ other (held_by old.now)) → Changes old new result change → Changes old new result other
alike_here {A} {F} old new result change other same h = record { keeps = h.keeps; survives = h.survives; done = by result h.done }
  where
    by : (r : Result A F)
        → OnOk r (HasCleanDisk new → IsTrue old.in_transaction → IsTrue new.is_open × IsTrue new.in_transaction × (IsKnown old.now → IsKnown new.now × (held_by new.now ≡ change (held_by old.now)) × (new.now.trees 0 ≡ old.now.trees 0)))
        → OnOk r (HasCleanDisk new → IsTrue old.in_transaction → IsTrue new.is_open × IsTrue new.in_transaction × (IsKnown old.now → IsKnown new.now × (held_by new.now ≡ other (held_by old.now)) × (new.now.trees 0 ≡ old.now.trees 0)))
    by (Ok a) done = λ clean inside.
        let it = done clean inside in
        (it.0, it.1, λ known. ((it.2 known).0, (it.2 known).1 ∙ same clean known, (it.2 known).2))
    by (Err e) done = tt
