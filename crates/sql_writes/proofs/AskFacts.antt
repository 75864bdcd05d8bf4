-- A read in a transaction: it changes nothing, and why it is refused.
use Rattle.std.proofs.Common.{◌≡◌, ℕ, true, List, [], Option, Some, None, Result, Ok, Err, IfErr, IfOk, IsTrue, sym, ◌∙◌, ap, subst, ◌⊎◌, inl, inr, arith, cond}
use Rattle.std.specs.Prelude.{length, map, IsSome}
use Rattle.sqlite.specs.Effect.{Database}
use Rattle.sqlite.specs.Order.{Row}
use Rattle.sqlite.specs.Query.{Query}
use Rattle.sqlite.specs.Listing.{understood}
use Rattle.sqlite.specs.State.{FailsToQuery, FailsToShow, HasCleanDisk, IsTooLate, IsUnchanged, KeepsCommit, Shown, ShowsRows, State, Survives}
use Rattle.sqlite.specs.Tree.{Trees}
use Rattle.sqlite.specs.declared.error.Error.{Error}
use Rattle.sqlite_resolve.specs.declared.compiled.Compiled.{Compiled}
use Rattle.sqlite_schema.specs.declared.command.Returning.{Returning}
use Rattle.sql_texts.specs.Meaning.{Reads}
use Rattle.sql_texts.specs.Schema.{bureau}
use Rattle.sqlite.specs.Values.{bound}
use Rattle.sqlite_value.specs.declared.value.ValueRef.{ValueRef}
use Rattle.sql_tables.specs.Ours.{held_by}
use Rattle.sql_tables.specs.Writing.{Changes, IsKnown}
use Rattle.sql_tables.proofs.StopFacts.{kept_failing, kept_unchanged, kept_unrun}
use Rattle.std.specs.List.{range_with_len}
use Rattle.std.specs.Result.{IsErr, IsErrAnd}
use Rattle.std.proofs.lemmas.Bool.{false≢true}
use Rattle.std.proofs.lemmas.List.{append-nil}
use Rattle.sqlite.specs.Clock.{timed}
use Rattle.sqlite.specs.Effect.{RefusesToRead}
use Rattle.sqlite.specs.Listing.{IsSourceOf, reads_listing}
use Rattle.sqlite.specs.Schema.{Schema}
use Rattle.sqlite_sql.specs.Program.{ProgramOverflows}
use Rattle.sqlite_typing.specs.Types.{accepts_program}
use Rattle.sql_texts.specs.Meaning.{parameter, selection, statement}
use Rattle.sql_writes.specs.Asking.{LeavesRows}
use Rattle.sql_writes.specs.Excused.{Excuses, Takes}
use Rattle.sql_writes.specs.Room.{AreUpTo}
use Rattle.sql_writes.proofs.NumberFacts.{raised_up_to}
use Rattle.sql_writes.proofs.RefusalFacts.{unrun}
use Rattle.sql_writes.proofs.TakeFacts.{stopped_first, takes_then, takes_told}
use Rattle.sql_rows.proofs.ChangeFacts.{changes_then, refused}
use Rattle.sql_rows.proofs.StatementFacts.{same_value}
use Rattle.sql_rows.proofs.TurnFacts.{told}

kept_shown : (old new : State) (sql : List ℕ) (c : Compiled) (params : Row) (rows : List Row) (what : Option Returning) → IsTrue old.in_transaction → ShowsRows old new sql c params rows what → KeepsCommit old new
kept_shown old new sql c params rows None inside h = kept_unchanged old new h.3
kept_shown old new sql c params rows (Some what) inside h =
    record { was_open = λ here. h.1.shown.was_open; committed = λ here. h.1.shown.committed_is ∙ ap (λ b. cond b old.committed new.now) inside }

live_shown : (old new : State) (sql : List ℕ) (c : Compiled) (params : Row) (rows : List Row) (what : Option Returning) → IsTrue old.in_transaction → ShowsRows old new sql c params rows what
    → IsTrue new.is_open × IsTrue new.in_transaction
live_shown old new sql c params rows None inside h = (h.3.0.is_open, h.3.0.mode ∙ inside)
live_shown old new sql c params rows (Some what) inside h = (h.1.shown.is_open, h.1.shown.mode ∙ inside)

unchanged_shown : (old new : State) (sql : List ℕ) (c : Compiled) (params : Row) (rows : List Row) (what : Option Returning) → what ≡ None → ShowsRows old new sql c params rows what → IsUnchanged old new
unchanged_shown old new sql c params rows None none h = h.3
unchanged_shown old new sql c params rows (Some what) none h = absurd (cc)

kept_refused : (old new : State) (sql : List ℕ) (c : Compiled) (params : Row) (e : Error) (what : Option Returning) → FailsToShow old new sql c params e what → KeepsCommit old new
kept_refused old new sql c params e None h = kept_unchanged old new h.3
kept_refused old new sql c params e (Some what) (inl h) = kept_unchanged old new h.1
kept_refused old new sql c params e (Some what) (inr h) = kept_failing old new _ e h

kept_unread : (old new : State) (sql : List ℕ) (params : Row) (e : Error) → FailsToQuery sql params old new e ⊎ IsTooLate sql params old new e → KeepsCommit old new
unfolding FailsToQuery
kept_unread old new sql params e (inl (inl h)) = kept_unrun old new sql params e h
kept_unread old new sql params e (inl (inr h)) = kept_refused old new sql h.0 _ e h.0.returning h.2
kept_unread old new sql params e (inr h) = kept_unchanged old new h.5

-- a read changes nothing
pub asked : {A : Type 0} (items : A → List Row) (old new : State) (text : List ℕ) (params : Row) (query : Query) (names : List (List ℕ)) (parameters : ℕ) (result : Result A Error)
    → Reads bureau text query names parameters → (HasCleanDisk new → IfOk result (λ a. Shown text params old new (items a)))
    → (HasCleanDisk new → IfErr result (λ e. FailsToQuery text params old new e ⊎ IsTooLate text params old new e))
    → Survives old new (λ trees. ⊥) → Changes old new result (λ stored. stored)
unfolding Shown
asked items old new text params query names parameters (Ok a) reads ok err survives = record {
  keeps = λ clean inside. let it = ok clean in kept_shown old new text it.0 _ (items a) it.0.returning inside it.2;
  survives = survives;
  done = λ clean inside.
      let it = ok clean in
      let live = live_shown old new text it.0 _ (items a) it.0.returning inside it.2 in (
        live.0,
        live.1,
        λ known.
            let plain : it.0.returning ≡ None = ap (λ (c : Compiled). c.returning) (same_value (sym it.1.is ∙ ap (λ s. understood s text) known.schema ∙ reads.statement)) in
            let same = unchanged_shown old new text it.0 _ (items a) it.0.returning plain it.2 in
            (subst IsKnown (sym same.0.now_is) known, ap held_by same.0.now_is, ap (λ (d : Database). d.trees 0) same.0.now_is),
      );
}
asked items old new text params query names parameters (Err e) reads ok err survives = record { keeps = λ clean inside. kept_unread old new text params e (err clean); survives = survives; done = tt }

-- and leaves the database as it was
pub asked_same : (old new : State) (text : List ℕ) (params : Row) (query : Query) (names : List (List ℕ)) (parameters : ℕ) (items : List Row)
    → Reads bureau text query names parameters → old.now.schema ≡ bureau → Shown text params old new items → new.now ≡ old.now
unfolding Shown
asked_same old new text params query names parameters items reads ours it =
    let plain : it.0.returning ≡ None = ap (λ (c : Compiled). c.returning) (same_value (sym it.1.is ∙ ap (λ s. understood s text) ours ∙ reads.statement)) in
    (unchanged_shown old new text it.0 _ items it.0.returning plain it.2).0.now_is

-- ---- why it is refused

never_some : (o : Option Returning) → o ≡ None → IsSome o → ⊥
never_some None is some = absurd (false≢true some)
never_some (Some r) is some = absurd (cc)

-- a read of the tables as they are, which asks for nothing that it may not have
unread : (old new : State) (text : List ℕ) (params : Row) (query : Query) (names : List (List ℕ)) (parameters : ℕ) (e : Error) → Reads bureau text query names parameters → old.now.schema ≡ bureau
    → length params ≡ length (map parameter (range_with_len 1 parameters)) → accepts_program bureau [] query params ≡ true → (ProgramOverflows old.now.trees params [] [] query → ⊥)
    → FailsToQuery text params old new e ⊎ IsTooLate text params old new e → Excuses old new e
unfolding FailsToQuery
unread old new text params query names parameters e reads ours given accepted none h = by h
  where
    one : Compiled
    one = statement (selection query names) parameters text

    here : understood old.now.schema text ≡ Ok one
    here = ap (λ s. understood s text) ours ∙ reads.statement

    asks : (db : Database) → db ≡ old.now → RefusesToRead old.step_limit (selection query names) db params e → Excuses old new e
    asks db is (inl mismatch) = absurd (let yes = subst (λ (s : Schema). accepts_program s [] query params ≡ true) (sym (ap (λ (d : Database). d.schema) is ∙ ours)) accepted in false≢true (sym mismatch.1 ∙ yes))
    asks db is (inr (inl overflows)) = absurd (none (subst (λ (d : Database). ProgramOverflows d.trees params [] [] query) is overflows.1))
    asks db is (inr (inr limited)) = inr (inr limited.1)

    by : FailsToQuery text params old new e ⊎ IsTooLate text params old new e → Excuses old new e
    by (inl (inl not_run)) = unrun old new text params (selection query names) (map parameter (range_with_len 1 parameters)) e here given not_run
    by (inl (inr it)) =
        let same : it.0 ≡ one = same_value (sym it.1.is ∙ here) in
        let why = subst (λ (c : Compiled). FailsToShow old new text c (timed params c.formats it.1.now) e c.returning) same it.2 in
        let plain : FailsToShow old new text one params e None = subst (λ row. FailsToShow old new text one row e None) (append-nil params) why in
        let listed = ap (λ s. reads_listing s text) ours ∙ reads.unlisted in
        asks plain.0 (subst (λ b. IsSourceOf b old.now plain.0) listed plain.1) plain.2
    by (inr late) =
        let same : late.0 ≡ one = same_value (sym late.1.is ∙ here) in
        absurd (never_some late.0.returning (ap (λ (c : Compiled). c.returning) same) late.2)

-- such a read
module _ (old new : State) (text : List ℕ) (query : Query) (names : List (List ℕ)) (parameters : ℕ) (values : List ValueRef) (params : Row) (given : bound values ≡ params) (reads : Reads bureau text query names parameters) where
  pub asked_stopped : {B : Type 0} (e : Error) (result : Result B Error) → length params ≡ length (map parameter (range_with_len 1 parameters)) → accepts_program bureau [] query params ≡ true
      → ((trees : Trees) → ProgramOverflows trees params [] [] query → ⊥) → IsErrAnd result (λ f. f ≡ e) → (HasCleanDisk new → FailsToQuery text (bound values) old new e ⊎ IsTooLate text (bound values) old new e)
      → Takes old new result 0 (λ stored. Unit {0})
  asked_stopped e result counted accepted small same fails =
      stopped_first {A = Unit {0}} old new e result 0 0 (λ stored. Unit {0}) (λ stored. Unit {0}) same (λ stored u. tt) (record {
        excused = λ most room clean inside from.
            unread old new text params query names parameters e reads from.0.0.schema counted accepted (small old.now.trees)
            (subst (λ row. FailsToQuery text row old new e ⊎ IsTooLate text row old new e) given (fails clean));
        numbers = tt;
      }) (omega arith)

  pub asked_takes : {B : Type 0} (done : B) (items : List Row) → (HasCleanDisk new → Shown text (bound values) old new items) → Takes old new (Ok done) 0 (λ stored. Unit {0})
  unfolding Shown
  asked_takes done items ok = record {
    excused = λ most room. tt;
    numbers = λ clean inside most from.
        let it = ok clean in
        let plain : it.0.returning ≡ None = ap (λ (c : Compiled). c.returning) (same_value (sym it.1.is ∙ ap (λ s. understood s text) from.0.schema ∙ reads.statement)) in
        let same = unchanged_shown old new text it.0 _ items it.0.returning plain it.2 in
        raised_up_to most 0 new.now.trees (subst (λ (d : Database). AreUpTo most d.trees) (sym same.0.now_is) from.1);
  }

-- ---- one question after another

-- a success is told otherwise
pub asks_told : {A B : Type 0} (old new : State) (a : A) (b : B) → LeavesRows {Answer = A} old new (Ok a) → LeavesRows {Answer = B} old new (Ok b)
asks_told old new a b one = record {
  changes = told old new a b (λ stored. stored) one.changes;
  takes = takes_told old new a b 0 (λ stored. Unit {0}) one.takes;
}

pub asks_then : {A B : Type 0} (old mid new : State) (a : A) (result : Result B Error) → LeavesRows {Answer = A} old mid (Ok a) → LeavesRows mid new result → LeavesRows old new result
asks_then old mid new a result one two = record {
  changes = changes_then old mid new a result (λ stored. stored) (λ stored. stored) one.changes two.changes;
  takes = takes_then old mid new a result (λ stored. stored) 0 0 (λ stored. Unit {0}) (λ stored. Unit {0}) (λ stored u. tt) one.changes one.takes two.changes.survives two.takes;
}

-- a refusal is told by a caller
pub asks_stopped : {A B : Type 0} (old new : State) (e : Error) (result : Result B Error) → IsErr result → IsErrAnd result (λ f. f ≡ e) → LeavesRows {Answer = A} old new (Err e) → LeavesRows old new result
asks_stopped old new e result is same one = record {
  changes = refused old new e result (λ stored. stored) (λ stored. stored) is one.changes;
  takes = stopped_first old new e result 0 0 (λ stored. Unit {0}) (λ stored. Unit {0}) same (λ stored u. tt) one.takes (omega arith);
}
