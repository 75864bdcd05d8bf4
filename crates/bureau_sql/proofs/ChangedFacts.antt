-- A change of a connection, and how it is told, are a change of the store, whatever it changes.
use Rattle.std.proofs.Common.{◌≡◌, ◌∙◌, ◌⊎◌, ℕ, Bool, Err, IfErr, IsTrue, Ok, OnErr, OnOk, Result, ap, arith, inl, inr, refl, subst, sym}
use Rattle.std.specs.Prelude.{IsErrOf}
use Rattle.catalogue.specs.View.{Asks, Tells}
use Rattle.bureau_store.specs.SetCallers.{ChangesTo}
use Rattle.bureau_store.specs.Store.{IsOfCall, IsOfRead, IsSettled}
use Rattle.bureau_store.specs.Tables.{Tables}
use Rattle.bureau_store.specs.declared.fault.StoreFault.{StoreFault}
use Rattle.bureau_store.specs.declared.fault.StoreFault.TheVariants.{Memory, Device, Size, Shape, Version}
use Rattle.sqlite.specs.Held.{Held, state}
use Rattle.sqlite.specs.State.{HasCleanDisk}
use Rattle.sqlite_trees.specs.Tree.{Trees}
use Rattle.sqlite_trees.specs.declared.store.Store.{Ghosts}
use Rattle.sql_tables.specs.InTrees.{stored_in}
use Rattle.sql_tables.specs.Stored.{Stored, tables_of}
use Rattle.sql_tables.specs.Whole.{IsWhole}
use Rattle.sql_tables.specs.Ours.{AreOurs, IsOurs, held_by}
use Rattle.bureau_sql.specs.Committed.{AreChanged, HaveChange, IsCommitted}
use Rattle.bureau_sql.specs.Laws.{sql_lawful}
use Rattle.bureau_sql.specs.SqlState.{SqlState}
use Rattle.bureau_sql.specs.SqlView.{IsAtRest, IsOurStore, shown, sql_view}
use Rattle.bureau_sql.specs.Told.{IsTold}
use Rattle.sql_tables.proofs.StopFacts.{was_clean}
use Rattle.bureau_sql.proofs.ToldFacts.{failed_since, never_failed}

-- a store settles by what its connection rests on
pub settles : {S : Type 0} (g : Ghosts S) (store : SqlState S) → ((trees : Trees) → IsTrue (shown g store).is_open → (shown g store).may_leave trees → trees ≡ (shown g store).committed.trees)
    → IsSettled (sql_view g) store
settles g store rests ours clean standing this stands left may =
    sym may.2 ∙ ap (λ trees. tables_of (stored_in trees)) (rests may.0 (ours.1 standing).0 may.1) ∙ stands standing

module _ {S : Type 0} (g : Ghosts S) (change : Stored → Stored) (IsDueIn : Tables → Type 0) (next : Tables → Tables)
    (stays_whole : (stored : Stored) → IsWhole stored → IsWhole (change stored))
    (meant : (stored : Stored) → IsDueIn (tables_of stored) → tables_of (change stored) ≡ next (tables_of stored)) where
  tables_made : (stored : Stored) (this : Tables) → tables_of stored ≡ this → IsDueIn this → tables_of (change stored) ≡ next this
  tables_made stored this stands due = meant stored (subst IsDueIn (sym stands) due) ∙ ap next stands

  module _ (old mid new : SqlState S) (standing : old.failures ≡ 0) (same : mid.failures ≡ old.failures)
      (rests : (trees : Trees) → IsTrue (shown g new).is_open → (shown g new).may_leave trees → trees ≡ (shown g new).committed.trees) where
    -- rows with the change are ours
    ours_rows : IsOurs (shown g old).committed → (trees : Trees) → HaveChange (shown g old).committed change trees → AreOurs trees
    ours_rows were trees changed = record {
      sound = changed.sound;
      numbered = changed.numbered;
      version = changed.version ∙ were.rows.version;
      whole = subst IsWhole (sym changed.rows) (stays_whole (held_by (shown g old).committed) were.rows.whole);
    }

    -- so is what a stop may leave
    ours_left : {Answer Refusal : Type 0} (made : Result Answer Refusal) → IsCommitted (shown g old) (shown g mid) made change → HasCleanDisk (shown g mid) → IsOurStore g old
        → (trees : Trees) → (shown g mid).may_leave trees → AreOurs trees
    ours_left made committed clean ours trees may = elim (committed.survives.crash clean trees may) [
      | inl was ↦ ours.0 trees was
      | inr changed ↦ let were = ours.1 standing in ours_rows were.1 trees (changed were.0 were.1)
    ]

    -- and what is committed
    ours_after : {Answer Refusal : Type 0} (made : Result Answer Refusal) → IsCommitted (shown g old) (shown g mid) made change → OnOk made (IsOurStore g old → HasCleanDisk (shown g mid)
        → IsTrue (shown g mid).is_open × IsOurs (shown g mid).committed × (held_by (shown g mid).committed ≡ change (held_by (shown g old).committed)))
    ours_after (Err e) committed = tt
    ours_after (Ok a) committed = λ ours clean.
        let done = committed.done clean in
        let were = (ours.1 standing).1 in
        let is = done.1 were in
        (done.0, record { schema = is.0; rows = ours_rows were (shown g mid).committed.trees is.1 }, is.1.rows)

    crashes : {Answer Refusal : Type 0} (made : Result Answer Refusal) → IsCommitted (shown g old) (shown g mid) made change → HasCleanDisk (shown g mid) → IsOurStore g old
        → (this : Tables) → IsDueIn this → (sql_view g).stands old this → (left : Tables) (trees : Trees) → (shown g mid).may_leave trees → tables_of (stored_in trees) ≡ left
        → (sql_view g).may_leave old left ⊎ ((old.failures ≡ 0) × (left ≡ next this))
    crashes made committed clean ours this due stands left trees may is = elim (committed.survives.crash clean trees may) [
      | inl was ↦ inl (trees, was, is)
      | inr changed ↦
          let has = changed (ours.1 standing).0 (ours.1 standing).1 in
          inr (standing, sym is ∙ ap tables_of has.rows ∙ tables_made (held_by (shown g old).committed) this (stands standing) due)
    ]

    made_so : {Done Answer Refusal : Type 0} (b : Answer) (done : Done) → IsCommitted {Fault = Refusal} (shown g old) (shown g mid) (Ok b) change
        → ((trees : Trees) → IsTrue (shown g mid).is_open → (shown g mid).may_leave trees → trees ≡ (shown g mid).committed.trees)
        → ChangesTo (sql_view g) IsDueIn next old mid (Ok done)
    made_so {Done} {Answer} {Refusal} b done committed rests_so =
        let after = ours_after {Refusal = Refusal} (Ok b) committed in
        record {
          goes = record {
            clean = was_clean (shown g old) (shown g mid) (AreChanged (shown g old) change) committed.survives;
            ours = λ ours clean. (ours_left {Refusal = Refusal} (Ok b) committed clean ours, λ standing_so. let it = after ours clean in (it.0, it.1));
            failures_rise = omega (arith, same);
          };
          done = λ ours clean this due stands standing_so.
              ap tables_of (after ours clean).2 ∙ tables_made (held_by (shown g old).committed) this (stands standing) due;
          refused = tt;
          refusal = tt;
          cause = λ is. absurd cc;
          is_open = λ none. same ∙ standing;
          crash = λ ours clean this due stands left may. crashes {Refusal = Refusal} (Ok b) committed clean ours this due stands left may.0 may.1 may.2;
          settled = settles g mid rests_so;
        }

    refused_so : {Done Answer Refusal : Type 0} (e : Refusal) (fault : StoreFault) → IsCommitted {Answer = Answer} (shown g old) (shown g mid) (Err e) change
        → IsTold g {Answer = Done} {Fault = Refusal} Device mid new (Err e) (Err fault) → IsOfCall fault → ChangesTo (sql_view g) {Done = Done} IsDueIn next old new (Err fault)
    refused_so e fault committed told of_call =
        record {
          goes = record {
            clean = λ clean. before (between clean);
            ours = λ ours clean. (
              λ trees may. elim (told.reads.survives.crash clean trees may) [
                | inl was ↦ ours_left (Err e) committed (between clean) ours trees was
                | inr none ↦ absurd none
              ],
              λ standing_so.
                  let is_open = still_open standing_so clean in
                  (is_open, subst IsOurs (sym (same_rows clean is_open)) (ours.1 standing).1),
            );
            failures_rise = omega (arith, standing);
          };
          done = tt;
          refused = λ ours clean this stands standing_so.
              ap (λ database. tables_of (held_by database)) (same_rows clean (still_open standing_so clean)) ∙ stands standing;
          refusal = of_call;
          cause = λ is. elim told.refused [
            | inl failed ↦ failed_since g old mid new same failed.1
            | inr kept ↦ absurd (let one : fault ≡ Device = cc in kept.0 one)
          ];
          is_open = λ none. elim told.refused [
            | inl failed ↦ absurd (none (ap Err failed.0))
            | inr kept ↦ kept.1 ∙ same ∙ standing
          ];
          crash = λ ours clean this due stands left may. elim (told.reads.survives.crash clean may.0 may.1) [
            | inl was ↦ crashes (Err e) committed (between clean) ours this due stands left may.0 was may.2
            | inr none ↦ absurd none
          ];
          settled = settles g new rests;
        }
      where
        between : HasCleanDisk (shown g new) → HasCleanDisk (shown g mid)
        between = was_clean (shown g mid) (shown g new) (λ trees. ⊥) told.reads.survives

        before : HasCleanDisk (shown g mid) → HasCleanDisk (shown g old)
        before = was_clean (shown g old) (shown g mid) (AreChanged (shown g old) change) committed.survives

        still_open : new.failures ≡ 0 → HasCleanDisk (shown g new) → IsTrue (shown g new).is_open
        still_open standing_so clean = elim told.refused [
          | inl failed ↦ absurd (never_failed g mid new failed.1 standing_so)
          | inr kept ↦ kept.2 clean
        ]

        same_rows : HasCleanDisk (shown g new) → IsTrue (shown g new).is_open → (shown g new).committed ≡ (shown g old).committed
        same_rows clean is_open =
            let kept = told.reads.keeps clean in
            kept.committed is_open ∙ (committed.refused (between clean)).committed (kept.was_open is_open)

    changes : {Done Refusal : Type 0} (made : Result Done Refusal) (answer : Result Done StoreFault) → IsCommitted (shown g old) (shown g mid) made change
        → IsTold g Device mid new made answer → IfErr answer IsOfCall → ChangesTo (sql_view g) IsDueIn next old new answer
    changes {Done} {Refusal} (Ok b) (Ok done) committed told of_call =
        let rests_so = subst (λ it. (trees : Trees) → IsTrue (shown g it).is_open → (shown g it).may_leave trees → trees ≡ (shown g it).committed.trees) told.told.1 rests in
        subst (λ it. ChangesTo (sql_view g) IsDueIn next old it (Ok done)) (sym told.told.1) (made_so {Refusal = Refusal} b done committed rests_so)
    changes {Done} {Refusal} (Err e) (Ok done) committed told of_call = absurd (let one = told.told.0 in cc)
    changes {Done} {Refusal} (Ok b) (Err fault) committed told of_call = absurd (let one = told.heard in cc)
    changes {Done} {Refusal} (Err e) (Err fault) committed told of_call = refused_so {Answer = Done} e fault committed told of_call

  -- the connection's change, and how it is told, of a store that is open
  pub open_changes : {Done Refusal : Type 0} (conn changed : Held S) (failures : ℕ) (unseen : Bool) (old new : SqlState S) → record { conn = conn; failures = failures; unseen = unseen } ≡ old → old.failures ≡ 0
      → ((trees : Trees) → IsTrue (shown g new).is_open → (shown g new).may_leave trees → trees ≡ (shown g new).committed.trees)
      → (made : Result Done Refusal) (answer : Result Done StoreFault) → IsCommitted (state g conn) (state g changed) made change
      → IsTold g Device (record { conn = changed; failures = failures; unseen = unseen }) new made answer → IfErr answer IsOfCall → ChangesTo (sql_view g) IsDueIn next old new answer
  open_changes conn changed failures unseen old new same standing rests made answer committed told of_call =
      let before : SqlState S = record { conn = conn; failures = failures; unseen = unseen } in
      let between : SqlState S = record { conn = changed; failures = failures; unseen = unseen } in
      subst (λ it. ChangesTo (sql_view g) IsDueIn next it new answer) same
      (changes before between new (ap (λ it. it.failures) same ∙ standing) refl rests made answer committed told of_call)

-- ---- a read, and a change of what was read

module _ {S : Type 0} (g : Ghosts S) (IsDueIn : Tables → Type 0) (next : Tables → Tables) where
  -- what was read is changed
  pub read_then : {Answer Done : Type 0} (old mid new : SqlState S) (a : Answer) (answer : Result Done StoreFault) → Asks (sql_view g) {Answer = Answer} Device old mid (Ok a)
      → Tells (sql_view g) old mid IsDueIn → ChangesTo (sql_view g) IsDueIn next mid new answer → ChangesTo (sql_view g) (λ this. Unit {0}) next old new answer
  read_then {Answer} {Done} old mid new a answer asks tells two =
      let kept = (sql_lawful g).keeps old mid asks.keeps in
      let rises = kept.goes.failures_rise in
      let clean = λ (after : HasCleanDisk (shown g new)). two.goes.clean after in
      record {
        goes = record {
          clean = λ after. kept.goes.clean (clean after);
          ours = λ ours after. two.goes.ours (kept.goes.ours ours (clean after)) after;
          failures_rise = let more = two.goes.failures_rise in omega (arith, rises, more);
        };
        done = made answer two.done;
        refused = unmade answer two.refused;
        refusal = two.refusal;
        cause = λ is. elim (two.cause is) [
          | inl more ↦ inl (omega (arith, rises, more))
          | inr most ↦ inr most
        ];
        is_open = two.is_open;
        crash = λ ours after this due stands left may.
            elim (two.crash (kept.goes.ours ours (clean after)) after this (tells.told ours (clean after) this stands) (kept.stays ours (clean after) this stands) left may) [
              | inl was ↦ inl (kept.leaves ours (clean after) left was)
              | inr changed ↦ inr (let none = changed.0 in omega (arith, rises, none), changed.1)
            ];
        settled = two.settled;
      }
    where
      made : (r : Result Done StoreFault)
          → OnOk r (IsOurStore g mid → HasCleanDisk (shown g new) → (this : Tables) → IsDueIn this → (sql_view g).stands mid this → (sql_view g).stands new (next this))
          → OnOk r (IsOurStore g old → HasCleanDisk (shown g new) → (this : Tables) → Unit {0} → (sql_view g).stands old this → (sql_view g).stands new (next this))
      made (Ok done) two_done = λ ours after this due stands.
          let kept = (sql_lawful g).keeps old mid asks.keeps in
          let before = two.goes.clean after in
          two_done (kept.goes.ours ours before) after this (tells.told ours before this stands) (kept.stays ours before this stands)
      made (Err fault) two_done = tt

      unmade : (r : Result Done StoreFault) → OnErr r (IsOurStore g mid → HasCleanDisk (shown g new) → (this : Tables) → (sql_view g).stands mid this → (sql_view g).stands new this)
          → OnErr r (IsOurStore g old → HasCleanDisk (shown g new) → (this : Tables) → (sql_view g).stands old this → (sql_view g).stands new this)
      unmade (Ok done) kept_so = tt
      unmade (Err fault) kept_so = λ ours after this stands.
          let kept = (sql_lawful g).keeps old mid asks.keeps in
          let before = two.goes.clean after in
          kept_so (kept.goes.ours ours before) after this (kept.stays ours before this stands)

  -- a read is refused, or what comes after it before anything is changed
  pub read_only : {Answer Done : Type 0} (old new : SqlState S) (read : Result Answer StoreFault) (fault : StoreFault) → Asks (sql_view g) Device old new read
      → IsAtRest (shown g new) → IsOfCall fault → (fault ≡ Device → IsErrOf read Device) → ((fault ≡ Device → ⊥) → IsErrOf read Device → ⊥) → ChangesTo (sql_view g) {Done = Done} (λ this. Unit {0}) next old new (Err fault)
  read_only old new read fault asks rests of_call device other =
      let kept = (sql_lawful g).keeps old new asks.keeps in
      record {
        goes = kept.goes;
        done = tt;
        refused = kept.stays;
        refusal = of_call;
        cause = λ is. asks.cause (device cc);
        is_open = λ none. asks.is_open (other (λ is. none (ap Err is)));
        crash = λ ours clean this due stands left may. inl (kept.leaves ours clean left may);
        settled = settles g new rests;
      }

-- ---- a change, whatever is told beside

module _ {S : Type 0} (g : Ghosts S) (IsDueIn : Tables → Type 0) (next : Tables → Tables) {Done Told : Type 0} (old new : SqlState S) where
  pub done_with : (done : Done) (told : Told) → ChangesTo (sql_view g) IsDueIn next old new (Ok done) → ChangesTo (sql_view g) IsDueIn next old new (Ok told)
  done_with done told made = record {
    goes = made.goes;
    done = made.done;
    refused = tt;
    refusal = tt;
    cause = λ is. absurd cc;
    is_open = λ none. made.is_open (λ is. absurd cc);
    crash = made.crash;
    settled = made.settled;
  }

  pub refused_with : (fault : StoreFault) → ChangesTo (sql_view g) {Done = Done} IsDueIn next old new (Err fault) → ChangesTo (sql_view g) {Done = Told} IsDueIn next old new (Err fault)
  refused_with fault refused = record {
    goes = refused.goes;
    done = tt;
    refused = refused.refused;
    refusal = refused.refusal;
    cause = λ is. refused.cause (let one : fault ≡ Device = cc in ap Err one);
    is_open = λ none. refused.is_open (λ is. none (let one : fault ≡ Device = cc in ap Err one));
    crash = refused.crash;
    settled = refused.settled;
  }

-- what a read is refused for, a call may be
pub of_call : (fault : StoreFault) → IsOfRead fault → IsOfCall fault
of_call Memory of_read = tt
of_call Device of_read = tt
of_call Size of_read = absurd of_read
of_call Shape of_read = absurd of_read
of_call Version of_read = absurd of_read
