-- What `callers` leaves of a store, and what it tells.
use Rattle.std.proofs.Common.{◌≡◌, ◌≢◌, ◌⊎◌, ◌∙◌, ℕ, Err, IfErr, List, None, Ok, OnErr, OnOk, Option, Result, Some, ap, false, inl, inr, refl, subst, sym}
use Rattle.std.specs.Io.KnownBytes.{Appends}
use Rattle.std.proofs.KnownBytes.{Keeps-refl}
use Rattle.std.proofs.Math.Logic.{∥∥₁_map}
use Rattle.faults.specs.declared.any.AnyFault.{AnyFault}
use Rattle.bureau_store.specs.SetCallers.{with_callers}
use Rattle.bureau_store.specs.Store.{IsOfCall}
use Rattle.bureau_store.specs.Tables.{Tables}
use Rattle.bureau_store.specs.declared.caller.CallerRow.{CallerRow}
use Rattle.bureau_store.specs.declared.fault.StoreFault.{StoreFault}
use Rattle.bureau_store.specs.declared.fault.StoreFault.TheVariants.{Device}
use Rattle.bureau_store.specs.declared.set_callers.CallerCounts.{CallerCounts}
use Rattle.bureau_sql.specs.Files.{HoldTables, HoldTrees, HoldsEarlier, HoldsStore}
use Rattle.bureau_sql.specs.SqlState.{SqlState}
use Rattle.bureau_sql.specs.SqlView.{IsOurStore, shown, sql_view}
use Rattle.bureau_sql.proofs.ChangedFacts.{of_call}
use Rattle.bureau_sql.proofs.FilesFacts.{earlier_found, store_found}
use Rattle.sql_tables.specs.Ours.{AreOurs, IsOurs, held_by}
use Rattle.sql_tables.proofs.StopFacts.{was_clean}
use Rattle.sql_tables.specs.InTrees.{stored_in}
use Rattle.sql_tables.specs.Stored.{tables_of}
use Rattle.sqlite_disk.specs.declared.Disk as disk
use Rattle.sqlite_store.specs.FileStore.{view}
use Rattle.sqlite_store.specs.declared.store.FileStore.{FileStore}
use Rattle.sqlite_trees.specs.Tree.{Trees}
use Rattle.sqlite_trees.specs.View.{IsClean}
use Rattle.sqlite_trees.specs.declared.store.Store.{Ghosts}
use Rattle.sqlite_wal.specs.Recovery.{Image}
use Rattle.sqlite.specs.Files.{HoldsDatabase, file_state, over_files}
use Rattle.sqlite.specs.Held.{Held, state}
use Rattle.sqlite.specs.State.{HasCleanDisk}
use Rattle.transfer.specs.Transfer.{AppendsFront}
use Rattle.run_parts.specs.Files.{KnownFile}
use Rattle.run_parts.specs.Outputs.{IsTold, Outputs, fault_in, run_status}
use Rattle.run_parts.specs.ProgramFault.{of_program}
use Rattle.run_parts.specs.declared.fault.ProgramFault.TheVariants.{NotWritten}
use Rattle.store_runs.specs.Callers.{CallersEnds, IsCallersOutput, IsCallersRun, IsLineLost, IsSetOver, IsUnopened, KeepsCallers, LeavesSet, TellsSet, callers_text, connection_set, files_set, store_set}
use Rattle.store_runs.specs.Asked.{Asked, AsksFor, Connected, refused_with}
use Rattle.store_runs.specs.Desk.{HasOpened, of_store}
use Rattle.store_runs.specs.Ended.{HasEnded, HasFound, IsEndOf, IsRefused, IsUsed}
use Rattle.store_runs.specs.NamedStore.{HasRows, IsCallers}
use Rattle.store_runs.specs.Keeping.{HasNoTables, Leaves, TellsOnly}
use Rattle.store_runs.specs.declared.ended.Ended.{Ended}
use Rattle.store_runs.specs.declared.missing.IfMissing.TheVariants.{Refuse}
use Rattle.store_runs.specs.declared.ended.Ended.TheVariants.{Nothing, Left, Closed}
use Rattle.store_runs.proofs.AskedFacts.{once_connected, once_refused}
use Rattle.store_runs.proofs.DoneFacts.{is_device, never_done, never_short, some_same, told_once}
use Rattle.store_runs.proofs.EndFacts.{left_of}
use Rattle.store_runs.proofs.OpensFacts.{known_of_found, known_of_left}
use Rattle.store_runs.proofs.StayFacts.{earlier_stays, kept_earlier, kept_tables}

-- ---- what is told of one is told of another

pub output_of : (one other : CallersEnds) → ((answer : Result CallerCounts StoreFault) → one.set answer → other.set answer) → ((fault : StoreFault) → one.unopened fault → other.unopened fault)
    → (outcome : Option AnyFault) (old new : Option (List ℕ)) → IsCallersOutput one outcome old new → IsCallersOutput other outcome old new
output_of one other set unopened None old new output = (output.0, set (Ok output.0) output.1, output.2)
output_of one other set unopened (Some fault) old new (inl lost) = inl (lost.0, set (Ok lost.0) lost.1, lost.2)
output_of one other set unopened (Some fault) old new (inr ((refused, is, inl answered), keeps)) = inr ((refused, is, inl (set (Err refused) answered)), keeps)
output_of one other set unopened (Some fault) old new (inr ((refused, is, inr not), keeps)) = inr ((refused, is, inr (unopened refused not)), keeps)

-- the line is printed, or lost
pub line_lost : (printed : Result Unit AnyFault) (counts : CallerCounts) (old new : Option (List ℕ)) → IfErr printed (λ fault. fault ≡ of_program NotWritten)
    → OnErr printed (AppendsFront old new (callers_text counts)) → IfErr printed (λ fault. IsLineLost fault counts old new)
line_lost (Ok done) counts old new fault front = tt
line_lost (Err why) counts old new fault front = inl (fault, front)

pub line_told : (printed : Result Unit AnyFault) (ends : CallersEnds) (counts : CallerCounts) (old new : Option (List ℕ)) → ends.set (Ok counts)
    → OnOk printed (Appends old new (callers_text counts)) → IfErr printed (λ fault. IsLineLost fault counts old new) → IsCallersOutput ends (fault_in printed) old new
line_told (Ok done) ends counts old new set whole lost = (counts, set, whole)
line_told (Err why) ends counts old new set whole lost = inl (counts, set, lost)

-- the store that was opened over a connection
pub over_connection : {S : Type 0} (g : Ghosts S) (rows : List CallerRow) (before after : Held S) (opened closing : SqlState S) → HasOpened g (state g before) opened → after ≡ closing.conn
    → (outcome : Option AnyFault) (old new : Option (List ℕ)) → IsCallersOutput (store_set g rows opened closing) outcome old new
    → IsCallersOutput (connection_set g rows before after) outcome old new
over_connection g rows before after opened closing has is outcome old new output =
    output_of (store_set g rows opened closing) (connection_set g rows before after)
    (λ answer did. record { opened = opened; has_opened = has; closing = closing; did = did; after_is = is }) (λ fault none. absurd none) outcome old new output

-- the files in which a connection was made
pub over_files_so : {D : Type 0} {g : disk.Ghosts D} (rows : List CallerRow) (from : Image) (ended : Ended D g) (found left : Held (FileStore D g)) → HasFound from found → IsEndOf left ended
    → (old new old_errors new_errors : Option (List ℕ)) (status : ℕ) → IsCallersRun (connection_set over_files rows found left) old new old_errors new_errors status
    → IsCallersRun (files_set rows from ended) old new old_errors new_errors status
over_files_so rows from ended found left finds ends old new old_errors new_errors status run = record {
  outcome = run.outcome;
  output = output_of (connection_set over_files rows found left) (files_set rows from ended)
      (λ answer set. record { found = found; finds = finds; left = left; used = set; ends = ends })
      (λ fault not. inr (record { found = found; finds = finds; left = left; used = not; ends = ends })) run.outcome old new run.output;
  told = run.told;
  status_is = run.status_is;
}

-- ---- what a stop leaves

module _ {D : Type 0} {g : disk.Ghosts D} (from : Image) (rows : List CallerRow) (found left : Held (FileStore D g)) (finds : HasFound from found)
    (last : FileStore D g) (ends : HasEnded left last) where
  -- a connection finds the store that the files hold, with its tables
  finds_store : (before : Tables) → HoldsStore from before → HasCleanDisk (file_state found)
      → IsOurs (file_state found).committed × (tables_of (held_by (file_state found).committed) ≡ before)
  finds_store before holds clean =
      let opened = finds.opened clean in
      store_found from (file_state found).committed before (opened.1 opened.0.is_open).1 (finds.found clean).holds holds

  -- a store that was opened, and got the callers
  module _ (answer : Result CallerCounts StoreFault) (over : IsSetOver over_files rows found left answer) (still : IsClean (view last)) where
    closed : HasCleanDisk (shown over_files over.closing)
    closed = subst (λ (conn : Held (FileStore D g)). HasCleanDisk (file_state conn)) over.after_is (ends.clean still)

    opened : HasCleanDisk (shown over_files over.opened)
    opened = over.did.changes.goes.clean closed

    was : HasCleanDisk (file_state found)
    was = was_clean (file_state found) (shown over_files over.opened) (λ trees. ⊥) over.has_opened.reads.survives opened

    held : (image : Image) → Leaves from (Closed last) image → HoldTrees (shown over_files over.closing).may_leave image
    held image may = subst (λ (conn : Held (FileStore D g)). HoldTrees (file_state conn).may_leave image) over.after_is (left_of from left last ends still image may)

    module _ (before : Tables) (holds : HoldsStore from before) where
      there : IsOurs (file_state found).committed × (tables_of (held_by (file_state found).committed) ≡ before)
      there = finds_store before holds was

      ours : IsOurStore over_files over.opened
      ours = over.has_opened.ours opened there.0

      stands : (sql_view over_files).stands over.opened before
      stands standing = over.has_opened.tables opened standing ∙ there.1

      ours_then : IsOurStore over_files over.closing
      ours_then = over.did.changes.goes.ours ours closed

      -- what was there, or that with these callers
      either : (trees : Trees) → (shown over_files over.closing).may_leave trees → (tables_of (stored_in trees) ≡ before) ⊎ (tables_of (stored_in trees) ≡ with_callers rows before)
      either trees may = elim (over.did.changes.crash ours closed before tt stands (tables_of (stored_in trees)) (trees, may, refl)) [
        | inl old ↦
            let same : old.0 ≡ (shown over_files over.opened).committed.trees = over.has_opened.rests old.0 (ours.1 over.has_opened.opened).0 old.1 in
            inl (sym old.2 ∙ ap (λ trees. tables_of (stored_in trees)) same ∙ stands over.has_opened.opened)
        | inr new ↦ inr new.1
      ]

      pub either_left : (image : Image) → Leaves from (Closed last) image → HoldTables image (λ this. (this ≡ before) ⊎ (this ≡ with_callers rows before))
      either_left image may = ∥∥₁_map (held image may) (λ it.
          let this = tables_of (stored_in it.0) in
          let store : HoldsStore image this = record { trees = it.0; held = it.1; ours = ours_then.0 it.0 it.2; tables = refl } in
          let r : (this : Tables) × HoldsStore image this × ((this ≡ before) ⊎ (this ≡ with_callers rows before)) = (this, store, either it.0 it.2) in r)

    -- a store of version 1 is not opened
    pub not_earlier : (before : Tables) → HoldsEarlier from before → ⊥
    not_earlier before holds =
        let live = finds.opened was in
        over.has_opened.other opened (earlier_found from (file_state found).committed before (live.1 live.0.is_open).1 (finds.found was).holds holds).0

  -- done, it has these callers
  pub set_left : (counts : CallerCounts) (over : IsSetOver over_files rows found left (Ok counts)) (still : IsClean (view last)) (before : Tables) → HoldsStore from before
      → (image : Image) → Leaves from (Closed last) image → HoldTables image (λ this. this ≡ with_callers rows before)
  set_left counts over still before holds image may =
      let after = closed (Ok counts) over still in
      let mine = ours (Ok counts) over still before holds in
      let now = ours_then (Ok counts) over still before holds in
      let is_open = over.did.changes.is_open (λ is. absurd cc) in
      let done = over.did.changes.done mine after before tt (stands (Ok counts) over still before holds) in
      ∥∥₁_map (held (Ok counts) over still image may) (λ it.
      let this = tables_of (stored_in it.0) in
      let store : HoldsStore image this = record { trees = it.0; held = it.1; ours = now.0 it.0 it.2; tables = refl } in
      let same : this ≡ with_callers rows before = over.did.changes.settled now after is_open (with_callers rows before) done this (it.0, it.2, refl) in
      let r : (this : Tables) × HoldsStore image this × (this ≡ with_callers rows before) = (this, store, same) in r)

  -- told another fault than one of the device, it has those of before
  pub unset_left : (fault : StoreFault) → fault ≢ Device → (over : IsSetOver over_files rows found left (Err fault)) (still : IsClean (view last)) (before : Tables) → HoldsStore from before
      → (image : Image) → Leaves from (Closed last) image → HoldTables image (λ this. this ≡ before)
  unset_left fault other over still before holds image may =
      let after = closed (Err fault) over still in
      let mine = ours (Err fault) over still before holds in
      let now = ours_then (Err fault) over still before holds in
      let is_open = over.did.changes.is_open (λ is. other (let one : fault ≡ Device = cc in one)) in
      let kept = over.did.changes.refused mine after before (stands (Err fault) over still before holds) in
      ∥∥₁_map (held (Err fault) over still image may) (λ it.
      let this = tables_of (stored_in it.0) in
      let store : HoldsStore image this = record { trees = it.0; held = it.1; ours = now.0 it.0 it.2; tables = refl } in
      let same : this ≡ before = over.did.changes.settled now after is_open before kept this (it.0, it.2, refl) in
      let r : (this : Tables) × HoldsStore image this × (this ≡ before) = (this, store, same) in r)

  -- a store that was not opened was only read
  module _ (refused : StoreFault) (not : IsUnopened over_files found left refused) (still : IsClean (view last)) where
    found_clean : HasCleanDisk (file_state found)
    found_clean = was_clean (file_state found) (file_state left) (λ trees. ⊥) not.1.survives (ends.clean still)

    same_trees : (trees : Trees) → (file_state left).may_leave trees → trees ≡ (file_state found).committed.trees
    same_trees trees may = elim (not.1.survives.crash (ends.clean still) trees may) [
      | inl old ↦ not.0 trees (finds.opened found_clean).0.is_open old
      | inr none ↦ absurd none
    ]

    pub read_left : (before : Tables) → HoldsStore from before → (image : Image) → Leaves from (Closed last) image → HoldTables image (λ this. this ≡ before)
    read_left before holds image may =
        let there = finds_store before holds found_clean in
        ∥∥₁_map (left_of from left last ends still image may) (λ it.
        let same = same_trees it.0 it.2 in
        let store : HoldsStore image before = record {
          trees = it.0;
          held = it.1;
          ours = subst AreOurs (sym same) there.0.rows;
          tables = ap (λ trees. tables_of (stored_in trees)) same ∙ there.1;
        } in
        let r : (this : Tables) × HoldsStore image this × (this ≡ before) = (before, store, refl) in r)

    pub database_left : (trees : Trees) → HoldsDatabase from trees → (image : Image) → Leaves from (Closed last) image → HoldTrees (λ now. (now ≡ trees) ⊎ (HasNoTables trees × ⊥)) image
    database_left trees holds image may = ∥∥₁_map (left_of from left last ends still image may) (λ it.
        let r : (now : Trees) × HoldsDatabase image now × ((now ≡ trees) ⊎ (HasNoTables trees × ⊥)) = (it.0, it.1, inl (same_trees it.0 it.2 ∙ (finds.found found_clean).holds trees holds)) in r)

-- ---- wherever a run ends

-- the tables that were there, where the end of the run doesn't tell that the callers are set
only_there : (rows : List CallerRow) (outcome : Option AnyFault) (before : Tables) (image : Image) → (TellsSet outcome → ⊥) → HoldTables image (λ this. this ≡ before)
    → HoldTables image (LeavesSet rows outcome before)
only_there rows outcome before image other there = ∥∥₁_map there (λ it.
    let r : (this : Tables) × HoldsStore image this × LeavesSet rows outcome before this = (it.0, it.1, inl (other, it.2)) in r)

-- or they may have been set
perhaps : (rows : List CallerRow) (outcome : Option AnyFault) (before : Tables) (image : Image) → (TellsSet outcome → ⊥) → outcome ≡ Some (of_store Device)
    → HoldTables image (λ this. (this ≡ before) ⊎ (this ≡ with_callers rows before)) → HoldTables image (LeavesSet rows outcome before)
perhaps rows outcome before image other device either = ∥∥₁_map either (λ it.
    let which : LeavesSet rows outcome before it.0 = elim it.2 [ inl same ↦ inl (other, same) | inr set ↦ inr (inr device, set) ] in
    let r : (this : Tables) × HoldsStore image this × LeavesSet rows outcome before this = (it.0, it.1, which) in r)

-- they are set
set_now : (rows : List CallerRow) (outcome : Option AnyFault) (before : Tables) (image : Image) → TellsSet outcome → HoldTables image (λ this. this ≡ with_callers rows before)
    → HoldTables image (LeavesSet rows outcome before)
set_now rows outcome before image tells set = ∥∥₁_map set (λ it.
    let r : (this : Tables) × HoldsStore image this × LeavesSet rows outcome before this = (it.0, it.1, inr (inl tells, it.2)) in r)

-- where the store refused, the end doesn't tell so
never_set : (outcome : Option AnyFault) (refused : StoreFault) → outcome ≡ Some (of_store refused) → TellsSet outcome → ⊥
never_set outcome refused is (inl done) = never_done refused outcome is done
never_set outcome refused is (inr short) = never_short refused (some_same _ _ (sym short ∙ is))

-- where the line is lost, it does
lost_tells : (fault : AnyFault) (counts : CallerCounts) (old new : Option (List ℕ)) → IsLineLost fault counts old new → TellsSet (Some fault)
lost_tells fault counts old new (inl cut) = inl (inr (ap Some cut.0))
lost_tells fault counts old new (inr short) = inr (ap Some short.0)

-- a fault of the store that is told is the one for which it was refused
same_told : (outcome : Option AnyFault) (fault told : StoreFault) → outcome ≡ Some (of_store fault) → outcome ≡ Some (of_store told) → fault ≡ told
same_told outcome fault told is also = told_once fault told (some_same _ _ (sym is ∙ also))

module _ {D : Type 0} {g : disk.Ghosts D} (from : Image) (rows : List CallerRow) where
  -- where no connection could be made
  unconnected : (ended : Ended D g) (outcome : Option AnyFault) (fault : StoreFault) → outcome ≡ Some (of_store fault) → IsRefused false from fault ended → KeepsCallers from rows outcome ended
  unconnected ended outcome fault is refused = record {
    store = λ before holds well left may. only_there rows outcome before left (never_set outcome fault is) (kept_tables from ended refused.left before holds well left may);
    faults = known ended refused;
    earlier = kept_earlier from ended refused.left;
  }
    where
      known : (ended : Ended D g) → IsRefused false from fault ended → TellsOnly IsOfCall (λ told. outcome ≡ Some (of_store told)) from ended
      known Nothing refused well some before holds told also = absurd (some tt)
      known (Left it) refused well _ before holds told also =
          subst IsOfCall (same_told outcome fault told is also) (of_call fault (known_of_left from it fault refused well))
      known (Closed last) refused well _ before holds told also = absurd refused.left

  -- where a store was opened, and has the callers
  set_so : (last : FileStore D g) (outcome : Option AnyFault) (counts : CallerCounts) → TellsSet outcome
      → IsUsed from (λ found left. IsSetOver over_files rows found left (Ok counts)) (Closed last) → KeepsCallers from rows outcome (Closed last)
  set_so last outcome counts tells used = record {
    store = λ before holds still image may. set_now rows outcome before image tells
        (set_left from rows used.found used.left used.finds last used.ends counts used.used still before holds image may);
    faults = λ well _ before holds told also. absurd (never_set outcome told also tells);
    earlier = λ before holds still. absurd (not_earlier from rows used.found used.left used.finds last used.ends (Ok counts) used.used still before holds);
  }

  -- where it refused them
  refused_so : (last : FileStore D g) (outcome : Option AnyFault) (fault : StoreFault) → outcome ≡ Some (of_store fault)
      → IsUsed from (λ found left. IsSetOver over_files rows found left (Err fault)) (Closed last) → KeepsCallers from rows outcome (Closed last)
  refused_so last outcome fault is used = record {
    store = λ before holds still image may. elim (is_device fault) [
      | inl device ↦ perhaps rows outcome before image (never_set outcome fault is) (is ∙ ap (λ (it : StoreFault). Some (of_store it)) device)
          (either_left from rows used.found used.left used.finds last used.ends (Err fault) used.used still before holds image may)
      | inr other ↦ only_there rows outcome before image (never_set outcome fault is)
          (unset_left from rows used.found used.left used.finds last used.ends fault other used.used still before holds image may)
    ];
    faults = λ well _ before holds told also. subst IsOfCall (same_told outcome fault told is also) used.used.did.changes.refusal;
    earlier = λ before holds still. absurd (not_earlier from rows used.found used.left used.finds last used.ends (Err fault) used.used still before holds);
  }

  -- where none was opened
  unopened_so : (last : FileStore D g) (outcome : Option AnyFault) (fault : StoreFault) → outcome ≡ Some (of_store fault)
      → IsUsed from (λ found left. IsUnopened over_files found left fault) (Closed last) → KeepsCallers from rows outcome (Closed last)
  unopened_so last outcome fault is used = record {
    store = λ before holds still image may. only_there rows outcome before image (never_set outcome fault is)
        (read_left from rows used.found used.left used.finds last used.ends fault used.used still before holds image may);
    faults = λ still _ before holds told also. subst IsOfCall (same_told outcome fault told is also)
        (of_call fault (known_of_found from used.found used.left used.finds used.used.1 last used.ends still before holds fault used.used.2));
    earlier = earlier_stays from (Closed last) (λ now. ⊥) (λ trees holds still.
        database_left from rows used.found used.left used.finds last used.ends fault used.used still trees holds);
  }

  pub kept_callers : (ended : Ended D g) (outcome : Option AnyFault) (old new : Option (List ℕ)) → IsCallersOutput (files_set rows from ended) outcome old new
      → KeepsCallers from rows outcome ended
  kept_callers Nothing None old new output = absurd output.1.ends
  kept_callers Nothing (Some fault) old new (inl lost) = absurd lost.1.ends
  kept_callers Nothing (Some fault) old new (inr ((refused, is, inl used), keeps)) = absurd used.ends
  kept_callers Nothing (Some fault) old new (inr ((refused, is, inr (inl not)), keeps)) = unconnected Nothing (Some fault) refused (ap Some is) not
  kept_callers Nothing (Some fault) old new (inr ((refused, is, inr (inr used)), keeps)) = absurd used.ends
  kept_callers (Left it) None old new output = absurd output.1.ends
  kept_callers (Left it) (Some fault) old new (inl lost) = absurd lost.1.ends
  kept_callers (Left it) (Some fault) old new (inr ((refused, is, inl used), keeps)) = absurd used.ends
  kept_callers (Left it) (Some fault) old new (inr ((refused, is, inr (inl not)), keeps)) = unconnected (Left it) (Some fault) refused (ap Some is) not
  kept_callers (Left it) (Some fault) old new (inr ((refused, is, inr (inr used)), keeps)) = absurd used.ends
  kept_callers (Closed last) None old new output = set_so last None output.0 (inl (inl refl)) output.1
  kept_callers (Closed last) (Some fault) old new (inl lost) = set_so last (Some fault) lost.0 (lost_tells fault lost.0 old new lost.2) lost.1
  kept_callers (Closed last) (Some fault) old new (inr ((refused, is, inl used), keeps)) = refused_so last (Some fault) refused (ap Some is) used
  kept_callers (Closed last) (Some fault) old new (inr ((refused, is, inr (inl not)), keeps)) = absurd not.left
  kept_callers (Closed last) (Some fault) old new (inr ((refused, is, inr (inr used)), keeps)) = unopened_so last (Some fault) refused (ap Some is) used

-- ---- by the names of the files

module _ {D : Type 0} {g : disk.Ghosts D} (files : List ℕ → KnownFile) (asked asked_after : Asked) (from : Image) (ended : Ended D g) (name callers : List ℕ)
    (rows : List CallerRow) (rows_are : HasRows (files callers) rows) (outputs : Outputs) (status : ℕ) where
  -- a connection was made, and ended
  pub set_over_files : (found left : Held (FileStore D g)) → HasFound from found → IsEndOf left ended → AsksFor asked asked_after name Refuse from Connected
      → IsCallersRun (connection_set over_files rows found left) outputs.output outputs.written outputs.errors outputs.told status
      → IsCallers files asked asked_after from name callers outputs status ended
  set_over_files found left finds ends asks over =
      let run = over_files_so rows from ended found left finds ends outputs.output outputs.written outputs.errors outputs.told status over in inl (record {
        rows = rows;
        rows_are = rows_are;
        set = run;
        kept = kept_callers from rows ended run.outcome outputs.output outputs.written run.output;
        asks = once_connected asked asked_after name Refuse from (λ fault. run.outcome ≡ Some (of_store fault)) ended left ends asks;
      })

  -- no connection could be made
  pub not_set_over : (fault : StoreFault) (any : AnyFault) → IsRefused false from fault ended → any ≡ of_store fault → outputs.written ≡ outputs.output
      → IsTold (Some any) outputs.errors outputs.told → status ≡ run_status (Some any) → AsksFor asked asked_after name Refuse from (refused_with fault ended)
      → IsCallers files asked asked_after from name callers outputs status ended
  not_set_over fault any refused is silent told status_is asks =
      let set : IsCallersOutput (files_set rows from ended) (Some any) outputs.output outputs.written =
      subst (λ written. IsCallersOutput (files_set rows from ended) (Some any) outputs.output written) (sym silent) (inr ((fault, is, inr (inl refused)), Keeps-refl outputs.output)) in
      inl (record {
        rows = rows;
        rows_are = rows_are;
        set = record { outcome = Some any; output = set; told = told; status_is = status_is };
        kept = kept_callers from rows ended (Some any) outputs.output outputs.written set;
        asks = once_refused asked asked_after name Refuse from (λ (other : StoreFault). Some any ≡ Some (of_store other)) ended fault refused.left (ap Some is) asks;
      })

pub same_callers_run : {D : Type 0} {g : disk.Ghosts D} (files : List ℕ → KnownFile) (asked asked_after : Asked) (from : Image) (ended : Ended D g)
    → (name name_slice callers callers_slice : List ℕ) (outputs : Outputs) (status : ℕ) → name_slice ≡ name → callers_slice ≡ callers
    → IsCallers files asked asked_after from name_slice callers_slice outputs status ended → IsCallers files asked asked_after from name callers outputs status ended
same_callers_run files asked asked_after from ended name name_slice callers callers_slice outputs status same same_callers run =
    subst (λ (it : List ℕ). IsCallers files asked asked_after from it callers outputs status ended) same
    (subst (λ (it : List ℕ). IsCallers files asked asked_after from name_slice it outputs status ended) same_callers run)
