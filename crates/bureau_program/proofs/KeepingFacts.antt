-- From what a connection finds in the files of a store to what a stop leaves of them.
use Rattle.std.proofs.Common.{◌≡◌, ◌⊎◌, ◌∙◌, ◌++◌, ◌∷◌, ℕ, List, Option, None, Some, [], ap, append_assoc, inl, inr, refl, subst, sym}
use Rattle.std.proofs.Math.Logic.{∥∥₁_map}
use Rattle.bureau_store.specs.Store.{IsOfRead}
use Rattle.bureau_store.specs.Tables.{AreInOrder, Tables}
use Rattle.bureau_store.specs.declared.fault.StoreFault.{StoreFault}
use Rattle.bureau_store.specs.declared.fault.StoreFault.TheVariants.{Device}
use Rattle.bureau.specs.Answering.{bureau_view}
use Rattle.bureau.specs.Joint.{CallBy}
use Rattle.bureau.specs.Kept.{IsWithOneRefused, MayBeLeft, Rests}
use Rattle.bureau.specs.Runs.{IsLawfulRun}
use Rattle.bureau_http.specs.Exchange.{calls_of}
use Rattle.connections.specs.Items.{AreFree, Event, Slots, exchanges_of}
use Rattle.connections.specs.Rounds.{AreLogged, AreRounds, AreServedInRounds, Entry, Log, Logs, last_showing, round_of, told_in}
use Rattle.connections.specs.Service.{IsSound}
use Rattle.connections.specs.declared.rounds.RoundFault.{RoundFault}
use Rattle.connections.proofs.CallFacts.{asked_in, free_slots, nothing_answered, nothing_called}
use Rattle.bureau_sql.specs.Files.{HoldTables, HoldTrees, HoldsEarlier, HoldsStore}
use Rattle.bureau_sql.specs.SqlState.{SqlState}
use Rattle.bureau_sql.specs.SqlView.{IsOurStore, shown, sql_view}
use Rattle.bureau_sql.proofs.FilesFacts.{earlier_found, store_found}
use Rattle.catalogue.specs.View.{Goes}
use Rattle.chain_cache.specs.Cache.{CacheLists, IsRightFor}
use Rattle.faults.specs.declared.any.AnyFault.{AnyFault}
use Rattle.sql_tables.specs.Ours.{IsOurs, held_by}
use Rattle.sql_tables.proofs.StopFacts.{was_clean}
use Rattle.sql_tables.specs.InTrees.{stored_in}
use Rattle.sql_tables.specs.Stored.{tables_of}
use Rattle.sql_tables.proofs.ChangeFacts.{tables_in_order}
use Rattle.sqlite_disk.specs.declared.Disk as disk
use Rattle.sqlite_store.specs.FileStore.{view}
use Rattle.sqlite_store.specs.declared.store.FileStore.{FileStore}
use Rattle.sqlite_trees.specs.View.{IsClean}
use Rattle.sqlite_wal.specs.Recovery.{Image}
use Rattle.sqlite.specs.Files.{file_state, over_files}
use Rattle.sqlite.specs.Held.{Held}
use Rattle.sqlite.specs.State.{HasCleanDisk}
use Rattle.store_runs.specs.Desk.{HasOpened, of_store}
use Rattle.store_runs.specs.Ended.{HasEnded, HasFound, IsEndOf, IsLeftOver}
use Rattle.store_runs.specs.Keeping.{EndsWell, KeepsEarlier, Leaves, TellsOnly}
use Rattle.bureau_program.specs.Served.{HasFailed, IsServedFrom, KeepsServed, MayFollow}
use Rattle.bureau_program.specs.Replay.{IsAlwaysRight}
use Rattle.bureau_program.specs.Serving.{IsServeOutput, IsServedOver, Session, desk_ends, desk_over, file_ends, free_in, store_ends}
use Rattle.store_runs.specs.declared.ended.Ended.{Ended}
use Rattle.store_runs.specs.declared.ended.Ended.TheVariants.{Nothing, Left, Closed}
use Rattle.bureau_program.proofs.OpensFacts.{serve_faults}
use Rattle.store_runs.proofs.CallersFacts.{database_left, read_left}
use Rattle.store_runs.proofs.EndFacts.{left_of}
use Rattle.store_runs.proofs.StayFacts.{earlier_stays, kept_earlier, kept_tables}

pub in_order : (from : Image) (before : Tables) → HoldsStore from before → AreInOrder before
in_order from before holds = subst AreInOrder holds.tables (tables_in_order (stored_in holds.trees))

nothing_before : {V : Type 0} (earlier later : List V) (v : V) → [] ≡ earlier ++ v ∷ later → ⊥
nothing_before [] later v split = cc
nothing_before (x ∷ earlier) later v split = cc

-- no connection was served, and a stop leaves the tables as they were
nothing_served : (before : Tables) (log log_after : Log) (outcome : Option AnyFault) (MayStay : Image → Type 0) → log_after ≡ log
    → ((left : Image) → MayStay left → HoldTables left (λ this. this ≡ before)) → IsServedFrom before log log_after outcome MayStay
nothing_served before log log_after outcome MayStay same left = record {
  calls = [];
  closing = before;
  made = nothing_called before.callers log log_after (HasFailed outcome) same;
  run = refl;
  alone = λ viewer earlier call later split. absurd (nothing_before earlier later call split);
  left = λ image may. ∥∥₁_map (left image may) (λ it.
      let r : (this : Tables) × HoldsStore image this × MayFollow outcome before [] this = (it.0, it.1, inl it.2) in r);
}

none_refused : (closing this : Tables) (calls : List CallBy) → calls ≡ [] → IsWithOneRefused closing calls this → ⊥
none_refused closing this [] none refused = refused
none_refused closing this (call ∷ calls) none refused = cc

-- what a stop may leave of a desk, by how serving it ended
module _ {D : Type 0} {g : disk.Ghosts D} (closing : SqlState (FileStore D g)) (cache : CacheLists) where
  -- what a stop may leave of it after these calls is what may follow, where nothing was called unless something was told
  abbrev pub Follows : Option AnyFault → List Event → Type 0
  Follows outcome events = (calls : List CallBy) (next this : Tables) → (events ≡ [] → calls ≡ [])
      → MayBeLeft (bureau_view (sql_view over_files) IsRightFor) (desk_over closing cache) calls next this → MayFollow outcome next calls this

  pub follows_sound : (outcome : Option AnyFault) (events : List Event) → IsSound (bureau_view (sql_view over_files) IsRightFor) (desk_over closing cache) events
      → Follows outcome events
  follows_sound outcome events sound calls next this none (inl same) = inl same
  follows_sound outcome events (inr is_open) calls next this none (inr refused) = absurd (refused.0 is_open)
  follows_sound outcome events (inl nothing) calls next this none (inr refused) =
      absurd (none_refused next this calls (none nothing) refused.1)

  pub follows_failed : (fault : AnyFault) (events : List Event) → fault ≡ of_store Device → Follows (Some fault) events
  follows_failed fault events is calls next this none (inl same) = inl same
  follows_failed fault events is calls next this none (inr refused) = inr (ap Some is, refused.1)

module _ {D : Type 0} {g : disk.Ghosts D} (from : Image) (before : Tables) (holds : HoldsStore from before) where
  -- a connection finds the store that the files hold, with its tables
  pub finds_store : (found : Held (FileStore D g)) → HasFound from found → HasCleanDisk (file_state found)
      → IsOurs (file_state found).committed × (tables_of (held_by (file_state found).committed) ≡ before)
  finds_store found finds clean =
      let opened = finds.opened clean in
      store_found from (file_state found).committed before (opened.1 opened.0.is_open).1 (finds.found clean).holds holds

  module _ (found : Held (FileStore D g)) (finds : HasFound from found) (opened : SqlState (FileStore D g)) (has : HasOpened over_files (file_state found) opened)
      (clean : HasCleanDisk (shown over_files opened)) where
    there : IsOurs (file_state found).committed × (tables_of (held_by (file_state found).committed) ≡ before)
    there = finds_store found finds (was_clean (file_state found) (shown over_files opened) (λ trees. ⊥) has.reads.survives clean)

    pub ours : IsOurStore over_files opened
    ours = has.ours clean there.0

    pub stands : (sql_view over_files).stands opened before
    stands standing = has.tables clean standing ∙ there.1

    pub rests : Rests (sql_view over_files) opened before
    rests standing left may =
        sym may.2 ∙ ap (λ trees. tables_of (stored_in trees)) (has.rests may.0 (ours.1 standing).0 may.1) ∙ stands standing

    module _ (cache cache_after : CacheLists) (right : IsAlwaysRight cache) (closing : SqlState (FileStore D g)) (closed : HasCleanDisk (shown over_files closing))
        (log log_after : Log) (rounds : List Entry) (slots after : Slots) (free : AreFree slots)
        (served : AreRounds (bureau_view (sql_view over_files) IsRightFor) (desk_over opened cache) (desk_over closing cache_after) rounds slots after)
        (keeps_ours : IsOurStore over_files closing) (outcome : Option AnyFault) (logged : AreLogged log log_after (HasFailed outcome) rounds)
        (follows : Follows closing cache_after outcome (told_in rounds)) where
      abbrev Runs : Tables → List CallBy → Tables → Type 0
      Runs = IsLawfulRun (bureau_view (sql_view over_files) IsRightFor) (desk_over opened cache) (desk_over closing cache_after)

      heard : AreServedInRounds Runs before rounds slots after
      heard = served.told ours closed before (stands, right before.content)

      abbrev called : List CallBy
      called = calls_of (exchanges_of heard.side.items)

      -- each image that is left holds the tables that may follow
      left_by : (last : FileStore D g) → (left : Image) → HoldTrees (shown over_files closing).may_leave left → HoldTables left (MayFollow outcome heard.side.ran.closing called)
      left_by last left held = ∥∥₁_map held (λ it.
          let this = tables_of (stored_in it.0) in
          let store : HoldsStore left this = record { trees = it.0; held = it.1; ours = keeps_ours.0 it.0 it.2; tables = refl } in
          let may = follows called heard.side.ran.closing this (nothing_answered Runs before rounds slots after free heard) (heard.side.ran.run.stops has.opened rests this (it.0, it.2, refl)) in
          let r : (this : Tables) × HoldsStore left this × MayFollow outcome heard.side.ran.closing called this = (this, store, may) in r)

      -- so it was served from those tables
      pub served_from : (conn : Held (FileStore D g)) → conn ≡ closing.conn → (last : FileStore D g) → HasEnded conn last → IsClean (view last)
          → IsServedFrom before log log_after outcome (Leaves from (Closed last))
      served_from conn is last ends still = record {
        calls = called;
        closing = heard.side.ran.closing;
        made = record { rounds = rounds; logged = logged; asked = asked_in Runs before rounds slots after free heard };
        run = heard.side.ran.run.run;
        alone = λ viewer. heard.side.ran.run.alone (in_order from before holds) viewer;
        left = λ left may. left_by last left (subst (λ (conn : Held (FileStore D g)). HoldTrees (file_state conn).may_leave left) is (left_of from conn last ends still left may));
      }

    -- where nothing was served, a stop leaves the tables
    pub unserved_from : (conn : Held (FileStore D g)) → conn ≡ opened.conn → (last : FileStore D g) → HasEnded conn last → IsClean (view last)
        → (left : Image) → Leaves from (Closed last) left → HoldTables left (λ this. this ≡ before)
    unserved_from conn is last ends still left may =
        ∥∥₁_map (subst (λ (conn : Held (FileStore D g)). HoldTrees (file_state conn).may_leave left) is (left_of from conn last ends still left may)) (λ it.
        let this = tables_of (stored_in it.0) in
        let store : HoldsStore left this = record { trees = it.0; held = it.1; ours = ours.0 it.0 it.2; tables = refl } in
        let r : (this : Tables) × HoldsStore left this × (this ≡ before) = (this, store, rests has.opened this (it.0, it.2, refl)) in r)

-- ---- wherever a run ends

-- a connection was made, and ended
module _ {D : Type 0} {g : disk.Ghosts D} (session : Session) (from : Image) (found left : Held (FileStore D g)) (finds : HasFound from found)
    (last : FileStore D g) (ends : HasEnded left last) (still : IsClean (view last)) (before : Tables) (holds : HoldsStore from before) where
  kept_over : Option AnyFault → (Does : SqlState (FileStore D g) → SqlState (FileStore D g) → Type 0) → Type 0
  kept_over outcome Does = IsServedOver over_files Does found left → IsServedFrom before session.log session.log_after outcome (Leaves from (Closed last))

  closed_clean : (closing : SqlState (FileStore D g)) → left ≡ closing.conn → HasCleanDisk (shown over_files closing)
  closed_clean closing is = subst (λ (conn : Held (FileStore D g)). HasCleanDisk (file_state conn)) is (ends.clean still)

  -- a desk served these rounds, from free slots on
  kept_rounds : (outcome : Option AnyFault) (cache : CacheLists) → IsAlwaysRight cache → (opened closing : SqlState (FileStore D g)) → HasOpened over_files (file_state found) opened
      → left ≡ closing.conn → (cache_after : CacheLists) (after : Slots) → Goes (bureau_view (sql_view over_files) IsRightFor) (desk_over opened cache) (desk_over closing cache_after)
      → (rounds : List Entry) → AreRounds (bureau_view (sql_view over_files) IsRightFor) (desk_over opened cache) (desk_over closing cache_after) rounds (free_in session) after
      → AreLogged session.log session.log_after (HasFailed outcome) rounds → Follows closing cache_after outcome (told_in rounds)
      → IsServedFrom before session.log session.log_after outcome (Leaves from (Closed last))
  kept_rounds outcome cache right opened closing has is cache_after after goes rounds served logged follows =
      let closed = closed_clean closing is in
      let clean = goes.clean closed in
      served_from from before holds found finds opened has clean cache cache_after right closing closed session.log session.log_after
      rounds (free_in session) after (free_slots session.most_open) served (goes.ours (ours from before holds found finds opened has clean) closed) outcome logged follows left is last ends still

  kept_all : kept_over None (λ old new. (desk_ends over_files session old new).served)
  unfolding kept_over
  kept_all over =
      let by = over.did.1 in
      let does = by.did in
      let did = does.did in
      kept_rounds None by.cache by.is_new.right over.opened over.closing over.has_opened over.after_is does.cache_after does.after does.goes did.rounds did.served (inl did.logged)
      (follows_sound over.closing does.cache_after None (told_in did.rounds) did.sound)

  kept_some : (fault : AnyFault) (why : RoundFault) → kept_over (Some fault) (λ old new. (desk_ends over_files session old new).halted why)
  unfolding kept_over
  kept_some fault why over =
      let by = over.did.1 in
      let does = by.did in
      let did = does.did in
      kept_rounds (Some fault) by.cache by.is_new.right over.opened over.closing over.has_opened over.after_is does.cache_after does.after does.goes did.rounds did.served (inl did.logged)
      (follows_sound over.closing does.cache_after (Some fault) (told_in did.rounds) did.sound)

  kept_until : (fault : AnyFault) → fault ≡ of_store Device → kept_over (Some fault) (λ old new. (desk_ends over_files session old new).failed)
  unfolding kept_over
  kept_until fault device over =
      let by = over.did.1 in
      let does = by.did in
      let did = does.did in
      let told = did.first ++ did.last ∷ [] in
      let rounds = did.earlier ++ round_of did.shown did.left told ∷ last_showing does.after ∷ [] in
      let logged = subst (λ (told : List Event). Logs session.log session.log_after (did.earlier ++ round_of did.shown did.left told ∷ last_showing does.after ∷ []))
      (sym (append_assoc did.first (did.last ∷ []) did.rest)) did.logged in
      kept_rounds (Some fault) by.cache by.is_new.right over.opened over.closing over.has_opened over.after_is does.cache_after does.after does.goes rounds did.whole
      (inr (ap Some device, (did.earlier, did.shown, did.left, told, did.rest, does.after, refl, logged)))
      (follows_failed over.closing does.cache_after fault (told_in rounds) device)

  kept_unserved : (fault : AnyFault) → kept_over (Some fault) (λ old new. (desk_ends over_files session old new).unserved)
  unfolding kept_over
  kept_unserved fault over =
      let is = over.after_is ∙ ap (λ (store : SqlState (FileStore D g)). store.conn) over.did.0 in
      nothing_served before session.log session.log_after (Some fault) (Leaves from (Closed last)) over.did.1
      (unserved_from from before holds found finds over.opened over.has_opened (closed_clean over.opened is) left is last ends still)

  kept_refused : (fault : AnyFault) (refused : StoreFault) → (store_ends over_files session found left).refused refused
      → IsServedFrom before session.log session.log_after (Some fault) (Leaves from (Closed last))
  kept_refused fault refused did =
      nothing_served before session.log session.log_after (Some fault) (Leaves from (Closed last)) did.3
      (read_left from [] found left finds last ends refused (did.0, did.1, did.2) still before holds)

-- a store of version 1 is not opened, so it is only read
module _ {D : Type 0} {g : disk.Ghosts D} (session : Session) (from : Image) (found left : Held (FileStore D g)) (finds : HasFound from found)
    (last : FileStore D g) (ends : HasEnded left last) where
  not_earlier : (before : Tables) → HoldsEarlier from before → (opened : SqlState (FileStore D g)) → HasOpened over_files (file_state found) opened → HasCleanDisk (shown over_files opened) → ⊥
  not_earlier before holds opened has clean =
      let was = was_clean (file_state found) (shown over_files opened) (λ trees. ⊥) has.reads.survives clean in
      let live = finds.opened was in
      has.other clean (earlier_found from (file_state found).committed before (live.1 live.0.is_open).1 (finds.found was).holds holds).0

  closing_clean : IsClean (view last) → (closing : SqlState (FileStore D g)) → left ≡ closing.conn → HasCleanDisk (shown over_files closing)
  closing_clean still closing is = subst (λ (conn : Held (FileStore D g)). HasCleanDisk (file_state conn)) is (ends.clean still)

  earlier_never : (before : Tables) → HoldsEarlier from before → IsClean (view last)
      → (store_ends over_files session found left).served ⊎ (((why : RoundFault) × (store_ends over_files session found left).halted why)
      ⊎ ((store_ends over_files session found left).failed ⊎ (store_ends over_files session found left).unserved)) → ⊥
  earlier_never before holds still (inl over) =
      not_earlier before holds over.opened over.has_opened (over.did.1.did.goes.clean (closing_clean still over.closing over.after_is))
  earlier_never before holds still (inr (inl (why, over))) =
      not_earlier before holds over.opened over.has_opened (over.did.1.did.goes.clean (closing_clean still over.closing over.after_is))
  earlier_never before holds still (inr (inr (inl over))) =
      not_earlier before holds over.opened over.has_opened (over.did.1.did.goes.clean (closing_clean still over.closing over.after_is))
  earlier_never before holds still (inr (inr (inr over))) =
      let is = over.after_is ∙ ap (λ (store : SqlState (FileStore D g)). store.conn) over.did.0 in
      not_earlier before holds over.opened over.has_opened (closing_clean still over.opened is)

  earlier_read : (refused : StoreFault) → (store_ends over_files session found left).refused refused → KeepsEarlier from (Closed last)
  earlier_read refused did = earlier_stays from (Closed last) (λ now. ⊥) (λ trees holds still. database_left from [] found left finds last ends refused (did.0, did.1, did.2) still trees holds)

module _ {D : Type 0} {g : disk.Ghosts D} (session : Session) (from : Image) where
  closed_so : (last : FileStore D g) (outcome : Option AnyFault) (port : ℕ) (old new : Option (List ℕ)) → IsServeOutput (file_ends session from (Closed last)) outcome port old new
      → EndsWell from (Closed last) → (before : Tables) → HoldsStore from before → IsServedFrom before session.log session.log_after outcome (Leaves from (Closed last))
  unfolding kept_over
  closed_so last None port old new output well before holds =
      let used = output.0 in kept_all session from used.found used.left used.finds last used.ends well before holds used.used
  closed_so last (Some fault) port old new (inl device) well before holds =
      let used = device.1 in kept_until session from used.found used.left used.finds last used.ends well before holds fault device.0 used.used
  closed_so last (Some fault) port old new (inr (inl halted)) well before holds =
      let used = halted.0.2 in kept_some session from used.found used.left used.finds last used.ends well before holds fault halted.0.0 used.used
  closed_so last (Some fault) port old new (inr (inr (inl unheard))) well before holds =
      let used = unheard.0 in kept_unserved session from used.found used.left used.finds last used.ends well before holds fault used.used
  closed_so last (Some fault) port old new (inr (inr (inr ((refused, is, inl not), keeps)))) well before holds = absurd not.0.left
  closed_so last (Some fault) port old new (inr (inr (inr ((refused, is, inr used), keeps)))) well before holds =
      kept_refused session from used.found used.left used.finds last used.ends well before holds fault refused used.used

  closed_earlier : (last : FileStore D g) (outcome : Option AnyFault) (port : ℕ) (old new : Option (List ℕ)) → IsServeOutput (file_ends session from (Closed last)) outcome port old new
      → KeepsEarlier from (Closed last)
  closed_earlier last None port old new output before holds well =
      let used = output.0 in absurd (earlier_never session from used.found used.left used.finds last used.ends before holds well (inl used.used))
  closed_earlier last (Some fault) port old new (inl device) before holds well =
      let used = device.1 in absurd (earlier_never session from used.found used.left used.finds last used.ends before holds well (inr (inr (inl used.used))))
  closed_earlier last (Some fault) port old new (inr (inl halted)) before holds well =
      let used = halted.0.2 in absurd (earlier_never session from used.found used.left used.finds last used.ends before holds well (inr (inl (halted.0.0, used.used))))
  closed_earlier last (Some fault) port old new (inr (inr (inl unheard))) before holds well =
      let used = unheard.0 in absurd (earlier_never session from used.found used.left used.finds last used.ends before holds well (inr (inr (inr used.used))))
  closed_earlier last (Some fault) port old new (inr (inr (inr ((refused, is, inl not), keeps)))) before holds well = absurd not.0.left
  closed_earlier last (Some fault) port old new (inr (inr (inr ((refused, is, inr used), keeps)))) before holds well =
      earlier_read session from used.found used.left used.finds last used.ends refused used.used before holds well

  -- where no connection could be made
  NotMade : Ended D g → Type 0
  NotMade ended = (IsLeftOver from ended) × (session.log_after ≡ session.log)

  not_made : (ended : Ended D g) → ((conn : Held (FileStore D g)) → IsEndOf conn ended → ⊥) → (outcome : Option AnyFault) (port : ℕ) (old new : Option (List ℕ))
      → IsServeOutput (file_ends session from ended) outcome port old new → NotMade ended
  unfolding NotMade
  not_made ended never None port old new output = absurd (never output.0.left output.0.ends)
  not_made ended never (Some fault) port old new (inl device) = absurd (never device.1.left device.1.ends)
  not_made ended never (Some fault) port old new (inr (inl halted)) = absurd (never halted.0.2.left halted.0.2.ends)
  not_made ended never (Some fault) port old new (inr (inr (inl unheard))) = absurd (never unheard.0.left unheard.0.ends)
  not_made ended never (Some fault) port old new (inr (inr (inr ((refused, is, inl not), keeps)))) = (not.0.left, not.1)
  not_made ended never (Some fault) port old new (inr (inr (inr ((refused, is, inr used), keeps)))) = absurd (never used.left used.ends)

  unopened_so : (ended : Ended D g) (outcome : Option AnyFault) → NotMade ended → TellsOnly IsOfRead (λ fault. outcome ≡ Some (of_store fault)) from ended
      → KeepsServed from session.log session.log_after outcome ended
  unfolding NotMade
  unopened_so ended outcome not faults = record {
    served = λ well before holds.
        nothing_served before session.log session.log_after outcome (Leaves from ended) not.1 (kept_tables from ended not.0 before holds well);
    faults = faults;
    earlier = kept_earlier from ended not.0;
  }

  -- A run of `serve`, however it ended.
  pub kept_served : (ended : Ended D g) (outcome : Option AnyFault) (port : ℕ) (old new : Option (List ℕ)) → IsServeOutput (file_ends session from ended) outcome port old new
      → KeepsServed from session.log session.log_after outcome ended
  kept_served Nothing outcome port old new output =
      unopened_so Nothing outcome (not_made Nothing (λ conn none. none) outcome port old new output) (serve_faults session from Nothing outcome port old new output)
  kept_served (Left it) outcome port old new output =
      unopened_so (Left it) outcome (not_made (Left it) (λ conn none. none) outcome port old new output) (serve_faults session from (Left it) outcome port old new output)
  kept_served (Closed last) outcome port old new output = record {
    served = closed_so last outcome port old new output;
    faults = serve_faults session from (Closed last) outcome port old new output;
    earlier = closed_earlier last outcome port old new output;
  }
