-- How a run of `serve` ends, and what is told then.
use Rattle.std.proofs.Common.{◌≡◌, ◌≤◌, ◌∙◌, ℕ, List, Option, None, Some, IfErr, OnOk, Result, Ok, Err, ap, false, inl, inr, refl, subst, sym}
use Rattle.std.specs.Io.KnownBytes.{Appends}
use Rattle.std.proofs.KnownBytes.{Keeps-refl}
use Rattle.faults.specs.declared.any.AnyFault.{AnyFault}
use Rattle.transfer.specs.Transfer.{AppendsFront}
use Rattle.bureau_store.specs.declared.fault.StoreFault.{StoreFault}
use Rattle.bureau_sql.specs.SqlState.{SqlState}
use Rattle.bureau_sql.specs.SqlView.{IsAtRest, sql_view}
use Rattle.bureau.specs.Answering.{bureau_view}
use Rattle.bureau.specs.Parts.{Parts}
use Rattle.connections.specs.Items.{Slots}
use Rattle.connections.specs.Rounds.{AreAllServed, AreServedSoFar, EndsInFailure, IsHaltedBy, Log}
use Rattle.connections.specs.declared.rounds.Halt.{Halt}
use Rattle.connections.specs.declared.rounds.Halt.TheVariants as halt
use Rattle.connections.specs.declared.rounds.RoundFault.{RoundFault}
use Rattle.bureau_store.specs.Tables.{Tables}
use Rattle.catalogue.specs.View.{Goes, View}
use Rattle.chain_cache.specs.Cache.{CacheLists, IsRightFor}
use Rattle.sqlite_disk.specs.declared.Disk as disk
use Rattle.sqlite_store.specs.declared.store.FileStore.{FileStore}
use Rattle.sqlite_trees.specs.declared.store.Store.{Ghosts}
use Rattle.sqlite_wal.specs.Recovery.{Image}
use Rattle.sqlite.specs.Files.{over_files}
use Rattle.sqlite.specs.Held.{Held, state}
use Rattle.store_runs.specs.Desk.{HasOpened, IsNotOpened, of_store}
use Rattle.store_runs.specs.Ended.{HasFound, IsEndOf, IsRefused, IsUsed}
use Rattle.run_parts.specs.ProgramFault.{of_program}
use Rattle.bureau_program.specs.Replay.{IsAlwaysRight}
use Rattle.bureau_program.specs.Serving.{DoesOver, Ends, IsNewCache, IsNotListening, IsServeOutput, IsServeRun, IsServedOver, IsUnheard, HaltsBy, ServesAll, ServesSome, ServesUntil, Session, desk_ends, desk_over, fault_of_halt, file_ends, free_in, listening_text, store_ends}
use Rattle.store_runs.specs.declared.ended.Ended.{Ended}
use Rattle.run_parts.specs.declared.fault.ProgramFault.TheVariants.{NotWritten}

-- ---- from one kind of ends to another

module _ (these those : Ends) (refused : (fault : StoreFault) → these.refused fault → those.refused fault) (unserved : these.unserved → those.unserved)
    (served : these.served → those.served) (halted : (why : RoundFault) → these.halted why → those.halted why) (failed : these.failed → those.failed) where
  pub output_so : (outcome : Option AnyFault) (port : ℕ) (old new : Option (List ℕ)) → IsServeOutput these outcome port old new → IsServeOutput those outcome port old new
  output_so None port old new output = (served output.0, output.1)
  output_so (Some fault) port old new (inl device) = inl (device.0, failed device.1, device.2)
  output_so (Some fault) port old new (inr (inl told)) = inr (inl ((told.0.0, told.0.1, halted told.0.0 told.0.2), told.1))
  output_so (Some fault) port old new (inr (inr (inl unheard))) = inr (inr (inl (unserved unheard.0, unheard.1)))
  output_so (Some fault) port old new (inr (inr (inr not))) = inr (inr (inr ((not.0.0, not.0.1, refused not.0.0 not.0.2), not.1)))

  pub run_so : (port : ℕ) (old new old_errors new_errors : Option (List ℕ)) (status : ℕ) → IsServeRun these port old new old_errors new_errors status
      → IsServeRun those port old new old_errors new_errors status
  run_so port old new old_errors new_errors status run = record {
    outcome = run.outcome;
    output = output_so run.outcome port old new run.output;
    told = run.told;
    status_is = run.status_is;
  }

-- ---- a store is served

module _ {Store : Type 0} (view : View Store Tables) (log log_after : Log) (slots after : Slots) (cache : CacheLists) (old new : Store)
    (begun ended : Parts Store CacheLists) (is : begun ≡ desk_over old cache) (left : new ≡ ended.store) (goes : Goes (bureau_view view IsRightFor) begun ended) where
  abbrev over : View (Parts Store CacheLists) Tables
  over = bureau_view view IsRightFor

  last : ended ≡ desk_over new ended.judge
  last = ap (λ (store : Store). desk_over store ended.judge) (sym left)

  -- where the desk was made of a store and a cache, and the store is given back
  does_so : (Does : Parts Store CacheLists → Parts Store CacheLists → Slots → Slots → Type 0) → Does begun ended slots after → DoesOver view slots Does cache old new
  does_so Does did = record {
    cache_after = ended.judge;
    after = after;
    goes = subst (λ (first : Parts Store CacheLists). Goes over first (desk_over new ended.judge)) is
        (subst (λ (then : Parts Store CacheLists). Goes over begun then) last goes);
    did = subst (λ (first : Parts Store CacheLists). Does first (desk_over new ended.judge) slots after) is
        (subst (λ (then : Parts Store CacheLists). Does begun then slots after) last did);
  }

  -- all connections
  pub serves_all : {T : Type 0} (answer : Result T Halt) (connections : ℕ) → OnOk answer (AreAllServed over begun ended log log_after slots after connections)
      → OnOk answer (ServesAll view log log_after slots connections cache old new)
  serves_all (Ok done) connections all = does_so (λ old new before after. AreAllServed over old new log log_after before after connections) all
  serves_all (Err why) connections all = tt

  halts_by : (Over : RoundFault → Type 0) (why : Halt) (connections : ℕ) → IsHaltedBy over begun ended log log_after slots after Over connections why
      → HaltsBy view log log_after slots connections Over why cache old new
  halts_by Over halt.Device connections did = does_so (λ old new before after. EndsInFailure over old new log log_after before after connections) did
  halts_by Over (halt.Rounds fault) connections did =
      does_so (λ old new before after. AreServedSoFar over old new log log_after before after Over fault connections) did

  -- not all of them
  pub serves_until : {T : Type 0} (answer : Result T Halt) (Over : RoundFault → Type 0) (connections : ℕ)
      → IfErr answer (IsHaltedBy over begun ended log log_after slots after Over connections)
      → IfErr answer (λ why. HaltsBy view log log_after slots connections Over why cache old new)
  serves_until (Ok done) Over connections did = tt
  serves_until (Err why) Over connections did = halts_by Over why connections did

module _ {S : Type 0} (g : Ghosts S) (session : Session) where
  -- all connections were served; there was no round as it was begun
  pub served : (begun : Log) (slots : Slots) (cache : CacheLists) (old new : SqlState S) (port : ℕ) (was is : Option (List ℕ)) → begun ≡ session.log → slots ≡ free_in session
      → session.Listens → IsNewCache session.room cache → ServesAll (sql_view g) begun session.log_after slots session.connections cache old new
      → Appends was is (listening_text port) → IsServeOutput (desk_ends g session old new) None port was is
  served begun slots cache old new port was is same free listens fresh all line =
      let did = subst (λ log. ServesAll (sql_view g) log session.log_after (free_in session) session.connections cache old new) same
      (subst (λ slots. ServesAll (sql_view g) begun session.log_after slots session.connections cache old new) free all) in
      ((listens, record { cache = cache; is_new = fresh; did = did }), line)

  -- not all of them
  pub halted : (why : Halt) (begun : Log) (slots : Slots) (cache : CacheLists) (old new : SqlState S) (any : AnyFault) (port : ℕ) (was is : Option (List ℕ)) → begun ≡ session.log
      → slots ≡ free_in session → session.Listens → IsNewCache session.room cache
      → HaltsBy (sql_view g) begun session.log_after slots session.connections session.Over why cache old new → any ≡ fault_of_halt why
      → Appends was is (listening_text port) → IsServeOutput (desk_ends g session old new) (Some any) port was is
  halted halt.Device begun slots cache old new any port was is same free listens fresh until told line =
      let did = subst (λ log. ServesUntil (sql_view g) log session.log_after (free_in session) session.connections cache old new) same
      (subst (λ slots. ServesUntil (sql_view g) begun session.log_after slots session.connections cache old new) free until) in
      inl (told, (listens, record { cache = cache; is_new = fresh; did = did }), line)
  halted (halt.Rounds fault) begun slots cache old new any port was is same free listens fresh some told line =
      let did = subst (λ log. ServesSome (sql_view g) log session.log_after (free_in session) session.connections session.Over fault cache old new) same
      (subst (λ slots. ServesSome (sql_view g) begun session.log_after slots session.connections session.Over fault cache old new) free some) in
      inr (inl ((fault, told, (listens, record { cache = cache; is_new = fresh; did = did })), line))

  -- no desk listened
  pub unserved : (at : SqlState S) (fault : AnyFault) (port : ℕ) (was is : Option (List ℕ)) → session.log_after ≡ session.log → IsUnheard fault port was is
      → IsServeOutput (desk_ends g session at at) (Some fault) port was is
  unserved at fault port was is same unheard = inr (inr (inl ((refl, same), unheard)))

  -- the store was opened over a connection before
  pub served_over : (before after : Held S) (opened closing : SqlState S) → HasOpened g (state g before) opened → after ≡ closing.conn
      → (outcome : Option AnyFault) (port : ℕ) (was is : Option (List ℕ)) → IsServeOutput (desk_ends g session opened closing) outcome port was is
      → IsServeOutput (store_ends g session before after) outcome port was is
  served_over before after opened closing has same =
      let over = λ (Does : SqlState S → SqlState S → Type 0) (did : Does opened closing).
      let r : IsServedOver g Does before after = record { opened = opened; has_opened = has; closing = closing; did = did; after_is = same } in r in
      output_so (desk_ends g session opened closing) (store_ends g session before after) (λ fault none. absurd none)
      (over (λ old new. (desk_ends g session old new).unserved)) (over (λ old new. (desk_ends g session old new).served))
      (λ why. over (λ old new. (desk_ends g session old new).halted why)) (over (λ old new. (desk_ends g session old new).failed))

  -- a store that is refused is not served
  pub not_opened : (before after : Held S) (port : ℕ) (output old new : Option (List ℕ)) (status : ℕ) → session.log_after ≡ session.log → IsAtRest (state g before)
      → IsNotOpened (state g before) (state g after) old new status → IsServeRun (store_ends g session before after) port output output old new status
  not_opened before after port output old new status same rested refused = record {
    outcome = Some (of_store refused.told.0);
    output = inr (inr (inr ((refused.told.0, refl, (rested, refused.kept, refused.told.1, same)), Keeps-refl output)));
    told = refused.told.2;
    status_is = refused.told.3;
  }

-- ---- over files

module _ {D : Type 0} {g : disk.Ghosts D} (session : Session) (from : Image) (ended : Ended D g) where
  -- a connection was made, and ended
  pub run_over_files : (found left : Held (FileStore D g)) → HasFound from found → IsEndOf left ended → (port : ℕ) (old new old_errors new_errors : Option (List ℕ)) (status : ℕ)
      → IsServeRun (store_ends over_files session found left) port old new old_errors new_errors status
      → IsServeRun (file_ends session from ended) port old new old_errors new_errors status
  run_over_files found left finds ends =
      let used = λ (Uses : Held (FileStore D g) → Held (FileStore D g) → Type 0) (so : Uses found left).
      let r : IsUsed from Uses ended = record { found = found; finds = finds; left = left; used = so; ends = ends } in r in
      run_so (store_ends over_files session found left) (file_ends session from ended)
      (λ fault so. inr (used (λ old new. (store_ends over_files session old new).refused fault) so))
      (used (λ old new. (store_ends over_files session old new).unserved)) (used (λ old new. (store_ends over_files session old new).served))
      (λ why. used (λ old new. (store_ends over_files session old new).halted why)) (used (λ old new. (store_ends over_files session old new).failed))

  -- no connection could be made
  pub not_connected : (fault : StoreFault) (any : AnyFault) (port : ℕ) (output : Option (List ℕ)) → session.log_after ≡ session.log → IsRefused false from fault ended → any ≡ of_store fault
      → IsServeOutput (file_ends session from ended) (Some any) port output output
  not_connected fault any port output same refused is = inr (inr (inr ((fault, is, inl (refused, same)), Keeps-refl output)))

-- ---- what is told

pub unheard : (fault : AnyFault) (port : ℕ) (at : Option (List ℕ)) → IsNotListening fault → IsUnheard fault port at at
unheard fault port at why = inr (why, Keeps-refl at)

module _ (port : ℕ) (line slice : List ℕ) (old new : Option (List ℕ)) (is : line ≡ listening_text port) (same : slice ≡ line) where
  pub line_told : Appends old new slice → Appends old new (listening_text port)
  line_told all = subst (Appends old new) (same ∙ is) all

  pub line_cut : (fault : AnyFault) → fault ≡ of_program NotWritten → AppendsFront old new slice → IsUnheard fault port old new
  line_cut fault told front = inl (told, subst (AppendsFront old new) (same ∙ is) front)

pub new_cache_is : (room : ℕ) (cache : CacheLists) → IsAlwaysRight cache → (1 ≤ room → room ≤ 65536 → cache.capacity ≡ room) → IsNewCache room cache
new_cache_is room cache right size = record { right = right; room_is = size }
