-- Serving a store by `serve`: the output, and why it ends.
use Rattle.std.specs.Prelude.{◌≡◌, ◌*◌, ◌≤◌, ◌⊎◌, ◌++◌, ℕ, Bool, List, codes, decimal, false, replicate, Option, Some, None}
use Rattle.std.specs.Io.KnownBytes.{Appends, Keeps}
use Rattle.faults.specs.declared.any.AnyFault.{AnyFault}
use Rattle.transfer.specs.Transfer.{AppendsFront}
use Rattle.catalogue.specs.View.{Goes, View}
use Rattle.chain_cache.specs.Cache.{CacheLists, IsRightFor}
use Rattle.bureau_store.specs.Tables.{Tables}
use Rattle.bureau_store.specs.declared.fault.StoreFault.{StoreFault}
use Rattle.bureau_store.specs.declared.fault.StoreFault.TheVariants as store
use Rattle.bureau.specs.Answering.{bureau_view}
use Rattle.bureau.specs.Parts.{Parts}
use Rattle.connections.specs.Items.{Slots}
use Rattle.connections.specs.Memory.{IsWithin}
use Rattle.connections.specs.Rounds.{AreAllServed, AreServedSoFar, EndsInFailure, Log}
use Rattle.connections.specs.declared.rounds.Halt.{Halt}
use Rattle.connections.specs.declared.rounds.Halt.TheVariants as halt
use Rattle.connections.specs.declared.rounds.RoundFault.{RoundFault}
use Rattle.connections.specs.declared.rounds.RoundFault.TheVariants as round
use Rattle.bureau_sql.specs.Opening.{IsNoStore}
use Rattle.bureau_sql.specs.SqlState.{SqlState}
use Rattle.bureau_sql.specs.SqlView.{IsAtRest, sql_view}
use Rattle.sql_tables.specs.Reading.{OnlyReads}
use Rattle.sqlite_disk.specs.declared.Disk as disk
use Rattle.sqlite_trees.specs.declared.store.Store.{Ghosts}
use Rattle.sqlite_wal.specs.Recovery.{Image}
use Rattle.sqlite.specs.Files.{over_files}
use Rattle.sqlite.specs.Held.{Held, state}
use Rattle.sqlite.specs.State.{HasCleanDisk}
use Rattle.store_runs.specs.Desk.{HasOpened, of_store}
use Rattle.store_runs.specs.Ended.{IsRefused, IsUsed}
use Rattle.run_parts.specs.Outputs.{IsTold, run_status}
use Rattle.run_parts.specs.ProgramFault.{of_program}
use Rattle.bureau_program.specs.Replay.{IsAlwaysRight}
use Rattle.store_runs.specs.declared.ended.Ended.{Ended}
use Rattle.run_parts.specs.declared.fault.ProgramFault.TheVariants.{NotListening, NotWritten, Memory}
use Rattle.bureau_program.specs.declared.serving.Prepared.{Prepared}
use Rattle.bureau_program.specs.declared.serving.Service.{Service}

-- where the desk listens
abbrev pub listening_text : ℕ → List ℕ
listening_text port = codes "LISTENING 127.0.0.1:" ++ decimal port ++ codes "\n"

-- ---- what a desk does with a store

-- a desk over a store, with the cache that all callers share
abbrev pub desk_over : {Store : Type 0} → Store → CacheLists → Parts Store CacheLists
desk_over store cache = record { store = store; judge = cache }

-- that was done by a desk over a store, with a cache, to connections that stood so
pub record DoesOver {Store : Type 0} (view : View Store Tables) (before : Slots) (Does : Parts Store CacheLists → Parts Store CacheLists → Slots → Slots → Type 0) (cache : CacheLists) (old new : Store) : Type 0 where
  pub cache_after : CacheLists
  pub after : Slots
  pub goes : Goes (bureau_view view IsRightFor) (desk_over old cache) (desk_over new cache_after)
  pub did : Does (desk_over old cache) (desk_over new cache_after) before after

module _ {Store : Type 0} (view : View Store Tables) (log log_after : Log) (slots : Slots) (connections : ℕ) where
  -- all connections were served, side by side: so many came and are gone, and the device has not failed by then
  abbrev pub ServesAll : CacheLists → Store → Store → Type 0
  ServesAll =
      DoesOver view slots (λ old new before after. AreAllServed (bureau_view view IsRightFor) old new log log_after before after connections)

  -- there were no more rounds, by this fault; what was told before was served, and the device has not failed by then
  abbrev pub ServesSome : (RoundFault → Type 0) → RoundFault → CacheLists → Store → Store → Type 0
  ServesSome Over fault =
      DoesOver view slots (λ old new before after. AreServedSoFar (bureau_view view IsRightFor) old new log log_after before after Over fault connections)

  -- the device failed at one event, and no later one was looked at
  abbrev pub ServesUntil : CacheLists → Store → Store → Type 0
  ServesUntil =
      DoesOver view slots (λ old new before after. EndsInFailure (bureau_view view IsRightFor) old new log log_after before after connections)

  -- why it ended before all connections were served
  abbrev pub HaltsBy : (RoundFault → Type 0) → Halt → CacheLists → Store → Store → Type 0
  HaltsBy Over halt.Device = ServesUntil
  HaltsBy Over (halt.Rounds fault) = ServesSome Over fault

-- a new cache, which is right for whatever is published, with room for so many frames
pub record IsNewCache (room : ℕ) (cache : CacheLists) : Type 0 where
  pub right : IsAlwaysRight cache
  pub room_is : 1 ≤ room → room ≤ 65536 → cache.capacity ≡ room

-- Serves private contracts alone: a desk that is prepared has a new cache, free slots, and as much room for bodies and
-- replies as it may have.
pub record IsPrepared (service : Service) (prepared : Prepared) : Type 0 where
  pub cache : IsNewCache service.cache prepared.cache
  pub free : prepared.connections.slots.items ≡ replicate service.most_open None
  pub limit : prepared.connections.shares.limit ≡ service.memory * 1048576
  pub within : IsWithin prepared.connections

-- that was done with a store by a desk with a new cache
pub record ByDesk {Store : Type 0} (room : ℕ) (Does : CacheLists → Store → Store → Type 0) (old new : Store) : Type 0 where
  pub cache : CacheLists
  pub is_new : IsNewCache room cache
  pub did : Does cache old new

-- ---- how a run may end

-- A session of a desk: it has room for so many frames, and serves so many connections to a port, of which at most so many
-- are open at once; that the port was asked for so; the fault that ended the rounds; and the rounds before the session and
-- by its end, as far as they are known.
pub record Session : Type 1 where
  pub room : ℕ
  pub most_open : ℕ
  pub connections : ℕ
  pub Listens : Type 0
  pub Over : RoundFault → Type 0
  pub log : Log
  pub log_after : Log

-- its slots, before anybody came
abbrev pub free_in : Session → Slots
free_in session = replicate session.most_open None

-- that of a service, of the ports that were asked for, of what ended the rounds, and of their logs
abbrev pub session_of : Service → (ℕ → ℕ → Bool → Type 0) → (RoundFault → Type 0) → Log → Log → Session
session_of service Listens Over log log_after = record {
  room = service.cache;
  most_open = service.most_open;
  connections = service.connections;
  Listens = Listens service.port service.most_open service.log;
  Over = Over;
  log = log;
  log_after = log_after;
}

-- How a run ends: because its store is refused, by the fault; before a desk listens, or because it can't print that it does;
-- after all connections; when there are no more rounds, by the fault; or at the event at which the device failed.
pub record Ends : Type 1 where
  pub refused : StoreFault → Type 0
  pub unserved : Type 0
  pub served : Type 0
  pub halted : RoundFault → Type 0
  pub failed : Type 0

-- of a store that is open
abbrev pub desk_ends : {S : Type 0} → Ghosts S → Session → SqlState S → SqlState S → Ends
desk_ends g session old new = record {
  refused = λ fault. ⊥;
  unserved = (new ≡ old) × (session.log_after ≡ session.log);
  served = session.Listens × ByDesk session.room (ServesAll (sql_view g) session.log session.log_after (free_in session) session.connections) old new;
  halted = λ fault. session.Listens
      × ByDesk session.room (ServesSome (sql_view g) session.log session.log_after (free_in session) session.connections session.Over fault) old new;
  failed = session.Listens × ByDesk session.room (ServesUntil (sql_view g) session.log session.log_after (free_in session) session.connections) old new;
}

-- A store was opened over a connection, and that was done with it. The connection is as it left it.
pub record IsServedOver {S : Type 0} (g : Ghosts S) (Does : SqlState S → SqlState S → Type 0) (before after : Held S) : Type 0 where
  pub opened : SqlState S
  pub has_opened : HasOpened g (state g before) opened
  pub closing : SqlState S
  pub did : Does opened closing
  pub after_is : after ≡ closing.conn

-- of a connection; it was only read if the store in it is refused, and nobody came
abbrev pub store_ends : {S : Type 0} → Ghosts S → Session → Held S → Held S → Ends
store_ends g session before after = record {
  refused = λ fault. IsAtRest (state g before) × OnlyReads (state g before) (state g after)
      × (HasCleanDisk (state g after) → IsNoStore (state g before) (state g after) fault) × (session.log_after ≡ session.log);
  unserved = IsServedOver g (λ old new. (desk_ends g session old new).unserved) before after;
  served = IsServedOver g (λ old new. (desk_ends g session old new).served) before after;
  halted = λ fault. IsServedOver g (λ old new. (desk_ends g session old new).halted fault) before after;
  failed = IsServedOver g (λ old new. (desk_ends g session old new).failed) before after;
}

-- of files; no connection to them could be made, or one was
abbrev pub file_ends : {D : Type 0} {g : disk.Ghosts D} → Session → Image → Ended D g → Ends
file_ends session from ended = record {
  refused = λ fault. (IsRefused false from fault ended × (session.log_after ≡ session.log))
      ⊎ IsUsed from (λ found left. (store_ends over_files session found left).refused fault) ended;
  unserved = IsUsed from (λ found left. (store_ends over_files session found left).unserved) ended;
  served = IsUsed from (λ found left. (store_ends over_files session found left).served) ended;
  halted = λ fault. IsUsed from (λ found left. (store_ends over_files session found left).halted fault) ended;
  failed = IsUsed from (λ found left. (store_ends over_files session found left).failed) ended;
}

-- ---- what is told

-- the port can't be listened on, or memory ran out
abbrev pub IsNotListening : AnyFault → Type 0
IsNotListening fault = (fault ≡ of_program NotListening) ⊎ (fault ≡ of_program Memory)

-- no desk listens, and standard output stays; or it has a front part of the line
abbrev pub IsUnheard : AnyFault → ℕ → Option (List ℕ) → Option (List ℕ) → Type 0
IsUnheard fault port old new =
    ((fault ≡ of_program NotWritten) × AppendsFront old new (listening_text port)) ⊎ (IsNotListening fault × Keeps old new)

-- the fault for a desk that listened, and serves no more
abbrev pub fault_of_round : RoundFault → AnyFault
fault_of_round round.System = of_program NotListening
fault_of_round round.Memory = of_program Memory

abbrev pub fault_of_halt : Halt → AnyFault
fault_of_halt halt.Device = of_store store.Device
fault_of_halt (halt.Rounds fault) = fault_of_round fault

-- Standard output, and how the run ended. It gets the line once the desk listens; after that a run ends with a fault only if
-- the device failed or there were no more rounds. It gets a front part of the line if that can't be written; or nothing, if
-- no desk listens.
abbrev pub IsServeOutput : Ends → Option AnyFault → ℕ → Option (List ℕ) → Option (List ℕ) → Type 0
IsServeOutput ends None port old new = ends.served × Appends old new (listening_text port)
IsServeOutput ends (Some fault) port old new =
    ((fault ≡ of_store store.Device) × ends.failed × Appends old new (listening_text port))
    ⊎ (((why : RoundFault) × (fault ≡ fault_of_round why) × ends.halted why) × Appends old new (listening_text port))
    ⊎ (ends.unserved × IsUnheard fault port old new)
    ⊎ (((refused : StoreFault) × (fault ≡ of_store refused) × ends.refused refused) × Keeps old new)

-- A whole run: how it ended, what standard output and standard error get, and the exit status.
pub record IsServeRun (ends : Ends) (port : ℕ) (old new old_errors new_errors : Option (List ℕ)) (status : ℕ) : Type 0 where
  pub outcome : Option AnyFault
  pub output : IsServeOutput ends outcome port old new
  pub told : IsTold outcome old_errors new_errors
  pub status_is : status ≡ run_status outcome
