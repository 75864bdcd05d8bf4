-- A change of a connection, and how it is told, are a change of the store.
use Rattle.std.proofs.Common.{◌≡◌, ◌∙◌, ℕ, Bool, Err, IfErr, IsTrue, Result, sym}
use Rattle.bureau_store.specs.Effect.{Effect, publication, zone_put, zone_dropped, received_put, patterns_put}
use Rattle.bureau_store.specs.Store.{HasZone, IsDue, IsOfCall, Makes, Update, updated, zones_of}
use Rattle.bureau_store.specs.Tables.{Tables}
use Rattle.bureau_store.specs.declared.caller.Caller.{Caller}
use Rattle.bureau_store.specs.declared.caller.Caller.TheVariants.{Publisher, Client}
use Rattle.bureau_store.specs.declared.fault.StoreFault.{StoreFault}
use Rattle.bureau_store.specs.declared.fault.StoreFault.TheVariants.{Device, Size}
use Rattle.sqlite.specs.Held.{Held, state}
use Rattle.sqlite_trees.specs.Tree.{Trees}
use Rattle.sqlite_trees.specs.declared.store.Store.{Ghosts}
use Rattle.sql_tables.specs.Changes.{stored_after}
use Rattle.sql_tables.specs.Fit.{CanBeMade, CanBeWritten, IsAsked}
use Rattle.sql_tables.specs.Stored.{Stored, tables_of}
use Rattle.sql_tables.specs.Whole.{IsWhole}
use Rattle.sql_tables.proofs.ChangeFacts.{change_made}
use Rattle.sql_tables.proofs.WholeFacts.{whole_after}
use Rattle.bureau_sql.specs.Committed.{IsCommitted}
use Rattle.bureau_sql.specs.Outgrown.{HasNoRoom}
use Rattle.bureau_sql.specs.SqlState.{SqlState}
use Rattle.bureau_sql.specs.SqlView.{shown, sql_view}
use Rattle.bureau_sql.specs.Told.{IsTold}
use Rattle.bureau_sql.proofs.ChangedFacts.{open_changes, settles}

-- a change that is due, and writes what is fit, can be made
asked : (caller : Caller) (effect : Effect) (this : Tables) → HasZone effect (zones_of caller this) → IsAsked caller effect this
asked Publisher effect this zone = tt
asked (Client name) (publication changes) this zone = tt
asked (Client name) (zone_put put rows) this zone = tt
asked (Client name) (zone_dropped dropped) this zone = tt
asked (Client name) (received_put ids) this zone = tt
asked (Client name) (patterns_put put patterns) this zone = zone

-- the rows that a change leaves
abbrev change_of : Update → Stored → Stored
change_of update = stored_after update.caller update.effect update.last

module _ (update : Update) (can : CanBeWritten update.caller update.effect) where
  can_be_made : (this : Tables) → IsDue update this → CanBeMade update.caller update.effect this
  can_be_made this due = record {
    named = can.named;
    own = can.own;
    fit = can.fit;
    asked = asked update.caller update.effect this due.zone;
  }

  stays_whole : (stored : Stored) → IsWhole stored → IsWhole (change_of update stored)
  stays_whole stored whole = whole_after update.caller update.effect update.last stored can whole

  meant : (stored : Stored) → IsDue update (tables_of stored) → tables_of (change_of update stored) ≡ updated update (tables_of stored)
  meant stored due = change_made update.caller update.effect update.last stored (can_be_made (tables_of stored) due)

  module _ {S : Type 0} (g : Ghosts S) where
    -- the connection's change, and how it is told, of a store that is open
    pub open_makes : {Done Refusal : Type 0} (conn changed : Held S) (failures : ℕ) (unseen : Bool) (old new : SqlState S) → record { conn = conn; failures = failures; unseen = unseen } ≡ old → old.failures ≡ 0
        → ((trees : Trees) → IsTrue (shown g new).is_open → (shown g new).may_leave trees → trees ≡ (shown g new).committed.trees)
        → (made : Result Done Refusal) (answer : Result Done StoreFault) → IsCommitted (state g conn) (state g changed) made (change_of update)
        → IsTold g Device (record { conn = changed; failures = failures; unseen = unseen }) new made answer → IfErr answer IsOfCall → Makes (sql_view g) HasNoRoom update old new answer
    open_makes {Done} {Refusal} conn changed failures unseen old new same standing rests made answer committed told of_call =
        let it = open_changes g (change_of update) (IsDue update) (updated update) stays_whole meant conn changed failures unseen old new same standing rests made answer committed told of_call in
        record {
          goes = it.goes;
          done = it.done;
          refused = it.refused;
          refusal = it.refusal;
          cause = it.cause;
          is_open = it.is_open;
          size = λ is. (standing, it.is_open (λ device. absurd (let both : ◌≡◌ {A = Result Done StoreFault} (Err Device) (Err Size) = sym device ∙ is in cc)));
          crash = it.crash;
          settled = settles g new rests;
        }
