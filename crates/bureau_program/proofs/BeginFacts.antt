-- Where runs begin, what is left once the log was copied, and which calls a log asks for.
use Rattle.std.proofs.Common.{◌≡◌, ◌++◌, List, None, Option, Some, ℕ, inl, inr, refl, subst, true}
use Rattle.std.proofs.Math.Logic.{∥∥₁_map}
use Rattle.std.proofs.lemmas.List.{append_cancel_left}
use Rattle.faults.specs.declared.any.AnyFault.{AnyFault}
use Rattle.bureau_store.specs.Callers.{has_publisher}
use Rattle.bureau_store.specs.Tables.{Tables}
use Rattle.bureau_store.specs.declared.caller.CallerRow.{CallerRow}
use Rattle.bureau.specs.Joint.{CallBy}
use Rattle.connections.specs.Rounds.{AreAskedIn, AreCallsOf, AreLogged, Entry}
use Rattle.bureau_sql.specs.Files.{HoldTables, HoldsEarlier, HoldsStore}
use Rattle.sql_tables.proofs.StopFacts.{was_clean}
use Rattle.sqlite_disk.specs.declared.Disk as disk
use Rattle.sqlite_wal.specs.Recovery.{Image}
use Rattle.sqlite.specs.Files.{file_state}
use Rattle.store_runs.specs.Checking.{IsFilesChecked}
use Rattle.store_runs.specs.Keeping.{EndsWell, IsDone, KeepsMigrated, Leaves}
use Rattle.store_runs.specs.declared.ended.Ended.{Ended}
use Rattle.store_runs.specs.declared.ended.Ended.TheVariants.{Nothing, Left, Closed}
use Rattle.bureau_program.specs.Runs.{HaveThePublisher}
use Rattle.bureau_program.specs.RunsEnd.{IsLastOf, LeavesAtLast}
use Rattle.bureau_program.proofs.KeepingFacts.{finds_store}
use Rattle.bureau_program.proofs.StayingFacts.{among}

module _ {D : Type 0} {g : disk.Ghosts D} (from : Image) where
  -- a check that told the store whole found the publisher
  pub checked_has : (ended : Ended D g) (old new : Option (List ℕ)) → IsFilesChecked from old new ended None → EndsWell from ended
      → (before : Tables) → HoldsStore from before → HaveThePublisher before.callers
  checked_has ended old new (inl not) well before holds = absurd (let none : ◌≡◌ {A = Option _} None (Some _) = not.1 in cc)
  checked_has Nothing old new (inr used) well before holds = absurd used.ends
  checked_has (Left it) old new (inr used) well before holds = absurd used.ends
  checked_has (Closed last) old new (inr used) well before holds =
      let clean = used.ends.clean well in
      let found = file_state used.found in
      let left = file_state used.left in
      let whole = (used.used.1.1 clean).0 in
      let there = finds_store from before holds used.found used.finds (was_clean found left (λ trees. ⊥) used.used.2.survives clean) in
      among before.callers (subst (λ (this : Tables). has_publisher this.callers ≡ true) there.1 whole.publisher)

  pub brought_tables : (outcome : Option AnyFault) (ended : Ended D g) → KeepsMigrated from outcome ended → IsDone outcome → EndsWell from ended
      → (before : Tables) → HoldsEarlier from before → (left : Image) → Leaves from ended left → HoldTables left (λ this. this ≡ before)
  brought_tables outcome ended kept done well before holds left may = ∥∥₁_map (kept.brought done before holds well left may) (λ store.
      let r : (this : Tables) × HoldsStore left this × (this ≡ before) = (before, store, refl) in r)

  -- ---- once the log was copied

  pub ends_well : (ended closed : Ended D g) → IsLastOf from ended closed → EndsWell from ended
  ends_well Nothing closed last = tt
  ends_well (Left it) closed last = subst (EndsWell from) last.copied last.well
  ends_well (Closed it) Nothing last = absurd last.copied
  ends_well (Closed it) (Left other) last = absurd last.copied
  ends_well (Closed it) (Closed now) last = last.copied.clean last.well

  pub last_leaves : (ended closed : Ended D g) → IsLastOf from ended closed → (left : Image) → LeavesAtLast from closed left → Leaves from ended left
  last_leaves Nothing closed last left may = subst (λ (at : Ended D g). LeavesAtLast from at left) last.copied may
  last_leaves (Left it) closed last left may = subst (λ (at : Ended D g). LeavesAtLast from at left) last.copied may
  last_leaves (Closed it) Nothing last left may = absurd last.copied
  last_leaves (Closed it) (Left other) last left may = absurd last.copied
  last_leaves (Closed it) (Closed now) last left may =
      let still = last.copied.clean last.well in
      let ends = last.ended_is.1 in
      inr (last.copied.left last.well (ends.numbered still) (ends.sound still) last.numbered left may)

-- ---- a log that is known

pub asked_of : (rows : List CallerRow) (before entries : List Entry) (calls : List CallBy) (Failed : Type 0) → (Failed → ⊥) → AreCallsOf rows (Some before) (Some (before ++ entries)) Failed calls
    → AreAskedIn rows entries calls
asked_of rows before entries calls Failed never are = by are.logged
  where
    same : (rounds : List Entry) → ◌≡◌ {A = Option (List Entry)} (Some (before ++ rounds)) (Some (before ++ entries)) → rounds ≡ entries
    same rounds is = append_cancel_left before rounds entries (cc)

    by : AreLogged (Some before) (Some (before ++ entries)) Failed are.rounds → AreAskedIn rows entries calls
    by (inl logged) = subst (λ rounds. AreAskedIn rows rounds calls) (same are.rounds logged) are.asked
    by (inr failed) = absurd (never failed.0)
