-- What `check` sees of a database, what it tells, and what a stop leaves.
use Rattle.std.proofs.Common.{◌≡◌, ◌⊎◌, ◌∙◌, ◌∷◌, [], ℕ, Err, IsTrue, List, None, Ok, Some, ap, inl, inr, map, refl, subst, sym}
use Rattle.std.proofs.Math.Logic.{∥∥₁_map}
use Rattle.std.specs.Prelude.{Bool, false, IfErr, IfOk, Option, OnErr, OnOk, Result, Vec}
use Rattle.std.specs.declared.alloc.Global.{Global}
use Rattle.std.specs.Io.KnownBytes.{Appends, Keeps}
use Rattle.std.specs.List.Sorted.{IsPermutation}
use Rattle.bureau_sql.specs.Files.{HoldTrees, HoldsStore}
use Rattle.bureau_sql.specs.Opening.{HasConditions, HasTables, IsNoStore}
use Rattle.bureau_sql.specs.SqlView.{IsAtRest}
use Rattle.bureau_store.specs.Store.{IsOfRead}
use Rattle.bureau_store.specs.Tables.{NamesAscend, Tables}
use Rattle.bureau_store.specs.declared.caller.CallerRow.{CallerRow}
use Rattle.bureau_store.specs.declared.fault.StoreFault.{StoreFault}
use Rattle.bureau_store.specs.declared.fault.StoreFault.TheVariants.{Device, Memory}
use Rattle.run_parts.specs.Outputs.{Outputs}
use Rattle.run_parts.specs.ProgramFault.{of_program}
use Rattle.run_parts.specs.declared.fault.ProgramFault.TheVariants.{NotWritten}
use Rattle.sqlite_disk.specs.declared.Disk.{Ghosts}
use Rattle.sqlite_store.specs.FileStore.{view}
use Rattle.sqlite_store.specs.declared.store.FileStore.{FileStore}
use Rattle.sqlite_trees.specs.Tree.{Trees}
use Rattle.sqlite_trees.specs.View.{IsClean}
use Rattle.sqlite_wal.specs.Recovery.{Image}
use Rattle.sqlite.specs.Effect.{Database}
use Rattle.sqlite.specs.Files.{HoldsDatabase, IsNothing, file_state}
use Rattle.sqlite.specs.Held.{Held}
use Rattle.sqlite.specs.State.{HasCleanDisk, State}
use Rattle.sql_checks.proofs.CauseFacts.{caused_after, caused_so, later_caused}
use Rattle.sql_checks.proofs.ScanFacts.{look_on, look_so}
use Rattle.sql_checks.proofs.TallyFacts.{read_looks}
use Rattle.sql_checks.specs.Checked.{Finds, HasPublisher, IsFound, IsOursIfNumbered, Looks}
use Rattle.sql_checks.specs.Kept.{AreKept}
use Rattle.sql_checks.specs.Refused.{IsCausedBy, IsUnread, IsUnsaid, IsUntallied, SaysCallers, of_callers}
use Rattle.sql_checks.specs.Tally.{IsTallyOf, tally_text}
use Rattle.sql_checks.specs.declared.checking.Finding.{Finding}
use Rattle.sql_checks.specs.declared.checking.Finding.TheVariants.{NoPublisher, OtherOrder, OtherTables, OtherVersion, Whole, WrongRow}
use Rattle.sql_checks.specs.declared.table.StoreTable.TheVariants.{Caller}
use Rattle.sql_checks.specs.declared.tallies.StoreTally.{StoreTally}
use Rattle.sql_reads.specs.Version.{HasVersion}
use Rattle.sql_reads.specs.declared.fault.ReadFault.{ReadFault}
use Rattle.sql_reads.specs.declared.fault.ReadFault.TheVariants as fault
use Rattle.sql_tables.proofs.StopFacts.{read_on, was_clean}
use Rattle.sql_tables.specs.Ours.{IsOurs, held_by}
use Rattle.sql_tables.specs.Reading as read
use Rattle.sql_tables.specs.Reading.{OnlyReads}
use Rattle.sql_tables.specs.Stored.{tables_of}
use Rattle.sql_texts.specs.Found.{shown}
use Rattle.sql_texts.specs.Schema.{bureau}
use Rattle.store_runs.specs.Asked.{Asked, AsksFor, Connected, refused_with}
use Rattle.store_runs.specs.Checking.{IsCheck, IsCheckOutput, IsCheckRun, IsCheckTold, IsSeenWhole, IsSeenWrong, IsTextOf, IsToldAs, IsToldOfRead, IsToldWhole, IsUntold, IsWrong, check_fault_in, check_status, in_no_table}
use Rattle.store_runs.specs.Desk.{of_store}
use Rattle.store_runs.specs.Ended.{HasEnded, HasFound, IsEndOf, IsRefused}
use Rattle.store_runs.specs.Keeping.{HasNoTables, Keeps as Always, KeepsFound, TellsOnly}
use Rattle.store_runs.specs.declared.checking.CheckFault.{CheckFault}
use Rattle.store_runs.specs.declared.checking.CheckPlace.{CheckPlace}
use Rattle.store_runs.specs.declared.checking.CheckPlace.TheVariants.{Table}
use Rattle.store_runs.specs.declared.ended.Ended.{Ended}
use Rattle.store_runs.specs.declared.missing.IfMissing.TheVariants.{Refuse}
use Rattle.store_runs.specs.declared.ended.Ended.TheVariants.{Nothing, Left, Closed}
use Rattle.transfer.specs.Transfer.{AppendsFront}
use Rattle.store_runs.proofs.AskedFacts.{once_connected, once_refused}
use Rattle.store_runs.proofs.DoneFacts.{no_store_fault, told_once}
use Rattle.store_runs.proofs.EndFacts.{left_of}
use Rattle.store_runs.proofs.LeftFacts.{found_nothing}
use Rattle.store_runs.proofs.OpensFacts.{known_of_found, known_of_left, ours_found}
use Rattle.store_runs.proofs.StayFacts.{earlier_stays, kept_found, store_stays}

-- ---- how much it has

-- the text of what two reads tell
pub tallied : {Fault : Type 0} (old mid new : State) (callers : Vec CallerRow Global) (slice : List CallerRow) (tally : StoreTally) (result : Result (Vec ℕ Global) Fault)
    → read.Finds old mid {Fault = Fault} (Ok callers) (λ stored callers. IsPermutation (tables_of stored).callers callers.items) → NamesAscend (map (λ row. row.name) callers.items) → slice ≡ callers.items
    → Looks {Fault = Fault} mid new (Ok tally) (λ database tally. IsOurs database → IsTallyOf (tables_of (held_by database)) slice tally) → IfOk result (λ text. text.items ≡ tally_text tally)
    → Looks {Answer = Vec ℕ Global} {Fault = Fault} old new result (λ database text. IsOurs database → IsTextOf (tables_of (held_by database)) text.items)
tallied old mid new callers slice tally (Ok text) first ascend same second is =
    look_so old new tally text
    (λ database tally. IsOurs database → IsPermutation (tables_of (held_by database)).callers callers.items × IsTallyOf (tables_of (held_by database)) slice tally)
    (λ database text. IsOurs database → IsTextOf (tables_of (held_by database)) text.items)
    (look_on old mid new callers (Ok tally) (λ database callers. IsOurs database → IsPermutation (tables_of (held_by database)).callers callers.items)
    (λ database tally. IsOurs database → IsTallyOf (tables_of (held_by database)) slice tally)
    (λ database tally. IsOurs database → IsPermutation (tables_of (held_by database)).callers callers.items × IsTallyOf (tables_of (held_by database)) slice tally)
    (read_looks old mid (Ok callers) (λ stored callers. IsPermutation (tables_of stored).callers callers.items) first) second
    (λ database tally all has our. (all our, has our)))
    (λ database both our.
    let it = both our in
    record { callers = callers.items; all = it.0; ascend = ascend; tally = tally; tallied = subst (λ rows. IsTallyOf (tables_of (held_by database)) rows tally) same it.1; is = is })
tallied old mid new callers slice tally (Err fault) first ascend same second is = record { reads = read_on old mid new first.reads second.reads; is_open = tt; told = tt }

-- the callers aren't said
pub callers_untold : (old new : State) → IsCausedBy (IsUnsaid of_callers SaysCallers) old new → IsCausedBy IsUntold old new
callers_untold old new = caused_so (IsUnsaid of_callers SaysCallers) IsUntold old new (λ limit database why. inl why)

-- or what they have isn't, after them
pub tally_untold : (old mid new : State) (callers : List CallerRow) (refused : ReadFault) → OnlyReads old mid → (HasCleanDisk mid → IsTrue mid.is_open) → OnlyReads mid new
    → (refused ≡ fault.Device → HasCleanDisk new → IsCausedBy (IsUntallied callers) mid new) → refused ≡ fault.Device → HasCleanDisk new → IsCausedBy IsUntold old new
tally_untold old mid new callers refused first stays second =
    later_caused (IsUntallied callers) IsUntold old mid new refused (λ limit database why. inr (callers, why)) first (λ clean on. stays clean) second

-- ---- what is seen of an open connection

-- it is whole, and how much it has
pub seen_whole : (old mid new : State) (text : Vec ℕ Global) → Finds {Fault = ReadFault} old mid (Ok Whole) IsFound
    → Looks {Fault = ReadFault} mid new (Ok text) (λ database text. IsOurs database → IsTextOf (tables_of (held_by database)) text.items) → IsSeenWhole old new text.items
seen_whole old mid new text first second clean on =
    let before = was_clean mid new _ second.reads.survives clean in
    let between = first.is_open before on in
    let same : mid.committed ≡ old.committed = (first.reads.keeps before).committed between in (
      first.told before on,
      λ ours.
          subst (λ database. IsTextOf (tables_of (held_by database)) text.items) same
          (second.told clean between (subst (λ (database : Database). database.schema ≡ bureau) (sym same) ours.schema) (subst IsOurs (sym same) ours)),
    )

-- the rows can't be read
pub check_refused : (old new : State) (refused : ReadFault) (told : CheckFault) → IsToldOfRead refused told → (refused ≡ fault.Device → HasCleanDisk new → IsCausedBy IsUnread old new)
    → IsSeenWrong old new told
check_refused old new refused told (inl memory) cause = inr (inl memory)
check_refused old new refused told (inr device) cause = inr (inr (device.0, λ clean on. inl (cause device.1 clean)))

-- or the store is whole, and it can't be read how much it has
pub tally_refused : (old mid new : State) (refused : ReadFault) (told : CheckFault) → IsToldOfRead refused told → Finds {Fault = ReadFault} old mid (Ok Whole) IsFound → OnlyReads mid new
    → (refused ≡ fault.Device → HasCleanDisk new → IsCausedBy IsUntold mid new) → IsSeenWrong old new told
tally_refused old mid new refused told (inl memory) first second cause = inr (inl memory)
tally_refused old mid new refused told (inr device) first second cause = inr (inr (
  device.0,
  λ clean on. inr (first.told (was_clean mid new _ second.survives clean) on, caused_after IsUntold old mid new first.reads first.is_open second clean (cause device.1 clean)),
))

-- ---- what is told of the store of a connection

-- a connection that a desk would serve
pub record IsServable (before after : State) : Type 0 where
  pub reads : OnlyReads before after
  pub is_open : HasCleanDisk after → IsTrue after.is_open
  pub version : HasCleanDisk after → HasVersion (Some 2) before.committed
  pub found : HasCleanDisk after → HasTables before.committed.schema × HasConditions before.committed.schema

module _ (before opened after : State) (servable : IsServable before opened) (reads : OnlyReads opened after) where
  open_before : HasCleanDisk after → HasCleanDisk opened
  open_before clean = was_clean opened after _ reads.survives clean

  one_database : HasCleanDisk after → opened.committed ≡ before.committed
  one_database clean = let there = open_before clean in (servable.reads.keeps there).committed (servable.is_open there)

  pub whole_told : (text : List ℕ) → IsSeenWhole opened after text → IsToldWhole before after text
  whole_told text seen clean =
      let there = open_before clean in
      let same = one_database clean in
      let it = seen clean (servable.is_open there) in (
        record {
          version = servable.version there;
          tables = (servable.found there).0;
          conditions = (servable.found there).1;
          ours = subst IsOursIfNumbered same it.0.0;
          kept = subst (λ database. AreKept (held_by database)) same it.0.1;
          publisher = subst HasPublisher same it.0.2;
        },
        λ ours. subst (λ database. IsTextOf (tables_of (held_by database)) text) same (it.1 (subst IsOurs (sym same) ours)),
      )

  pub wrong_told : (told : CheckFault) → IsSeenWrong opened after told → IsWrong before after told
  wrong_told told (inl found) =
      inr (inl (found.0, found.1, λ clean. subst (λ database. IsFound database found.0) (one_database clean) (found.2 clean (servable.is_open (open_before clean)))))
  wrong_told told (inr (inl memory)) = inr (inr (inl memory))
  wrong_told told (inr (inr device)) = inr (inr (inr (
    device.0,
    λ clean. elim (device.1 clean (servable.is_open (open_before clean))) [
      | inl cause ↦ inl (caused_after IsUnread before opened after servable.reads (λ there was. servable.is_open there) reads clean cause)
      | inr whole ↦ inr (
        subst (λ database. IsFound database Whole) (one_database clean) whole.0,
        caused_after IsUntold before opened after servable.reads (λ there was. servable.is_open there) reads clean whole.1,
      )
    ],
  )))

-- a desk wouldn't serve it
pub not_served : (before after : State) (refused : StoreFault) (told : CheckFault) → told ≡ in_no_table (of_store refused) → (HasCleanDisk after → IsNoStore before after refused) → IsWrong before after told
not_served before after refused told is why = inl (refused, is, why)

-- the text is printed, or a front part of it
pub text_printed : {T : Type 0} (outcome : Result T CheckFault) (before after : State) (old new : Option (List ℕ)) (text : List ℕ) → IsToldWhole before after text → OnOk outcome (Appends old new text)
    → IfErr outcome (λ told. told ≡ in_no_table (of_program NotWritten)) → OnErr outcome (AppendsFront old new text) → IsCheckOutput (check_fault_in outcome) before after old new
text_printed (Ok done) before after old new text told whole fault front = (text, told, whole)
text_printed (Err why) before after old new text told whole fault front = inl (fault, text, told, front)

-- ---- over files

-- A stop of a run that only reads leaves what it found.
module _ {D : Type 0} {g : Ghosts D} (from : Image) (found left : Held (FileStore D g)) (finds : HasFound from found) (rests : IsAtRest (file_state found))
    (reads : OnlyReads (file_state found) (file_state left)) (last : FileStore D g) (ends : HasEnded left last) where
  clean : IsClean (view last) → HasCleanDisk (file_state found)
  clean still = was_clean (file_state found) (file_state left) _ reads.survives (ends.clean still)

  there : IsClean (view last) → (trees : Trees) → (file_state left).may_leave trees → trees ≡ (file_state found).committed.trees
  there still trees may = elim (reads.survives.crash (ends.clean still) trees may) [
    | inl was ↦ rests trees (finds.opened (clean still)).0.is_open was
    | inr none ↦ absurd none
  ]

  stays : (trees : Trees) → HoldsDatabase from trees → Always from (Closed last) (HoldTrees (λ now. now ≡ trees))
  stays trees holds still image may = ∥∥₁_map (left_of from left last ends still image may) (λ it.
      let same : it.0 ≡ trees = there still it.0 it.2 ∙ (finds.found (clean still)).holds trees holds in
      let r : (now : Trees) × HoldsDatabase image now × (now ≡ trees) = (it.0, it.1, same) in r)

  either : (trees : Trees) → HoldsDatabase from trees → Always from (Closed last) (HoldTrees (λ now. (now ≡ trees) ⊎ (HasNoTables trees × ⊥)))
  either trees holds still image may = ∥∥₁_map (stays trees holds still image may) (λ it.
      let r : (now : Trees) × HoldsDatabase image now × ((now ≡ trees) ⊎ (HasNoTables trees × ⊥)) = (it.0, it.1, inl it.2) in r)

  begins : IsNothing from → Always from (Closed last) (λ left. IsNothing left ⊎ HoldTrees HasNoTables left)
  begins nothing still image may = inr (∥∥₁_map (left_of from left last ends still image may) (λ it.
      let none : HasNoTables it.0 = subst HasNoTables (sym (there still it.0 it.2)) (found_nothing from _ nothing (finds.found (clean still)).reads) in
      let r : (trees : Trees) × HoldsDatabase image trees × HasNoTables trees = (it.0, it.1, none) in r))

  kept_closed : KeepsFound from (Closed last)
  kept_closed = record {
    stays = stays;
    begins = begins;
    store = store_stays from (Closed last) (λ now. ⊥) either;
    earlier = earlier_stays from (Closed last) (λ now. ⊥) either;
  }

kept_read : {D : Type 0} {g : Ghosts D} (from : Image) (found left : Held (FileStore D g)) (ended : Ended D g) → HasFound from found → IsAtRest (file_state found)
    → OnlyReads (file_state found) (file_state left) → IsEndOf left ended → KeepsFound from ended
kept_read from found left Nothing finds rests reads ends = absurd ends
kept_read from found left (Left it) finds rests reads ends = absurd ends
kept_read from found left (Closed last) finds rests reads ends = kept_closed from found left finds rests reads last ends

-- ---- what is told of the bureau's own store

some_told : (one other : CheckFault) → ◌≡◌ {A = Option CheckFault} (Some one) (Some other) → one ≡ other
some_told one other same = cc

unplaced : {P : Type 0} (one other : CheckFault) (place : CheckPlace) → one ≡ other → one.place ≡ None → other.place ≡ Some place → P
unplaced one other place same none some =
    absurd (let both : ◌≡◌ {A = Option CheckPlace} None (Some place) = sym none ∙ ap (λ (told : CheckFault). told.place) same ∙ some in cc)

same_fault : (one other : StoreFault) → in_no_table (of_store one) ≡ in_no_table (of_store other) → one ≡ other
same_fault one other same = told_once one other (ap (λ (told : CheckFault). told.fault) same)

-- its tables and their version are found
ours_seen : (database : Database) → IsOurs database → (finding : Finding) (told : CheckFault) (fault : StoreFault) → told ≡ in_no_table (of_store fault)
    → IsToldAs finding told → IsFound database finding → IsOfRead fault
ours_seen database ours Whole told fault is said found = absurd said
ours_seen database ours OtherTables told fault is said found = absurd (found.0 ours.schema)
ours_seen database ours OtherOrder told fault is said found = absurd (found.0 ours.schema)
ours_seen database ours OtherVersion told fault is said found = absurd (found.1 (ap (map (shown (2 ∷ []))) ours.rows.version))
ours_seen database ours (WrongRow table) told fault is said found = unplaced (in_no_table (of_store fault)) _ (Table table) (sym is ∙ said) refl refl
ours_seen database ours NoPublisher told fault is said found = unplaced (in_no_table (of_store fault)) _ (Table Caller) (sym is ∙ said) refl refl

module _ {D : Type 0} {g : Ghosts D} (from : Image) (found left : Held (FileStore D g)) (finds : HasFound from found) (reads : OnlyReads (file_state found) (file_state left))
    (last : FileStore D g) (ends : HasEnded left last) where
  wrong_known : (told : CheckFault) → IsWrong (file_state found) (file_state left) told → IsClean (view last) → (before : Tables) → HoldsStore from before
      → (fault : StoreFault) → told ≡ in_no_table (of_store fault) → IsOfRead fault
  wrong_known told (inl (refused, is, why)) still before holds fault also =
      subst IsOfRead (same_fault refused fault (sym is ∙ also)) (known_of_found from found left finds reads last ends still before holds refused why)
  wrong_known told (inr (inl (finding, said, seen))) still before holds fault also =
      ours_seen (file_state found).committed (ours_found from found left finds reads last ends still before holds) finding told fault also said (seen (ends.clean still))
  wrong_known told (inr (inr (inl memory))) still before holds fault also = subst IsOfRead (same_fault Memory fault (sym memory ∙ also)) tt
  wrong_known told (inr (inr (inr device))) still before holds fault also = subst IsOfRead (same_fault Device fault (sym device.0 ∙ also)) tt

  faults_closed : (outcome : Option CheckFault) (old new : Option (List ℕ)) → IsCheckOutput outcome (file_state found) (file_state left) old new
      → TellsOnly IsOfRead (λ fault. outcome ≡ Some (in_no_table (of_store fault))) from (Closed last)
  faults_closed None old new output still _ before holds fault is = absurd cc
  faults_closed (Some told) old new (inl cut) still _ before holds fault is =
      absurd (no_store_fault fault (ap (λ (it : CheckFault). it.fault) (sym cut.0 ∙ some_told told _ is)))
  faults_closed (Some told) old new (inr wrong) still _ before holds fault is = wrong_known told wrong.0 still before holds fault (some_told told _ is)

faults_read : {D : Type 0} {g : Ghosts D} (from : Image) (found left : Held (FileStore D g)) (ended : Ended D g) → HasFound from found
    → OnlyReads (file_state found) (file_state left) → IsEndOf left ended → (outcome : Option CheckFault) (old new : Option (List ℕ))
    → IsCheckOutput outcome (file_state found) (file_state left) old new → TellsOnly IsOfRead (λ fault. outcome ≡ Some (in_no_table (of_store fault))) from ended
faults_read from found left Nothing finds reads ends outcome old new output = absurd ends
faults_read from found left (Left it) finds reads ends outcome old new output = absurd ends
faults_read from found left (Closed last) finds reads ends outcome old new output = faults_closed from found left finds reads last ends outcome old new output

-- no connection could be made
faults_refused : {D : Type 0} {g : Ghosts D} (from : Image) (ended : Ended D g) (refused : StoreFault) (told : CheckFault) → told ≡ in_no_table (of_store refused)
    → IsRefused false from refused ended → TellsOnly IsOfRead (λ fault. Some told ≡ Some (in_no_table (of_store fault))) from ended
faults_refused from Nothing refused told is why well some before holds fault also = absurd (some tt)
faults_refused from (Left it) refused told is why well _ before holds fault also =
    subst IsOfRead (same_fault refused fault (sym is ∙ some_told told _ also)) (known_of_left from it refused why well)
faults_refused from (Closed last) refused told is why well _ before holds fault also = absurd why.left

module _ (explain : Bool) (asked asked_after : Asked) (from : Image) {D : Type 0} {g : Ghosts D} (ended : Ended D g) (name : List ℕ) (outputs : Outputs) (status : ℕ) where
  -- a connection was made, its store was looked through, and it was ended
  pub looked_through : (found left : Held (FileStore D g)) → HasFound from found → IsEndOf left ended → IsAtRest (file_state found) → OnlyReads (file_state found) (file_state left)
      → IsCheckRun explain (λ outcome. IsCheckOutput outcome (file_state found) (file_state left) outputs.output outputs.written) outputs.errors outputs.told status
      → AsksFor asked asked_after name Refuse from Connected → IsCheck explain asked asked_after from name outputs status ended
  looked_through found left finds ends rests reads run asks = record {
    checked = record {
      outcome = run.outcome;
      output = inr (record { found = found; finds = finds; left = left; used = (rests, run.output, reads); ends = ends });
      told = run.told;
      status_is = run.status_is;
    };
    faults = faults_read from found left ended finds reads ends run.outcome outputs.output outputs.written run.output;
    kept = kept_read from found left ended finds rests reads ends;
    asks = once_connected asked asked_after name Refuse from (λ (fault : StoreFault). run.outcome ≡ Some (in_no_table (of_store fault))) ended left ends asks;
  }

  -- no connection could be made
  pub not_connected : (refused : StoreFault) (told : CheckFault) → told ≡ in_no_table (of_store refused) → IsRefused false from refused ended → Keeps outputs.output outputs.written
      → IsCheckTold explain (Some told) outputs.errors outputs.told → status ≡ check_status (Some told) → AsksFor asked asked_after name Refuse from (refused_with refused ended)
      → IsCheck explain asked asked_after from name outputs status ended
  not_connected refused told is why keeps said status_is asks = record {
    checked = record { outcome = Some told; output = inl (refused, ap Some is, why, keeps); told = said; status_is = status_is };
    faults = faults_refused from ended refused told is why;
    kept = kept_found from ended why.left;
    asks = once_refused asked asked_after name Refuse from (λ (fault : StoreFault). Some told ≡ Some (in_no_table (of_store fault))) ended refused why.left (ap Some is) asks;
  }
