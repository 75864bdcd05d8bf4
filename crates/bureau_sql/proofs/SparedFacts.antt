-- Reads of all tables, one after the other, where some can be spared.
use Rattle.std.proofs.Common.{◌≡◌, ◌∙◌, ◌==◌, ◌&&◌, ℕ, filter, Err, IfOk, IfSome, IsTrue, List, [], None, Ok, Option, Result, Some, ap, refl, subst, sym}
use Rattle.std.specs.Prelude.{option_map, unwrap_or}
use Rattle.std.specs.Global.{Vec}
use Rattle.std.specs.Result.{result_map_both, result_ok}
use Rattle.catalogue.specs.View.{IsLawful, IsOpen, Tells, View}
use Rattle.catalogue.proofs.SourceFacts.{no_fault, told_both, told_later, told_so}
use Rattle.bureau_store.specs.Store.{Reads}
use Rattle.bureau_store.specs.Tables.{Tables, ZoneTable, rows_of, zone_named}
use Rattle.bureau_store.specs.Held.{held_in}
use Rattle.bureau_store.specs.declared.fault.StoreFault.{StoreFault}
use Rattle.bureau_store.specs.declared.fault.StoreFault.TheVariants.{Device, Memory, Shape, Size, Version}
use Rattle.holddata.specs.HoldKey.{kind_order}
use Rattle.holddata.specs.declared.hold.Hold.{Hold}
use Rattle.holddata.specs.declared.key.Kind.{Kind}
use Rattle.lemmas.proofs.ResultFacts.{if_some, ok_so, some_is}
use Rattle.sqlite.specs.State.{HasCleanDisk, State}
use Rattle.sqlite_trees.specs.declared.store.Store.{Ghosts}
use Rattle.sql_tables.specs.Ours.{IsOurs, held_by}
use Rattle.sql_tables.specs.Reading.{Finds}
use Rattle.sql_tables.specs.Stored.{Stored, tables_of}
use Rattle.zone_lists.specs.Installed.{is_installed}
use Rattle.zone_lists.specs.declared.zones.ZoneRow.{ZoneRow}
use Rattle.bureau_sql.specs.Recent.{IsBookOf, IsRecent, RecentLists}
use Rattle.bureau_sql.specs.Laws.{sql_lawful}
use Rattle.bureau_sql.specs.Spared.{spared}
use Rattle.bureau_sql.specs.SqlState.{SqlState}
use Rattle.bureau_sql.specs.SqlView.{shown, sql_view, tables_in}
use Rattle.bureau_sql.proofs.SeenFacts.{failed_after}

module _ {Source : Type 0} (view : View Source Tables) where
  -- a read after others is a read from where they began
  pub read_after : {Answer : Type 0} (lawful : IsLawful view) (old mid new : Source) (answer : Result Answer StoreFault) → view.keeps old mid → Reads view mid new answer → Reads view old new answer
  read_after lawful old mid new answer keeps reads = record {
    asks = record {
      keeps = lawful.on old mid new keeps reads.asks.keeps;
      cause = λ is. failed_after view lawful old mid new keeps (reads.asks.cause is);
      is_open = reads.asks.is_open;
    };
    refusal = reads.refusal;
  }

  -- and what it tells was so when they began
  pub told_after : {Answer : Type 0} (lawful : IsLawful view) (old mid new : Source) (answer : Result Answer StoreFault) (Fact : Answer → Tables → Type 0) → view.keeps old mid → view.keeps mid new
      → IfOk answer (λ it. Tells view mid new (Fact it)) → IfOk answer (λ it. Tells view old new (Fact it))
  told_after lawful old mid new answer Fact sooner later tells = ok_so answer tells (λ it told. told_later (lawful.keeps old mid sooner) (lawful.keeps mid new later) told)

  -- any answer of a source that is open
  pub answered_so : {Answer Other : Type 0} (old new : Source) (answer : Answer) (other : Other) → Reads view old new (Ok answer) → Reads view old new (Ok other)
  answered_so old new answer other reads = record {
    asks = record { keeps = reads.asks.keeps; cause = λ is. absurd (no_fault other is); is_open = λ none. reads.asks.is_open (no_fault answer) };
    refusal = tt;
  }

  -- the same fault, of another answer
  pub refused_so : {Answer Other : Type 0} (old new : Source) (fault : StoreFault) (other : Result Other StoreFault) → other ≡ Err fault → Reads view {Answer = Answer} old new (Err fault) → Reads view old new other
  refused_so {Answer} {Other} old new fault other is reads = subst (Reads view old new) (sym is) (record {
    asks = record {
      keeps = reads.asks.keeps;
      cause = λ told. reads.asks.cause (let same : fault ≡ Device = cc in ap Err same);
      is_open = λ none. reads.asks.is_open (λ told. none (let same : fault ≡ Device = cc in ap Err same));
    };
    refusal = reads.refusal;
  })

  spares : {Answer : Type 0} (old new : Source) (answer : Result Answer StoreFault) → Reads view old new answer → Reads view old new (spared answer)
  spares old new (Ok answer) reads = answered_so old new answer (Some answer) reads
  spares old new (Err Memory) reads = record {
    asks = record { keeps = reads.asks.keeps; cause = λ is. absurd cc; is_open = λ none. reads.asks.is_open (λ is. absurd cc) };
    refusal = tt;
  }
  spares old new (Err Device) reads = refused_so old new Device (Err Device) refl reads
  spares old new (Err Size) reads = absurd reads.refusal
  spares old new (Err Shape) reads = absurd reads.refusal
  spares old new (Err Version) reads = absurd reads.refusal

  -- after a read that can be spared, any answer is that of a read
  pub spared_on : {Answer Other : Type 0} (old new : Source) (answer : Result Answer StoreFault) (it : Option Answer) (other : Other) → Ok it ≡ spared answer → Reads view old new answer → Reads view old new (Ok other)
  spared_on old new answer it other is reads = answered_so old new it other (subst (Reads view old new) (sym is) (spares old new answer reads))

  -- and if it is refused, so is what asked for it
  pub spared_refused : {Answer Other : Type 0} (old new : Source) (answer : Result Answer StoreFault) (fault : StoreFault) (other : Result Other StoreFault) → Err fault ≡ spared answer → other ≡ Err fault
      → Reads view old new answer → Reads view old new other
  spared_refused {Answer} old new answer fault other is told reads = refused_so {Answer = Option Answer} old new fault other told (subst (Reads view old new) (sym is) (spares old new answer reads))

-- what it found, was answered
pub spared_answer : {Answer : Type 0} (answer : Result Answer StoreFault) (it : Answer) → spared answer ≡ Ok (Some it) → answer ≡ Ok it
spared_answer (Ok answer) it is = let same : answer ≡ it = cc in ap Ok same
spared_answer (Err Memory) it is = cc
spared_answer (Err Device) it is = cc
spared_answer (Err Size) it is = cc
spared_answer (Err Shape) it is = cc
spared_answer (Err Version) it is = cc

-- what is kept of what a read found
pub finds_kept : {Answer Fault : Type 0} (old new : State) (found : Result Answer Fault) (kept : Result (Unit {0}) Fault) (Fact : Stored → Answer → Type 0)
    → kept ≡ result_map_both (λ answer. tt) (λ fault. fault) found → Finds old new found Fact → Finds old new kept (λ stored answer. Unit {0})
finds_kept old new (Ok answer) kept Fact is finds = subst (λ it. Finds old new it (λ stored answer. Unit {0})) (sym is) (record { reads = finds.reads; is_open = finds.is_open; told = λ clean ours. tt })
finds_kept old new (Err fault) kept Fact is finds = subst (λ it. Finds old new it (λ stored answer. Unit {0})) (sym is) (record { reads = finds.reads; is_open = tt; told = tt })

-- a fact of the tables of an open store is told after what keeps them
pub told_here : {S : Type 0} (g : Ghosts S) (old new : SqlState S) (Fact : Tables → Type 0) → (sql_view g).keeps old new → IsOpen (sql_view g) new
    → (HasCleanDisk (shown g new) → IsTrue (shown g new).is_open → IsOurs (shown g new).committed → Fact (tables_in g new)) → Tells (sql_view g) old new Fact
told_here g old new Fact keeps standing so =
    told_later ((sql_lawful g).keeps old new keeps) ((sql_lawful g).keeps new new ((sql_lawful g).itself new)) (record {
      told = λ ours clean this stands. subst Fact (stands standing) (so clean (ours.1 standing).0 (ours.1 standing).1);
    })

-- these are the holds on rows, if the tables are known
abbrev AreHeldAt : State → List ZoneRow → Kind → Vec Hold → Type 0
AreHeldAt at rows kind holds = HasCleanDisk at → IsTrue at.is_open → IsOurs at.committed → holds.items ≡ held_in (tables_of (held_by at.committed)).content rows kind

-- they are found among those that are kept
pub held_of_book : {Fault : Type 0} (at : State) (recent : RecentLists) → IsRecent at recent → (book : List Hold) (zone rows : List ZoneRow) (kind : Kind) → recent.book ≡ Some book → zone ≡ rows
    → (result : Result (Vec Hold) Fault) → IfOk result (λ held. held.items ≡ filter (λ hold. is_installed zone hold.key.sysmod && (kind_order hold.key.kind == kind_order kind)) book)
    → (answer : Option (Vec Hold)) → answer ≡ result_ok result
    → IfSome answer (AreHeldAt at rows kind)
held_of_book {Fault = Fault} at recent was book zone rows kind is same result holds answer ok = subst (λ it. IfSome it (AreHeldAt at rows kind)) (sym ok) (by result holds)
  where
    by : (result : Result (Vec Hold) Fault) → IfOk result (λ held. held.items ≡ filter (λ hold. is_installed zone hold.key.sysmod && (kind_order hold.key.kind == kind_order kind)) book)
        → IfSome (result_ok result) (AreHeldAt at rows kind)
    by (Err fault) holds = tt
    by (Ok held) holds = λ clean is_open ours.
        let whole = some_is (IsBookOf (tables_of (held_by at.committed))) recent.book book is (was clean is_open ours).book in
        holds
        ∙ ap (λ list. filter (λ hold. is_installed zone hold.key.sysmod && (kind_order hold.key.kind == kind_order kind)) list) whole
        ∙ ap (λ list. held_in (tables_of (held_by at.committed)).content list kind) same

-- the rows of a zone, or none
rows_found : (found : Option (Vec ZoneRow)) (table : Option ZoneTable) (rows : List ZoneRow) → rows ≡ unwrap_or (option_map (λ rows. rows.items) found) []
    → option_map (λ rows. rows.items) found ≡ option_map (λ table. table.rows) table → rows ≡ rows_of table
rows_found found table rows is same = is ∙ ap (λ (it : Option (List ZoneRow)). unwrap_or it []) same ∙ by table
  where
    by : (table : Option ZoneTable) → unwrap_or (option_map (λ table. table.rows) table) [] ≡ rows_of table
    by None = refl
    by (Some table) = refl

module _ {S : Type 0} (g : Ghosts S) (client zone : List ℕ) (kind : Kind) where
  -- the holds on the rows of a zone
  abbrev AreHeld : List Hold → Tables → Type 0
  AreHeld holds tables = holds ≡ held_in tables.content (rows_of (zone_named zone (tables.zones client))) kind

  abbrev HasRows : Option (Vec ZoneRow) → Tables → Type 0
  HasRows found tables = option_map (λ rows. rows.items) found ≡ option_map (λ table. table.rows) (zone_named zone (tables.zones client))

  module _ (old new : SqlState S) (rows : List ZoneRow) (held : Option (Vec Hold))
      (so : IfSome held (λ holds. HasCleanDisk (shown g new) → IsTrue (shown g new).is_open → IsOurs (shown g new).committed → holds.items ≡ held_in (tables_in g new).content rows kind)) where
    held_on_rows : (found : Option (Vec ZoneRow)) → rows ≡ unwrap_or (option_map (λ rows. rows.items) found) [] → (sql_view g).keeps old new → IsOpen (sql_view g) new → Tells (sql_view g) old new (HasRows found)
        → IfSome held (λ holds. Tells (sql_view g) old new (AreHeld holds.items))
    held_on_rows found is keeps standing told =
        if_some (λ (holds : Vec Hold). Tells (sql_view g) old new (AreHeld holds.items)) held (λ holds some.
        told_so (told_both told (told_here g old new (λ tables. holds.items ≡ held_in tables.content rows kind) keeps standing (some_is _ held holds some so)))
        (λ tables facts. facts.1 ∙ ap (λ list. held_in tables.content list kind) (rows_found found (zone_named zone (tables.zones client)) rows is facts.0)))

    -- of a zone that was read, where the read could be spared
    pub held_on_zone : (answer : Result (Option (Vec ZoneRow)) StoreFault) (found : Option (Vec ZoneRow)) → spared answer ≡ Ok (Some found) → rows ≡ unwrap_or (option_map (λ rows. rows.items) found) []
        → Reads (sql_view g) old new answer → IfOk answer (λ found. Tells (sql_view g) old new (HasRows found)) → IfSome held (λ holds. Tells (sql_view g) old new (AreHeld holds.items))
    held_on_zone answer found spares is reads told =
        let answers = spared_answer answer found spares in
        held_on_rows found is reads.asks.keeps (reads.asks.is_open (λ fault. no_fault {device = Device} found (sym answers ∙ fault))) (subst (λ it. IfOk it (λ found. Tells (sql_view g) old new (HasRows found))) answers told)
