-- What a store has read since its last change stays so over reads.
use Rattle.std.proofs.Common.{◌≡◌, ◌∙◌, ◌⊎◌, ℕ, IfOk, IfSome, IsTrue, List, None, Ok, Option, Result, Some, ap, inl, inr, length, map, subst, sym}
use Rattle.std.specs.Global.{Vec}
use Rattle.std.specs.List.{Contains}
use Rattle.std.specs.Option.{option_map}
use Rattle.bureau_store.specs.Caller.{caller_with}
use Rattle.bureau_store.specs.Tables.{zone_named}
use Rattle.bureau_store.specs.declared.caller.Caller.{Caller}
use Rattle.holddata.specs.declared.hold.Hold.{Hold}
use Rattle.sqlite.specs.State.{HasCleanDisk, State}
use Rattle.sql_tables.specs.Ours.{IsOurs, held_by}
use Rattle.sql_tables.specs.Reading.{OnlyReads}
use Rattle.zone_lists.specs.declared.zones.ZoneRow.{ZoneRow}
use Rattle.sql_tables.specs.Stored.{Stored, tables_of}
use Rattle.sql_tables.proofs.StopFacts.{was_clean}
use Rattle.bureau_sql.specs.Recent.{AreCountsOf, AreReadFrom, AreZonesOf, HasMore, HasNew, HasNoMore, IsBookOf, IsRecent, RecentLists}

-- what the committed rows are after a read, they were before
module _ (old new : State) (reads : OnlyReads old new) (Fact : Stored → Type 0) where
  pub fact_after : (HasCleanDisk old → IsTrue old.is_open → IsOurs old.committed → Fact (held_by old.committed))
      → HasCleanDisk new → IsTrue new.is_open → IsOurs new.committed → Fact (held_by new.committed)
  fact_after before clean is_open ours =
      let clean_before = was_clean old new (λ trees. ⊥) reads.survives clean in
      let kept = reads.keeps clean in
      let same = kept.committed is_open in
      subst (λ database. Fact (held_by database)) (sym same) (before clean_before (kept.was_open is_open) (subst IsOurs same ours))

pub recent_after : (old new : State) (recent : RecentLists) → OnlyReads old new → IsRecent old recent → IsRecent new recent
recent_after old new recent reads was = fact_after old new reads (λ stored. AreReadFrom (tables_of stored) recent) was

-- some of it may be gone
pub fewer_recent : (at : State) (old new : RecentLists) → HasNoMore old new → IsRecent at old → IsRecent at new
fewer_recent at old new fewer was clean is_open ours =
    let before = was clean is_open ours in
    record {
      tokens = λ read inside. before.tokens read (fewer.tokens read inside);
      zones = λ read inside. before.zones read (fewer.zones read inside);
      rows = λ read inside. before.rows read (fewer.rows read inside);
      counts = subst (λ it. IfSome it (AreCountsOf (tables_of (held_by at.committed)))) (sym fewer.counts) before.counts;
      book = subst (λ it. IfSome it (IsBookOf (tables_of (held_by at.committed)))) (sym fewer.book) before.book;
    }

-- what is read of those that are left, was there before
pub read_before : {Answer Read : Type 0} (read_of : Answer → Read) (own new old : List Read) → own ≡ old → ((one : Read) → Contains new one → Contains own one)
    → (result : Option Answer) → IfSome result (λ answer. Contains new (read_of answer)) → IfSome result (λ answer. Contains old (read_of answer))
read_before read_of own new old same fewer (Some answer) inside = subst (λ list. Contains list (read_of answer)) same (fewer (read_of answer) inside)
read_before read_of own new old same fewer None inside = tt

-- ---- what a read adds

-- what was found, where something was
found_is : {Found Fault : Type 0} (found : Result Found Fault) (answer : Found) (P : Found → Type 0) → found ≡ Ok answer → IfOk found P → P answer
found_is found answer P is holds = subst (λ it. IfOk it P) is holds

module _ (old mid : State) (recent recent' : RecentLists) (reads : OnlyReads old mid) (was : IsRecent old recent) {Fault : Type 0} where
  -- what is told of the rows that are committed
  abbrev Told : {Answer : Type 0} → Result Answer Fault → (Stored → Answer → Type 0) → Type 0
  Told found Fact = IfOk found (λ answer. HasCleanDisk mid → IsOurs old.committed → Fact (held_by old.committed) answer)

  told_of : {Answer : Type 0} (found : Result Answer Fault) (Fact : Stored → Answer → Type 0) (answer : Answer) → found ≡ Ok answer → Told found Fact
      → HasCleanDisk mid → IsTrue mid.is_open → IsOurs mid.committed → Fact (held_by mid.committed) answer
  told_of found Fact answer is told clean is_open ours =
      let same = (reads.keeps clean).committed is_open in
      let fact = found_is found answer (λ answer. HasCleanDisk mid → IsOurs old.committed → Fact (held_by old.committed) answer) is told in
      subst (λ database. Fact (held_by database) answer) (sym same) (fact clean (subst IsOurs same ours))

  pub tokens_more : (token : List ℕ) (found : Result (Option Caller) Fault) → Told found (λ stored answer. answer ≡ caller_with (tables_of stored).callers token)
      → HasMore (λ answer read. (answer ≡ Some read.caller) × (read.token ≡ token)) found recent.tokens recent'.tokens
      → (recent'.zones ≡ recent.zones) × (recent'.rows ≡ recent.rows) × (recent'.counts ≡ recent.counts) × (recent'.book ≡ recent.book) → IsRecent mid recent'
  tokens_more token found told more others clean is_open ours =
      let before = recent_after old mid recent reads was clean is_open ours in
      record {
        tokens = λ read inside. elim (more read inside) [
          | inl earlier ↦ before.tokens read earlier
          | inr now ↦
              let fact = told_of found (λ stored answer. answer ≡ caller_with (tables_of stored).callers token) now.0 now.1 told clean is_open ours in
              ap (caller_with (tables_of (held_by mid.committed)).callers) now.2.1 ∙ sym fact ∙ now.2.0
        ];
        zones = λ read inside. before.zones read (subst (λ list. Contains list read) others.0 inside);
        rows = λ read inside. before.rows read (subst (λ list. Contains list read) others.1 inside);
        counts = subst (λ it. IfSome it (AreCountsOf (tables_of (held_by mid.committed)))) (sym others.2) before.counts;
        book = subst (λ it. IfSome it (IsBookOf (tables_of (held_by mid.committed)))) (sym others.3) before.book;
      }

  pub zones_more : (client : List ℕ) (found : Result (Vec (List ℕ × ℕ)) Fault)
      → Told found (λ stored answer. answer.items ≡ map (λ zone. (zone.0, length zone.1.rows)) ((tables_of stored).zones client))
      → HasMore (λ answer read. read ≡ record { client = client; zones = answer.items }) found recent.zones recent'.zones
      → (recent'.tokens ≡ recent.tokens) × (recent'.rows ≡ recent.rows) × (recent'.counts ≡ recent.counts) × (recent'.book ≡ recent.book) → IsRecent mid recent'
  zones_more client found told more others clean is_open ours =
      let before = recent_after old mid recent reads was clean is_open ours in
      record {
        tokens = λ read inside. before.tokens read (subst (λ list. Contains list read) others.0 inside);
        zones = λ read inside. elim (more read inside) [
          | inl earlier ↦ before.zones read earlier
          | inr now ↦
              let fact = told_of found (λ stored answer. answer.items ≡ map (λ zone. (zone.0, length zone.1.rows)) ((tables_of stored).zones client)) now.0 now.1 told clean is_open ours in
              subst (AreZonesOf (tables_of (held_by mid.committed))) (sym now.2) fact
        ];
        rows = λ read inside. before.rows read (subst (λ list. Contains list read) others.1 inside);
        counts = subst (λ it. IfSome it (AreCountsOf (tables_of (held_by mid.committed)))) (sym others.2) before.counts;
        book = subst (λ it. IfSome it (IsBookOf (tables_of (held_by mid.committed)))) (sym others.3) before.book;
      }

  pub rows_more : (client zone : List ℕ) (found : Result (Option (Vec ZoneRow)) Fault)
      → Told found (λ stored answer. option_map (λ rows. rows.items) answer ≡ option_map (λ table. table.rows) (zone_named zone ((tables_of stored).zones client)))
      → HasMore (λ answer read. (option_map (λ rows. rows.items) answer ≡ Some read.rows) × (read.client ≡ client) × (read.zone ≡ zone)) found recent.rows recent'.rows
      → (recent'.tokens ≡ recent.tokens) × (recent'.zones ≡ recent.zones) × (recent'.counts ≡ recent.counts) × (recent'.book ≡ recent.book) → IsRecent mid recent'
  rows_more client zone found told more others clean is_open ours =
      let before = recent_after old mid recent reads was clean is_open ours in
      record {
        tokens = λ read inside. before.tokens read (subst (λ list. Contains list read) others.0 inside);
        zones = λ read inside. before.zones read (subst (λ list. Contains list read) others.1 inside);
        rows = λ read inside. elim (more read inside) [
          | inl earlier ↦ before.rows read earlier
          | inr now ↦
              let tables = tables_of (held_by mid.committed) in
              let fact = told_of found (λ stored answer. option_map (λ rows. rows.items) answer ≡ option_map (λ table. table.rows) (zone_named zone ((tables_of stored).zones client))) now.0 now.1 told clean is_open ours in
              let there : Some read.rows ≡ option_map (λ table. table.rows) (zone_named zone (tables.zones client)) = sym now.2.0 ∙ fact in
              subst (λ name. Some read.rows ≡ option_map (λ table. table.rows) (zone_named name (tables.zones read.client))) (sym now.2.2)
              (subst (λ owner. Some read.rows ≡ option_map (λ table. table.rows) (zone_named zone (tables.zones owner))) (sym now.2.1) there)
        ];
        counts = subst (λ it. IfSome it (AreCountsOf (tables_of (held_by mid.committed)))) (sym others.2) before.counts;
        book = subst (λ it. IfSome it (IsBookOf (tables_of (held_by mid.committed)))) (sym others.3) before.book;
      }

  pub counts_more : (found : Result (ℕ × ℕ) Fault) → Told found (λ stored answer. AreCountsOf (tables_of stored) answer)
      → HasNew (λ counts. counts) found recent.counts recent'.counts
      → (recent'.tokens ≡ recent.tokens) × (recent'.zones ≡ recent.zones) × (recent'.rows ≡ recent.rows) × (recent'.book ≡ recent.book) → IsRecent mid recent'
  counts_more found told more others clean is_open ours =
      let before = recent_after old mid recent reads was clean is_open ours in
      record {
        tokens = λ read inside. before.tokens read (subst (λ list. Contains list read) others.0 inside);
        zones = λ read inside. before.zones read (subst (λ list. Contains list read) others.1 inside);
        rows = λ read inside. before.rows read (subst (λ list. Contains list read) others.2 inside);
        counts = elim more [
          | inl same ↦ subst (λ it. IfSome it (AreCountsOf (tables_of (held_by mid.committed)))) (sym same) before.counts
          | inr now ↦
              let fact = told_of found (λ stored answer. AreCountsOf (tables_of stored) answer) now.0 now.1 told clean is_open ours in
              subst (λ it. IfSome it (AreCountsOf (tables_of (held_by mid.committed)))) (sym now.2) fact
        ];
        book = subst (λ it. IfSome it (IsBookOf (tables_of (held_by mid.committed)))) (sym others.3) before.book;
      }

  pub book_more : (found : Result (Vec Hold) Fault) → Told found (λ stored answer. answer.items ≡ (tables_of stored).content.holds)
      → HasNew (λ holds. holds.items) found recent.book recent'.book
      → (recent'.tokens ≡ recent.tokens) × (recent'.zones ≡ recent.zones) × (recent'.rows ≡ recent.rows) × (recent'.counts ≡ recent.counts) → IsRecent mid recent'
  book_more found told more others clean is_open ours =
      let before = recent_after old mid recent reads was clean is_open ours in
      record {
        tokens = λ read inside. before.tokens read (subst (λ list. Contains list read) others.0 inside);
        zones = λ read inside. before.zones read (subst (λ list. Contains list read) others.1 inside);
        rows = λ read inside. before.rows read (subst (λ list. Contains list read) others.2 inside);
        counts = subst (λ it. IfSome it (AreCountsOf (tables_of (held_by mid.committed)))) (sym others.3) before.counts;
        book = elim more [
          | inl same ↦ subst (λ it. IfSome it (IsBookOf (tables_of (held_by mid.committed)))) (sym same) before.book
          | inr now ↦
              let fact = told_of found (λ stored answer. answer.items ≡ (tables_of stored).content.holds) now.0 now.1 told clean is_open ours in
              subst (λ it. IfSome it (IsBookOf (tables_of (held_by mid.committed)))) (sym now.2) fact
        ];
      }

-- ---- what is kept

-- one more answer is kept, that was found
pub more_found : {Read Found Fault : Type 0} (Is : Found → Read → Type 0) (found : Result Found Fault) (old new : List Read) (kept : Read) (answer : Found) → found ≡ Ok answer → Is answer kept
    → ((one : Read) → Contains new one → Contains old one ⊎ (one ≡ kept)) → HasMore Is found old new
more_found Is found old new kept answer is holds put read inside = elim (put read inside) [
  | inl earlier ↦ inl earlier
  | inr now ↦ inr (answer, is, subst (Is answer) (sym now) holds)
]

-- the same, of a list that is known by another name
pub more_found_in : {Read Found Fault : Type 0} (Is : Found → Read → Type 0) (found : Result Found Fault) (own old new : List Read) (kept : Read) (answer : Found) → own ≡ old → found ≡ Ok answer → Is answer kept
    → ((one : Read) → Contains new one → Contains own one ⊎ (one ≡ kept)) → HasMore Is found old new
more_found_in Is found own old new kept answer same is holds put = subst (λ list. HasMore Is found list new) same (more_found Is found own new kept answer is holds put)
