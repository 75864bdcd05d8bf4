-- A read of a connection, and how it is told, are a read of the store.
use Rattle.std.proofs.Common.{◌≡◌, ◌≢◌, ◌∙◌, Err, IfOk, IsTrue, Ok, Result, ap, arith, inl, inr, subst, sym}
use Rattle.catalogue.specs.View.{Asks, HasFailed, Tells}
use Rattle.bureau_store.specs.Tables.{Tables}
use Rattle.sqlite.specs.State.{HasCleanDisk}
use Rattle.sqlite_trees.specs.declared.store.Store.{Ghosts}
use Rattle.sql_tables.specs.Stored.{Stored, tables_of}
use Rattle.sql_tables.specs.Ours.{IsOurs, held_by}
use Rattle.sql_tables.specs.Reading.{Finds}
use Rattle.sql_tables.proofs.StopFacts.{read_on}
use Rattle.bureau_sql.specs.SqlState.{SqlState}
use Rattle.bureau_sql.specs.SqlView.{Stays, shown, sql_view}
use Rattle.bureau_sql.specs.Told.{IsTold}

module _ {S : Type 0} (g : Ghosts S) where
  pub failed_since : (old mid new : SqlState S) → mid.failures ≡ old.failures → HasFailed (sql_view g) mid new → HasFailed (sql_view g) old new
  failed_since old mid new same (inl more) = inl (omega (arith, same, more))
  failed_since old mid new same (inr most) = inr most

  pub never_failed : (old new : SqlState S) → HasFailed (sql_view g) old new → new.failures ≢ 0
  never_failed old new (inl more) none = omega (arith, more, none)
  never_failed old new (inr most) none = omega (arith, most, none)

  module _ {Answer Fault Refusal : Type 0} (device : Refusal) (old mid new : SqlState S) (found : Result Answer Fault) (Fact : Stored → Answer → Type 0)
      (standing : old.failures ≡ 0) (same : mid.failures ≡ old.failures) (finds : Finds (shown g old) (shown g mid) found Fact) where
    found_open : (answer : Answer) → found ≡ Ok answer → new ≡ mid → HasCleanDisk (shown g new) → IsTrue (shown g new).is_open
    found_open answer is left clean =
        let before : HasCleanDisk (shown g mid) = subst (λ it. HasCleanDisk (shown g it)) left clean in
        let is_open = subst (λ it. IfOk it (λ answer. HasCleanDisk (shown g mid) → IsTrue (shown g mid).is_open)) is finds.is_open in
        subst (λ it. IsTrue (shown g it).is_open) (sym left) (is_open before)

    stays : (answer : Result Answer Refusal) → IsTold g device mid new found answer → Stays g old new
    stays (Ok answer) told = record {
      reads = read_on (shown g old) (shown g mid) (shown g new) finds.reads told.reads;
      failures_rise = omega (arith, standing);
      stays_open = λ none clean was. found_open answer told.told.0 told.told.1 clean;
    }
    stays (Err refusal) told = record {
      reads = read_on (shown g old) (shown g mid) (shown g new) finds.reads told.reads;
      failures_rise = omega (arith, standing);
      stays_open = λ none clean was. elim told.refused [
        | inl failed ↦ absurd (never_failed mid new failed.1 none)
        | inr kept ↦ kept.2 clean
      ];
    }

    pub asks : (answer : Result Answer Refusal) → IsTold g device mid new found answer → Asks (sql_view g) device old new answer
    asks (Ok answer) told = record {
      keeps = stays (Ok answer) told;
      cause = λ is. absurd cc;
      is_open = λ none. subst (λ it. it.failures ≡ 0) (sym told.told.1) (same ∙ standing);
    }
    asks (Err refusal) told = elim told.refused [
      | inl failed ↦ record {
        keeps = stays (Err refusal) told;
        cause = λ is. failed_since old mid new same failed.1;
        is_open = λ none. absurd (none (ap Err failed.0));
      }
      | inr kept ↦ record {
        keeps = stays (Err refusal) told;
        cause = λ is. absurd (let one : refusal ≡ device = cc in kept.0 one);
        is_open = λ none. kept.1 ∙ same ∙ standing;
      }
    ]

    pub tells : (Meaning : Tables → Answer → Type 0) → ((stored : Stored) (answer : Answer) → Fact stored answer → Meaning (tables_of stored) answer)
        → (answer : Result Answer Refusal) → IsTold g device mid new found answer
        → IfOk answer (λ answer. Tells (sql_view g) old new (λ this. Meaning this answer))
    tells Meaning means (Ok answer) told = record {
      told = λ ours clean this stands.
          let before : HasCleanDisk (shown g mid) = subst (λ it. HasCleanDisk (shown g it)) told.told.1 clean in
          let fact = subst (λ it. IfOk it (λ answer. HasCleanDisk (shown g mid) → IsOurs (shown g old).committed → Fact (held_by (shown g old).committed) answer)) told.told.0 finds.told in
          subst (λ tables. Meaning tables answer) (stands standing) (means (held_by (shown g old).committed) answer (fact before (ours.1 standing).1));
    }
    tells Meaning means (Err refusal) told = tt
