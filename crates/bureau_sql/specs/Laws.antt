-- Laws on the view of a store in a database.
use Rattle.std.specs.Prelude.{◌≡◌, refl}
use Rattle.std.proofs.Common.{◌∙◌, ap, arith, inl, inr, subst, sym}
use Rattle.catalogue.specs.Content.{Content, IsInOrder}
use Rattle.catalogue.specs.View.{IsLawful, IsOpen, View, part_lawful, part_of}
use Rattle.bureau_store.specs.Store.{AreOfOneStore}
use Rattle.bureau_store.specs.Tables.{AreInOrder, Tables}
use Rattle.sqlite.specs.State.{HasCleanDisk}
use Rattle.sqlite_trees.specs.declared.store.Store.{Ghosts}
use Rattle.sql_tables.specs.Stored.{tables_of}
use Rattle.sql_tables.proofs.ChangeFacts.{tables_in_order}
use Rattle.sql_tables.specs.Ours.{IsOurs, held_by}
use Rattle.sql_tables.specs.Reading.{OnlyReads}
use Rattle.sql_tables.proofs.StopFacts.{no_read, read_on, was_clean}
use Rattle.bureau_sql.specs.SqlState.{SqlState}
use Rattle.bureau_sql.specs.SqlView.{IsOurStore, shown, sql_view, tables_in}

-- ---- the view

module _ {S : Type 0} (g : Ghosts S) where
  left_by : (old new : SqlState S) (this : Tables) → OnlyReads (shown g old) (shown g new) → HasCleanDisk (shown g new)
      → (sql_view g).may_leave new this → (sql_view g).may_leave old this
  left_by old new this reads clean left = elim (reads.survives.crash clean left.0 left.1) [
    | inl was ↦ (left.0, was, left.2)
    | inr none ↦ absurd none
  ]

  pub sql_lawful : IsLawful (sql_view g)
  sql_lawful = record {
    keeps = λ old new kept. record {
      goes = record {
        clean = was_clean (shown g old) (shown g new) (λ trees. ⊥) kept.reads.survives;
        ours = λ ours clean. (
          λ trees left. elim (kept.reads.survives.crash clean trees left) [
            | inl was ↦ ours.0 trees was
            | inr none ↦ absurd none
          ],
          λ standing.
              let first : old.failures ≡ 0 = omega (arith, kept.failures_rise, standing) in
              let is_open = kept.stays_open standing clean (ours.1 first).0 in
              (is_open, subst IsOurs (sym ((kept.reads.keeps clean).committed is_open)) (ours.1 first).1),
        );
        failures_rise = kept.failures_rise;
      };
      stays = λ ours clean this stands standing.
          let first : old.failures ≡ 0 = omega (arith, kept.failures_rise, standing) in
          let is_open = kept.stays_open standing clean (ours.1 first).0 in
          ap (λ database. tables_of (held_by database)) ((kept.reads.keeps clean).committed is_open) ∙ stands first;
      leaves = λ ours clean this left. left_by old new this kept.reads clean left;
    };
    itself = λ store. record { reads = no_read (shown g store); failures_rise = omega arith; stays_open = λ standing clean was. was };
    on = λ first second third sooner later. record {
      reads = read_on (shown g first) (shown g second) (shown g third) sooner.reads later.reads;
      failures_rise = omega (arith, sooner.failures_rise, later.failures_rise);
      stays_open = λ standing clean was.
          let between : second.failures ≡ 0 = omega (arith, later.failures_rise, standing) in
          let before = was_clean (shown g second) (shown g third) (λ trees. ⊥) later.reads.survives clean in
          later.stays_open standing clean (sooner.stays_open between before was);
    };
    one = λ store standing this other first second. sym (first standing) ∙ second standing;
  }

  pub sql_in_order : (store : SqlState S) (this : Tables) → IsOurStore g store → IsOpen (sql_view g) store → (sql_view g).stands store this → AreInOrder this
  sql_in_order store this ours standing stands = subst AreInOrder (stands standing) (tables_in_order (held_by (shown g store).committed))

  pub sql_holds_tables : (store : SqlState S) → IsOurStore g store → IsOpen (sql_view g) store → (this : Tables) × (sql_view g).stands store this
  sql_holds_tables store ours standing = (tables_in g store, λ open_still. refl)

  -- ---- and with what is published alone

  abbrev pub sql_content_view : View (SqlState S) Content
  sql_content_view = part_of (λ tables. tables.content) (sql_view g)

  pub sql_content_lawful : IsLawful sql_content_view
  sql_content_lawful = part_lawful (λ tables. tables.content) (sql_view g) sql_lawful

  pub sql_shows_content : AreOfOneStore sql_content_view (sql_view g)
  sql_shows_content = record {
    keeps = λ old new kept. kept;
    clean = λ store clean. clean;
    ours = λ store ours. ours;
    failures = λ store. refl;
    stands = λ store this stands. (this, stands, refl);
  }

  pub sql_content_in_order : (store : SqlState S) (this : Content) → IsOurStore g store → IsOpen sql_content_view store → sql_content_view.stands store this → IsInOrder this
  sql_content_in_order store this ours standing stands = subst IsInOrder stands.2 (sql_in_order store stands.0 ours standing stands.1).content
