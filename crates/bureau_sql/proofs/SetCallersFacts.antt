-- The callers before are read, and then those of a callers file are the store's.
use Rattle.std.proofs.Common.{◌≡◌, ◌∙◌, Err, Ok, Result, ap, subst, sym}
use Rattle.std.specs.Prelude.{List, map}
use Rattle.std.specs.List.Sorted.{IsPermutation}
use Rattle.catalogue.specs.View.{Tells}
use Rattle.bureau_store.specs.SetCallers.{ChangesTo, SetsCallers, counts_of, with_callers}
use Rattle.bureau_store.specs.Store.{Reads}
use Rattle.bureau_store.specs.Tables.{NamesAscend}
use Rattle.bureau_store.specs.declared.caller.CallerRow.{CallerRow}
use Rattle.bureau_store.specs.declared.fault.StoreFault.{StoreFault}
use Rattle.bureau_store.specs.declared.fault.StoreFault.TheVariants.{Memory, Device}
use Rattle.bureau_store.specs.declared.set_callers.CallerCounts.{CallerCounts}
use Rattle.sqlite_trees.specs.declared.store.Store.{Ghosts}
use Rattle.sql_tables.proofs.SetCallersFacts.{same_counts}
use Rattle.bureau_sql.specs.SqlState.{SqlState}
use Rattle.bureau_sql.specs.SqlView.{IsAtRest, shown, sql_view}
use Rattle.bureau_sql.proofs.ChangedFacts.{done_with, of_call, read_only, read_then, refused_with}

module _ {S : Type 0} (g : Ghosts S) (rows : List CallerRow) where
  -- the callers before can't be read
  unread : {Answer : Type 0} (old new : SqlState S) (fault : StoreFault) → Reads (sql_view g) {Answer = Answer} old new (Err fault) → IsAtRest (shown g new)
      → SetsCallers (sql_view g) rows old new (Err fault)
  unread {Answer} old new fault reads rests = record {
    changes = read_only g (λ this. Unit {0}) (with_callers rows) {Answer = Answer} old new (Err fault) fault reads.asks rests (of_call fault reads.refusal)
        (λ is. ap Err is) (λ other is. other (let one : fault ≡ Device = cc in one));
    counts = tt;
  }

  pub not_read : {Answer : Type 0} (old new : SqlState S) (fault : StoreFault) → Reads (sql_view g) {Answer = Answer} old new (Err fault) → IsAtRest (shown g new)
      → (answer : Result CallerCounts StoreFault) → answer ≡ Err fault → SetsCallers (sql_view g) rows old new answer
  not_read {Answer} old new fault reads rests answer is = subst (SetsCallers (sql_view g) rows old new) (sym is) (unread {Answer = Answer} old new fault reads rests)

  -- memory ran out as they were counted
  pub not_counted : {Answer : Type 0} (old new : SqlState S) (a : Answer) → Reads (sql_view g) old new (Ok a) → IsAtRest (shown g new)
      → (answer : Result CallerCounts StoreFault) → answer ≡ Err Memory → SetsCallers (sql_view g) rows old new answer
  not_counted old new a reads rests answer is = subst (SetsCallers (sql_view g) rows old new) (sym is) (record {
    changes = read_only g (λ this. Unit {0}) (with_callers rows) old new (Ok a) Memory reads.asks rests tt (λ is. absurd cc) (λ other is. absurd cc);
    counts = tt;
  })

  -- the callers that were read, as they are handed on
  handed_on : (old mid : SqlState S) (items found : List CallerRow) → found ≡ items → Tells (sql_view g) old mid (λ this. IsPermutation this.callers items)
      → Tells (sql_view g) old mid (λ this. IsPermutation this.callers found)
  handed_on old mid items found same read = record {
    told = λ ours clean this stands. subst (λ (these : List CallerRow). IsPermutation this.callers these) (sym same) (read.told ours clean this stands);
  }

  module _ (old mid new : SqlState S) (items found : List CallerRow) (same : found ≡ items) {Answer Done : Type 0} (a : Answer) (reads : Reads (sql_view g) old mid (Ok a))
      (read : Tells (sql_view g) old mid (λ this. IsPermutation this.callers items)) where
    -- those of the file are refused
    pub not_set : (fault : StoreFault) → ChangesTo (sql_view g) {Done = Done} (λ this. IsPermutation this.callers found) (with_callers rows) mid new (Err fault)
        → (answer : Result CallerCounts StoreFault) → answer ≡ Err fault → SetsCallers (sql_view g) rows old new answer
    not_set fault refused answer is = subst (SetsCallers (sql_view g) rows old new) (sym is) (record {
      changes = refused_with g (λ this. Unit {0}) (with_callers rows) {Done = Done} old new fault
          (read_then g (λ this. IsPermutation this.callers found) (with_callers rows) old mid new a (Err fault) reads.asks (handed_on old mid items found same read) refused);
      counts = tt;
    })

    -- or they are the callers
    pub are_set : (first : List CallerRow) → first ≡ items → (done : Done) (counts : CallerCounts) → NamesAscend (map (λ row. row.name) items) → counts ≡ counts_of first rows
        → ChangesTo (sql_view g) (λ this. IsPermutation this.callers found) (with_callers rows) mid new (Ok done) → SetsCallers (sql_view g) rows old new (Ok counts)
    are_set first first_is done counts ascend are set = record {
      changes = done_with g (λ this. Unit {0}) (with_callers rows) old new done counts
          (read_then g (λ this. IsPermutation this.callers found) (with_callers rows) old mid new a (Ok done) reads.asks (handed_on old mid items found same read) set);
      counts = record {
        told = λ ours clean this stands. are ∙ ap (λ (these : List CallerRow). counts_of these rows) first_is
            ∙ same_counts items this.callers ascend (read.told ours (set.goes.clean clean) this stands) rows;
      };
    }
