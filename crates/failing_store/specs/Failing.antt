-- How contracts look at a store in lists whose device fails: it is always clean, and open until a call
-- fails.
use Rattle.std.specs.Prelude.{◌≡◌, ◌≤◌}
use Rattle.catalogue.specs.View.{View}
use Rattle.bureau_store.specs.Lists.{IsOurs, tables_of}
use Rattle.bureau_store.specs.Tables.{Tables}
use Rattle.failing_store.specs.declared.store.FailingStore.{FailingStore}

abbrev pub failing_view : View FailingStore Tables
failing_view = record {
  stands = λ store this. store.failures ≡ 0 → tables_of store.lists ≡ this;
  is_clean = λ store. Unit {0};
  is_ours = λ store. IsOurs store.lists;
  failures = λ store. store.failures;
  may_leave = λ store this. tables_of store.lists ≡ this;
  keeps = λ old new. (new.lists ≡ old.lists) × (old.failures ≤ new.failures);
}
