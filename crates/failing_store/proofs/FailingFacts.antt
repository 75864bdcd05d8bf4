-- A store in lists that counts its failures: what a change of it keeps to.
use Rattle.std.proofs.Common.{◌≡◌, ◌∙◌, ◌<◌, ◌≤◌, ◌⊎◌, inr, inl, ap, arith, refl, subst, sym, Result, Ok, Err, IfErr, OnErr, OnOk}
use Rattle.catalogue.specs.View.{most_failures}
use Rattle.catalogue.proofs.SourceFacts.{no_fault}
use Rattle.bureau_store.proofs.StoreFacts.{not_device, not_size}
use Rattle.bureau_store.specs.Lists.{IsOurs, Lists, tables_of}
use Rattle.bureau_store.specs.Store.{IsOfRead, Makes, Update, updated}
use Rattle.bureau_store.specs.Tables.{Tables}
use Rattle.bureau_store.specs.declared.fault.StoreFault.{StoreFault}
use Rattle.bureau_store.specs.declared.fault.StoreFault.TheVariants.{Device, Memory, Size}
use Rattle.failing_store.specs.Failing.{failing_view}
use Rattle.failing_store.specs.declared.store.FailingStore.{FailingStore}

device_not_size : {A : Type 0} → ◌≡◌ {A = Result A StoreFault} (Err Device) (Err Size) → ⊥
device_not_size same = cc

ok_not_size : {A : Type 0} (a : A) → ◌≡◌ {A = Result A StoreFault} (Ok a) (Err Size) → ⊥
ok_not_size a same = cc

abbrev Changes : {Done : Type 0} → Update → FailingStore → FailingStore → Result Done StoreFault → Type 0
Changes asked old new answer = Makes failing_view (λ update before after. ⊥) asked old new answer

-- the device failed, and nothing was made
pub not_made : {Done : Type 0} (asked : Update) (old new : FailingStore) → new.lists ≡ old.lists → old.failures ≤ new.failures
    → (0 < new.failures) × ((old.failures < new.failures) ⊎ (new.failures ≡ most_failures)) → Changes {Done = Done} asked old new (Err Device)
not_made asked old new same rises failed = record {
  goes = record { clean = λ h. h; ours = λ ours clean. subst IsOurs (sym same) ours; failures_rise = rises };
  done = tt;
  refused = λ ours clean this stands is_open. absurd (omega (arith, failed.0, is_open));
  refusal = tt;
  cause = λ _. failed.1;
  is_open = λ none. absurd (none refl);
  size = device_not_size;
  crash = λ ours clean this due stands left h. inl (ap tables_of (sym same) ∙ h);
  settled = λ ours clean is_open this stands left h. absurd (omega (arith, failed.0, is_open));
}

module _ {Done : Type 0} (asked : Update) (old new : FailingStore) (mid : Lists) (same : mid ≡ old.lists) (works : (old.failures ≡ 0) × (new.failures ≡ 0)) (in_order : IsOurs new.lists) where
  done_as : (done : Done) → tables_of new.lists ≡ updated asked (tables_of mid) → Changes {Done = Done} asked old new (Ok done)
  done_as done made =
      let from : (this : Tables) → tables_of old.lists ≡ this → tables_of new.lists ≡ updated asked this =
      λ this stands. made ∙ ap (λ l. updated asked (tables_of l)) same ∙ ap (updated asked) stands in
      record {
        goes = record { clean = λ h. h; ours = λ _ _. in_order; failures_rise = omega (arith, works.0, works.1) };
        done = λ ours clean this due stands is_open. from this (stands works.0);
        refused = tt;
        refusal = tt;
        cause = λ fault. absurd (no_fault done fault);
        is_open = λ none. works.1;
        size = ok_not_size done;
        crash = λ ours clean this due stands left h. inr (works.0, sym h ∙ from this (stands works.0));
        settled = λ ours clean is_open this stands left h. sym h ∙ stands works.1;
      }

  refused_as : tables_of new.lists ≡ tables_of mid → Changes {Done = Done} asked old new (Err Memory)
  refused_as kept =
      let from : tables_of new.lists ≡ tables_of old.lists = kept ∙ ap tables_of same in
      record {
        goes = record { clean = λ h. h; ours = λ _ _. in_order; failures_rise = omega (arith, works.0, works.1) };
        done = tt;
        refused = λ ours clean this stands is_open. from ∙ stands works.0;
        refusal = tt;
        cause = λ fault. absurd (not_device fault);
        is_open = λ none. works.1;
        size = not_size;
        crash = λ ours clean this due stands left h. inl (sym from ∙ h);
        settled = λ ours clean is_open this stands left h. sym h ∙ stands works.1;
      }

  -- the lists made the change, or memory ran out
  pub made_so : (answer : Result Done StoreFault) → OnOk answer (tables_of new.lists ≡ updated asked (tables_of mid))
      → OnErr answer (tables_of new.lists ≡ tables_of mid) → IfErr answer (λ fault. fault ≡ Memory) → Changes asked old new answer
  made_so (Ok done) made kept memory = done_as done made
  made_so (Err fault) made kept memory = subst (λ f. Changes {Done = Done} asked old new (Err f)) (sym memory) (refused_as kept)

-- want of memory is told of reads too
pub short_as_read : {Done : Type 0} (answer : Result Done StoreFault) → IfErr answer (λ fault. fault ≡ Memory) → IfErr answer IsOfRead
short_as_read (Ok done) memory = tt
short_as_read (Err fault) memory = subst IsOfRead (sym memory) tt
