-- Why a look is refused, over one read and over two.
use Rattle.std.proofs.Common.{◌≡◌, ◌∙◌, ℕ, Err, IfErr, IsTrue, List, Ok, Result, ap, inl, inr, subst, subst₂, sym}
use Rattle.std.proofs.lemmas.Bool.{cases_Bool}
use Rattle.std.specs.Prelude.{Option, Vec}
use Rattle.std.specs.declared.alloc.Global.{Global}
use Rattle.sqlite.specs.Effect.{Database}
use Rattle.sqlite.specs.Listing.{understood}
use Rattle.sqlite.specs.State.{HasCleanDisk, State}
use Rattle.sqlite_value.specs.Order.{Row}
use Rattle.sql_reads.specs.Answering.{Answers, IsRefusedFor}
use Rattle.sql_reads.specs.Version.{Shows}
use Rattle.sql_reads.specs.declared.fault.ReadFault.{ReadFault}
use Rattle.sql_reads.specs.declared.fault.ReadFault.TheVariants.{Device}
use Rattle.sql_tables.proofs.StopFacts.{failed_after, was_clean}
use Rattle.sql_tables.specs.Reading.{OnlyReads}
use Rattle.sql_texts.specs.Schema.{bureau}
use Rattle.sql_checks.specs.Refused.{IsAskedBy, IsCausedBy, IsUnread, IsUnsaid, IsUnseen, IsUnshown, IsWithheld, Question, of_rows, of_version}

-- one cause is another too
pub caused_so : (Cause Other : Option ℕ → Database → Type 0) (old new : State) → ((limit : Option ℕ) (database : Database) → Cause limit database → Other limit database)
    → IsCausedBy Cause old new → IsCausedBy Other old new
caused_so Cause Other old new step (inl failed) = inl failed
caused_so Cause Other old new step (inr cause) = inr (step old.step_limit old.committed cause)

-- a cause that is seen after a read was there before it
pub caused_after : (Cause : Option ℕ → Database → Type 0) (old mid new : State) → OnlyReads old mid → (HasCleanDisk mid → IsTrue old.is_open → IsTrue mid.is_open) → OnlyReads mid new
    → HasCleanDisk new → IsCausedBy Cause mid new → IsCausedBy Cause old new
caused_after Cause old mid new first stays second clean (inl failed) = inl (failed_after old mid new first (was_clean mid new _ second.survives clean) second.survives.counts failed)
caused_after Cause old mid new first stays second clean (inr cause) = elim (cases_Bool old.is_open) [
  | inl on ↦ (let between = was_clean mid new _ second.survives clean in inr (subst₂ Cause first.survives.limit ((first.keeps between).committed (stays between on)) cause))
  | inr off ↦ inl (inr off)
]

-- ---- one text

pub text_unshown : (what : Question) (text : List ℕ) → IsAskedBy what text → (old new : State) (fault : ReadFault) → (HasCleanDisk new → IsRefusedFor text what.params old new fault) → fault ≡ Device
    → HasCleanDisk new → IsCausedBy (IsUnshown what) old new
text_unshown what text asked old new fault refused device clean = elim (refused clean device) [
  | inl failed ↦ inl failed
  | inr why ↦ inr (text, asked, why)
]

-- ---- a database with the bureau's tables

withheld : (what : Question) (limit : Option ℕ) (database : Database) → database.schema ≡ bureau → IsUnshown what limit database → IsWithheld what limit database
withheld what limit database has unshown = elim unshown.2 [
  | inl nothing ↦ absurd (nothing _ (ap (λ schema. understood schema unshown.0) has ∙ unshown.1.statement))
  | inr why ↦ (unshown.0, unshown.1, why)
]

pub unread : (old new : State) → (IsTrue old.is_open → old.committed.schema ≡ bureau) → IsCausedBy IsUnseen old new → IsCausedBy IsUnread old new
unread old new has (inl failed) = inl failed
unread old new has (inr unseen) = elim (cases_Bool old.is_open) [
  | inl on ↦ inr (
    has on,
    elim unseen [
      | inl version ↦ inl (withheld of_version old.step_limit old.committed (has on) version)
      | inr rows ↦ inr (rows.0, withheld (of_rows rows.0) old.step_limit old.committed (has on) rows.1)
    ],
  )
  | inr off ↦ inl (inr off)
]

-- ---- rows that say nothing

-- a text that is refused says nothing
pub text_unsaid : {A : Type 0} (what : Question) (Says : List Row → A → Type 0) (text : List ℕ) → IsAskedBy what text → (params : Row) → params ≡ what.params → (old new : State) (fault : ReadFault)
    → (HasCleanDisk new → IsRefusedFor text params old new fault) → fault ≡ Device → HasCleanDisk new → IsCausedBy (IsUnsaid what Says) old new
text_unsaid what Says text asked params same old new fault refused device clean =
    caused_so (IsUnshown what) (IsUnsaid what Says) old new (λ limit database why. inl why)
    (text_unshown what text asked old new fault (λ on. subst (λ given. IsRefusedFor text given old new fault) same (refused on)) device clean)

-- nor does one whose rows say no such thing
pub rows_unsaid : {A B : Type 0} (what : Question) (Says : List Row → A → Type 0) (text : List ℕ) → IsAskedBy what text → (params : Row) → params ≡ what.params → (old new : State)
    (rows : Vec Row Global) (seen : List Row) → seen ≡ rows.items → Answers {Fault = ReadFault} text params old new (Ok rows) → (result : Result B ReadFault)
    → (result ≡ Err Device → (a : A) → Says seen a → ⊥) → IfErr result (λ fault. fault ≡ Device → HasCleanDisk new → IsCausedBy (IsUnsaid what Says) old new)
rows_unsaid what Says text asked params same old new rows seen is answers (Ok a) none = tt
rows_unsaid what Says text asked params same old new rows seen is answers (Err fault) none =
    λ device clean. inr (inr (text, asked, seen, subst₂ (λ given shown. Shows text given old.committed shown) same (sym is) (answers.shown clean), none (ap (λ f. Err f) device)))

-- ---- one read after another

-- where the second read is refused
pub later_caused : (Cause Other : Option ℕ → Database → Type 0) (old mid new : State) (fault : ReadFault) → ((limit : Option ℕ) (database : Database) → Cause limit database → Other limit database)
    → OnlyReads old mid → (HasCleanDisk mid → IsTrue old.is_open → IsTrue mid.is_open) → OnlyReads mid new
    → (fault ≡ Device → HasCleanDisk new → IsCausedBy Cause mid new) → fault ≡ Device → HasCleanDisk new → IsCausedBy Other old new
later_caused Cause Other old mid new fault step first stays second cause device clean =
    caused_so Cause Other old new step (caused_after Cause old mid new first stays second clean (cause device clean))
