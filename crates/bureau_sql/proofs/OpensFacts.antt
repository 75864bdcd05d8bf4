-- A database of the bureau's own shows its version, so it is opened where memory and the device allow it.
use Rattle.std.proofs.Common.{◌≡◌, ◌⊎◌, ◌∙◌, ◌≤◌, ℕ, List, [], ◌∷◌, None, Ok, ap, arith, inl, inr, length, refl, subst, sym}
use Rattle.std.specs.Prelude.{Option, codes}
use Rattle.std.proofs.lemmas.Bool.{false≢true}
use Rattle.bureau_store.specs.declared.fault.StoreFault.{StoreFault}
use Rattle.bureau_store.specs.declared.fault.StoreFault.TheVariants.{Device, Memory, Shape, Size, Version}
use Rattle.sqlite.specs.Clock.{timed}
use Rattle.sqlite.specs.Command.{Command}
use Rattle.sqlite.specs.Effect.{Database, RefusesToRead}
use Rattle.sqlite.specs.Listing.{IsSourceOf, reads_listing, understood}
use Rattle.sqlite.specs.Schema.{Schema}
use Rattle.sqlite.specs.State.{State}
use Rattle.sqlite.specs.Tree.{Trees}
use Rattle.sqlite.specs.declared.error.Error.{Error}
use Rattle.sqlite_resolve.specs.declared.compiled.Compiled.{Compiled}
use Rattle.sqlite_value.specs.Order.{Row}
use Rattle.sql_reads.specs.Version.{Withholds, WithholdsVersion}
use Rattle.sql_tables.specs.Ours.{IsOurs}
use Rattle.sql_texts.specs.Meaning.{Reads, selection, statement}
use Rattle.sql_texts.specs.Reads as read
use Rattle.sql_texts.specs.Schema.{bureau}
use Rattle.bureau_sql.specs.Opening.{IsNoStore, IsOutOfReach}

abbrev asked : Command
asked = selection read.version (codes "version" ∷ [])

-- over the bureau's tables this query is not refused, whatever rows they have
never_over : (trees : Trees) (error : Error) → RefusesToRead None asked (record { schema = bureau; trees = trees }) [] error → ⊥
never_over trees error (inl mismatch) = false≢true (sym mismatch.1)
never_over trees error (inr (inl overflows)) = elim overflows.1 [ inl none ↦ none | inr some ↦ some.4 ]
never_over trees error (inr (inr limited)) = false≢true limited.1

abbrev no_value : Row
no_value = []

module _ (database : Database) (ours : database.schema ≡ bureau) (text : List ℕ) (asks : Reads bureau text read.version (codes "version" ∷ []) 0) where
  abbrev one : Compiled
  one = statement asked 0 text

  here : understood database.schema text ≡ Ok one
  here = ap (λ s. understood s text) ours ∙ asks.statement

  only_one : (a b : Compiled) → understood database.schema text ≡ Ok a → understood database.schema text ≡ Ok b → a ≡ b
  only_one a b is_a is_b = let same = sym is_a ∙ is_b in cc

  never_refused : (source : Database) → source ≡ database → (error : Error) → RefusesToRead None asked source [] error → ⊥
  never_refused source is error refuses = never_over source.trees error (subst (λ (schema : Schema). RefusesToRead None asked (record { schema = schema; trees = source.trees }) [] error)
      (ap (λ (database : Database). database.schema) is ∙ ours) refuses)

  -- it is one statement, which takes no parameter and does not read the time
  abbrev IsPlain : Compiled → Type 0
  IsPlain compiled = (length text ≤ compiled.tail → length no_value ≡ length compiled.names → compiled.formats ≡ [] → ⊥) → ⊥

  one_plain : IsPlain one
  one_plain other = other (omega arith) refl refl

  shows : Withholds None text [] database → ⊥
  shows withheld = by withheld.2
    where
      same : withheld.0 ≡ one
      same = only_one withheld.0 one withheld.1 here

      by : (length text ≤ withheld.0.tail → length no_value ≡ length withheld.0.names → withheld.0.formats ≡ [] → ⊥)
          ⊎ ((source : Database) × IsSourceOf (reads_listing database.schema text) database source
          × (now : ℕ) × (error : Error) × RefusesToRead None withheld.0.command source (timed [] withheld.0.formats now) error) → ⊥
      by (inl other) = subst IsPlain (sym same) one_plain other
      by (inr (source, from, now, error, refuses)) =
          let is : source ≡ database = subst (λ b. IsSourceOf b database source) (ap (λ s. reads_listing s text) ours ∙ asks.unlisted) from in
          never_refused source is error (subst (λ (c : Compiled). RefusesToRead None c.command source (timed [] c.formats now) error) same refuses)

pub shows_version : (database : Database) → IsOurs database → WithholdsVersion None database → ⊥
shows_version database ours withheld = shows database ours.schema withheld.0 withheld.1 withheld.2

pub opens_unless : (old new : State) (fault : StoreFault) → old.step_limit ≡ None → IsOurs old.committed → IsNoStore old new fault → IsOutOfReach old new fault
opens_unless old new Memory unlimited ours it = inl refl
opens_unless old new Device unlimited ours (inl failed) = inr (refl, failed)
opens_unless old new Device unlimited ours (inr (inl withheld)) = absurd (shows_version old.committed ours (subst (λ (limit : Option ℕ). WithholdsVersion limit old.committed) unlimited withheld))
opens_unless old new Device unlimited ours (inr (inr none)) = absurd none
opens_unless old new Shape unlimited ours it = absurd (it.2 ours)
opens_unless old new Version unlimited ours it = absurd (it.1 ours)
opens_unless old new Size unlimited ours it = absurd it
