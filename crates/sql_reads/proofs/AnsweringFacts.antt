-- What a text that reads leaves of a connection, and what it shows.
use Rattle.std.proofs.Common.{◌≡◌, ◌⊎◌, ℕ, List, refl, sym, ◌∙◌, ap, subst, inl, inr, Ok, Err, None, IsTrue}
use Rattle.std.specs.Prelude.{Vec}
use Rattle.std.specs.declared.alloc.Global.{Global}
use Rattle.std.proofs.Math.Path.{fun_ext}
use Rattle.sqlite.proofs.Callers.{IsPlain, command_of, reads_as}
use Rattle.sqlite.specs.Listing.{understood}
use Rattle.sqlite.specs.declared.error.Error.{Error}
use Rattle.sqlite.specs.Query.{IsAnswer, Query}
use Rattle.sqlite.specs.Schema.{Schema}
use Rattle.sqlite.specs.Clock.{timed}
use Rattle.sqlite.specs.Effect.{Database}
use Rattle.sqlite.specs.State.{CommitsShowing, FailsToQuery, FailsToShow, HasCleanDisk, IsNoStatement, IsNotRun, Shown, ShowsRows, State, Survives, store_error}
use Rattle.sqlite.specs.Tree.{Trees}
use Rattle.sqlite_resolve.specs.declared.compiled.Compiled.{Compiled}
use Rattle.sqlite_trees.specs.declared.error.StoreError.TheVariants.{OutOfMemory}
use Rattle.sqlite_value.specs.Order.{Row}
use Rattle.sqlite_value.specs.declared.value.Value.TheVariants.{Null}
use Rattle.sql_texts.specs.Meaning.{Reads, selection}
use Rattle.sql_texts.proofs.AnswerFacts.{plain_trees}
use Rattle.sql_tables.proofs.StateReadFacts.{refused_keeps, shown_unchanged, survives_read}
use Rattle.sql_tables.proofs.StopFacts.{failed_by, kept_unchanged}
use Rattle.sql_tables.specs.Reading.{HasFailed}
use Rattle.sql_reads.specs.Answering.{Answers, IsRead}
use Rattle.sql_reads.specs.Version.{MeansNothing, Shows, Withholds}
use Rattle.sql_reads.proofs.QuietFacts.{quiet}

-- what is shown is an answer over what is committed
pub answered : (text : List ℕ) (params : Row) (old new : State) (rows : List Row) → old.now ≡ old.committed → Shown text params old new rows → (schema : Schema) → old.committed.schema ≡ schema
    → (query : Query) (names : List (List ℕ)) (parameters : ℕ) → Reads schema text query names parameters → IsAnswer query old.committed.trees params rows
answered text params old new rows settled shown schema has query names parameters reads =
    let seen : old.now.schema ≡ schema = ap (λ d. d.schema) settled ∙ has in
    subst (λ (trees : Trees). IsAnswer query trees params rows) (fun_ext (plain_trees old.now.trees) ∙ ap (λ d. d.trees) settled)
    ((reads_as text params old new schema seen (selection query names) (ap command_of reads.statement) (subst IsPlain (sym reads.statement) (refl, refl)) reads.unlisted rows shown).answer Null)

-- under each schema it shows nothing of what it writes
plain : (text : List ℕ) (old : State) → IsRead text → (c : Compiled) → understood old.now.schema text ≡ Ok c → c.returning ≡ None
plain text old read = quiet text read.0 read.1 read.2 read.3 old.now.schema

-- what is shown, whatever the tables are
shows : (text : List ℕ) (params : Row) (old new : State) (rows : List Row) → IsRead text → Shown text params old new rows → Shows text params old.now rows
unfolding Shown
shows text params old new rows read shown =
    let it = shown.1 in
    let answer : ShowsRows old new text shown.0 (timed params shown.0.formats it.now) rows None =
    subst (ShowsRows old new text shown.0 (timed params shown.0.formats it.now) rows) (plain text old read shown.0 it.is) shown.2 in
    record { compiled = shown.0; means = it.is; source = answer.0; from = answer.1; now = it.now; answer = answer.2 }

-- why it is refused, other than for want of memory
abbrev IsUnanswered : State → List ℕ → Row → Database → Type 0
IsUnanswered at text params database = MeansNothing text database ⊎ Withholds at.step_limit text params database

withheld : (text : List ℕ) (params : Row) (old : State) (e : Error) → IsNoStatement old text params e → IsUnanswered old text params old.now
withheld text params old e (inl fault) = inl (λ compiled means. let none = sym fault.1 ∙ means in cc)
withheld text params old e (inr it) = inr (
  it.0,
  it.1,
  inl (λ whole given timeless. elim it.2 [
    | inl more ↦ more.0 whole
    | inr rest ↦ elim rest [
      | inl other ↦ other.0 given
      | inr reads_time ↦ reads_time.0 timeless
    ]
  ]),
)

pub refused_for : (text : List ℕ) (params : Row) (old new : State) → IsRead text → (IsTrue old.is_open → old.now ≡ old.committed) → (e : Error) → FailsToQuery text params old new e
    → (e ≡ store_error OutOfMemory → ⊥) → HasFailed old new ⊎ IsUnanswered old text params old.committed
unfolding FailsToQuery IsNotRun
refused_for text params old new read settled e (inl (inl none)) known =
    inr (subst (IsUnanswered old text params) (settled none.1.0.was_open) (withheld text params old e none.0))
refused_for text params old new read settled e (inl (inr failed)) known = inl (failed_by old new e failed known)
refused_for text params old new read settled e (inr it) known =
    let why : FailsToShow old new text it.0 (timed params it.0.formats it.1.now) e None =
    subst (FailsToShow old new text it.0 (timed params it.0.formats it.1.now) e) (plain text old read it.0 it.1.is) it.2 in
    let seen : IsUnanswered old text params old.now = inr (it.0, it.1.is, inr (why.0, why.1, it.1.now, e, why.2)) in
    inr (subst (IsUnanswered old text params) (settled why.3.0.was_open) seen)

module _ {Fault : Type 0} (text : List ℕ) (params : Row) (old new : State) (read : IsRead text) (kept : Survives old new (CommitsShowing text params old)) where
  pub answers_rows : (rows : Vec Row Global) → (IsTrue old.is_open → old.now ≡ old.committed) → (HasCleanDisk new → Shown text params old new rows.items)
      → Answers {Fault = Fault} text params old new (Ok rows)
  answers_rows rows settled shown =
      let same = λ (clean : HasCleanDisk new). shown_unchanged text params old new (plain text old read) rows.items (shown clean) in record {
        reads = record { keeps = λ clean. kept_unchanged old new (same clean); survives = survives_read text params old new (plain text old read) kept };
        is_open = λ clean. (same clean).0.is_open;
        told = λ clean schema has query names parameters reads.
            answered text params old new rows.items (settled (same clean).0.was_open) (shown clean) schema has query names parameters reads;
        shown = λ clean.
            subst (λ database. Shows text params database rows.items) (settled (same clean).0.was_open) (shows text params old new rows.items read (shown clean));
      }

  pub answers_fault : (e : Error) (fault : Fault) → (HasCleanDisk new → FailsToQuery text params old new e) → Answers {Fault = Fault} text params old new (Err fault)
  answers_fault e fault fails = record {
    reads = record { keeps = λ clean. refused_keeps text params old new (plain text old read) e (fails clean); survives = survives_read text params old new (plain text old read) kept };
    is_open = tt;
    told = tt;
    shown = tt;
  }
