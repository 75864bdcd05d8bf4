-- What is looked at before a connection is taken for a store leaves it as it was, and says why it isn't.
use Rattle.std.proofs.Common.{◌≡◌, ◌⊎◌, ◌≢◌, ◌+◌, ◌<◌, ◌≤◌, ℕ, Bor, List, [], Err, IfErr, IsTrue, Ok, OnOk, Result, Some, ap, arith, get_or, inl, inr, length, refl, subst, sym, take}
use Rattle.std.specs.List.{AllByRecursion, Contains}
use Rattle.std.specs.Prelude.{◌∷◌, Option, map, unwrap_or}
use Rattle.std.proofs.lemmas.Bool.{cases_Bool}
use Rattle.lemmas.proofs.ListFacts.{first_inside, inside_cases, none_inside, rest_inside, get_any, all_in}
use Rattle.bureau_store.specs.Store.{IsOfRead}
use Rattle.bureau_store.specs.declared.fault.StoreFault.{StoreFault}
use Rattle.bureau_store.specs.declared.fault.StoreFault.TheVariants.{Device, Memory, Shape, Size, Version}
use Rattle.sqlite.specs.Effect.{Database}
use Rattle.sqlite.specs.Listing.{understood}
use Rattle.sqlite.specs.Schema.{Schema}
use Rattle.sqlite.specs.Outline.{Outline}
use Rattle.sqlite.specs.State.{HasCleanDisk, IsUnchanged, KeepsCommit, State}
use Rattle.sqlite.specs.Steps.{Outlines}
use Rattle.sqlite.specs.Query.{Query}
use Rattle.sqlite.specs.Table.{Table}
use Rattle.sqlite_resolve.specs.declared.compiled.Compiled.{Compiled}
use Rattle.sqlite_resolve.specs.declared.error.CompileError.{CompileError}
use Rattle.sql_tables.specs.Earlier.{IsOfVersion1}
use Rattle.sql_tables.specs.Ours.{IsOurs}
use Rattle.sql_tables.specs.Reading.{HasFailed, OnlyReads}
use Rattle.sql_reads.specs.Columns.{ShowEach, ShowsAll, tables_of_version_1}
use Rattle.sql_reads.specs.Version.{MeansNothing, Withholds, WithholdsVersion}
use Rattle.sql_texts.specs.Meaning.{MakesTable, Reads}
use Rattle.sql_texts.specs.Schema.{bureau, bureau_1, sysmod_cond}
use Rattle.sql_tables.proofs.StopFacts.{failed_after, was_clean}
pub use Rattle.sql_tables.proofs.StopFacts.{no_read, read_on}
use Rattle.bureau_sql.specs.Opening.{Asked, CanAsk, CanMakeConditions, CannotAsk, CannotMakeConditions, HasOtherShape, HasTables, IsAskedBy, IsNoStore, IsNotEarlier, IsNotMigrated, IsNotOf, IsOfBureau, IsOneStatement, IsOther, IsSeen, IsUnderstood, LacksConditions, LacksMore, LacksTables, LacksText, LacksVersion, TellsVersion, of_conditions, of_table, of_version}
use Rattle.bureau_sql.proofs.FitFacts.{all_seen, all_so_far}

-- ---- what the texts mean

-- a text that was prepared means something under the committed tables
meaning_of : (meaning : Result Compiled CompileError) (outline : Outline) → Outlines meaning outline → (compiled : Compiled) × (meaning ≡ Ok compiled)
meaning_of (Ok compiled) outline outlines = (compiled, refl)
meaning_of (Err fault) outline outlines = absurd outlines

pub means_here : (old new : State) (text : List ℕ) (outline : Outline) → (IsTrue old.is_open → old.now ≡ old.committed) → IsUnchanged old new
    → Outlines (understood old.now.schema text) outline → IsUnderstood old.committed.schema text
means_here old new text outline settled same outlines =
    subst (λ database. IsUnderstood database.schema text) (settled same.0.was_open) (meaning_of (understood old.now.schema text) outline outlines)

-- each of the texts so far does, and one more
abbrev AreMeant : State → List (Bor (List ℕ)) → Type 0
AreMeant at texts = AllByRecursion (λ text. IsUnderstood at.committed.schema text.now) texts

pub none_meant_yet : (at : State) (texts : List (Bor (List ℕ))) → HasCleanDisk at → IsTrue at.is_open → AreMeant at (take 0 texts)
none_meant_yet at texts clean is_open = tt

pub meant_so_far : (texts : List (Bor (List ℕ))) (i : ℕ) (none : Bor (List ℕ)) (old mid new : State) → OnlyReads old mid → OnlyReads mid new
    → i < length texts → (HasCleanDisk mid → IsTrue mid.is_open → AreMeant old (take i texts))
    → (HasCleanDisk new → IsUnderstood mid.committed.schema (get_or texts i none).now) → HasCleanDisk new → IsTrue new.is_open → AreMeant old (take (i + 1) texts)
meant_so_far texts i none old mid new sooner later low so_far one clean is_open =
    let before = was_clean mid new (λ trees. ⊥) later.survives clean in
    let was = (later.keeps clean).was_open is_open in
    all_so_far (λ text. IsUnderstood old.committed.schema text.now) texts i (get_or texts i none) low (get_any texts i none (get_or texts i none) low) (so_far before was)
    (subst (λ database. IsUnderstood database.schema (get_or texts i none).now) ((sooner.keeps before).committed was) (one clean))

pub all_meant : (texts : List (Bor (List ℕ))) (i : ℕ) (old new : State) → length texts ≤ i → (HasCleanDisk new → IsTrue new.is_open → AreMeant old (take i texts))
    → HasCleanDisk new → IsTrue new.is_open → AreMeant old texts
all_meant texts i old new past so_far clean is_open = all_seen (λ text. IsUnderstood old.committed.schema text.now) texts i past (so_far clean is_open)

-- what the texts say together, where all of them mean something
pub tables_found : {A F All : Type 0} (schema : Schema) (new : State) (result : Result A F) → (All → HasTables schema)
    → OnOk result (HasCleanDisk new → IsTrue new.is_open → All) → OnOk result (HasCleanDisk new → IsTrue new.is_open → HasTables schema)
tables_found schema new (Ok done) together all = λ clean is_open. together (all clean is_open)
tables_found schema new (Err fault) together all = tt

-- what was found on the way of the committed tables, where the connection is open in the end
pub found_where_open : {A F : Type 0} (Fact : Database → Type 0) (old first second last : State) (result : Result A F) → OnlyReads old first → OnlyReads first second
    → OnlyReads second last → OnOk result (HasCleanDisk last → IsTrue last.is_open) → (HasCleanDisk second → IsTrue second.is_open → Fact first.committed)
    → OnOk result (HasCleanDisk last → Fact old.committed)
found_where_open Fact old first second last (Err fault) one two three is_open fact = tt
found_where_open Fact old first second last (Ok done) one two three is_open fact = λ clean.
    let at_second = was_clean second last (λ trees. ⊥) three.survives clean in
    let at_first = was_clean first second (λ trees. ⊥) two.survives at_second in
    let open_second = (three.keeps clean).was_open (is_open clean) in
    subst Fact ((one.keeps at_first).committed ((two.keeps at_second).was_open open_second)) (fact at_second open_second)

-- ---- the version

pub same_version : {A : Type 0} (version : Option ℕ) (wanted : ℕ) (new : State) (database : Database) (result : Result A StoreFault) → OnOk result (version ≡ Some wanted)
    → (HasCleanDisk new → TellsVersion version database) → OnOk result (HasCleanDisk new → TellsVersion (Some wanted) database)
same_version version wanted new database (Ok a) same tells = λ clean. subst (λ v. TellsVersion v database) same (tells clean)
same_version version wanted new database (Err e) same tells = tt

pub other_version : {A : Type 0} (Means : Type 0) (version : Option ℕ) (wanted : ℕ) (old new : State) (result : Result A StoreFault) → IfErr result (λ fault. (fault ≡ Version) × (version ≢ Some wanted))
    → (HasCleanDisk new → IsTrue old.is_open) → (HasCleanDisk new → TellsVersion version old.committed)
    → IfErr result (λ fault. HasCleanDisk new → Means → IsSeen (λ database. ⊥) (IsOther wanted) old new fault)
other_version Means version wanted old new (Ok a) other is_open tells = tt
other_version Means version wanted old new (Err fault) other is_open tells = λ clean means.
    subst (IsSeen (λ database. ⊥) (IsOther wanted) old new) (sym other.0) (is_open clean, (version, other.1, tells clean))

-- a failure that a read of the version tells, where the text means something
pub version_failed : (text : List ℕ) (old new : State) → IsAskedBy of_version text → HasFailed old new ⊎ (MeansNothing text old.committed ⊎ Withholds old.step_limit text [] old.committed)
    → (IsTrue old.is_open → IsUnderstood old.committed.schema text) → HasFailed old new ⊎ WithholdsVersion old.step_limit old.committed
version_failed text old new asks (inl failed) means = inl failed
version_failed text old new asks (inr (inr withheld)) means = inr (text, asks, withheld)
version_failed text old new asks (inr (inl nothing)) means = elim (cases_Bool old.is_open) [
  | inl on ↦ let it = means on in absurd (nothing it.0 it.1)
  | inr shut ↦ inl (inr shut)
]

-- ---- what was seen

-- what was seen after a read was so before, and may say more there
pub seen_before : (Shaped Versioned Shape_there Version_there : Database → Type 0) (old mid last : State) (fault : StoreFault) → OnlyReads old mid → OnlyReads mid last
    → (HasCleanDisk last → Shaped old.committed → Shape_there old.committed) → (HasCleanDisk last → Versioned old.committed → Version_there old.committed)
    → (HasCleanDisk last → IsSeen Shaped Versioned mid last fault) → HasCleanDisk last → IsSeen Shape_there Version_there old last fault
seen_before Shaped Versioned Shape_there Version_there old mid last fault sooner later shape version seen clean = by fault (seen clean)
  where
    before : HasCleanDisk mid
    before = was_clean mid last (λ trees. ⊥) later.survives clean

    kept : KeepsCommit old mid
    kept = sooner.keeps before

    by : (fault : StoreFault) → IsSeen Shaped Versioned mid last fault → IsSeen Shape_there Version_there old last fault
    by Memory it = tt
    by Device (inl failed) = inl (failed_after old mid last sooner before later.survives.counts failed)
    by Device (inr withheld) = elim (cases_Bool mid.is_open) [
      | inl on ↦ inr (subst (λ (d : Database). WithholdsVersion old.step_limit d) (kept.committed on)
          (subst (λ (limit : Option ℕ). WithholdsVersion limit mid.committed) sooner.survives.limit withheld))
      | inr shut ↦ inl (failed_after old mid last sooner before later.survives.counts (inr shut))
    ]
    by Size it = it
    by Shape it = (kept.was_open it.0, shape clean (subst Shaped (kept.committed it.0) it.1))
    by Version it = (kept.was_open it.0, version clean (subst Versioned (kept.committed it.0) it.1))

pub seen_after : {A : Type 0} (Shaped Versioned Shape_there Version_there : Database → Type 0) (old mid last : State) (result : Result A StoreFault) → OnlyReads old mid
    → OnlyReads mid last → ((database : Database) → Shaped database → Shape_there database) → ((database : Database) → Versioned database → Version_there database)
    → IfErr result (λ fault. HasCleanDisk last → IsSeen Shaped Versioned mid last fault) → IfErr result (λ fault. HasCleanDisk last → IsSeen Shape_there Version_there old last fault)
seen_after Shaped Versioned Shape_there Version_there old mid last (Ok a) sooner later shape version seen = tt
seen_after Shaped Versioned Shape_there Version_there old mid last (Err fault) sooner later shape version seen =
    seen_before Shaped Versioned Shape_there Version_there old mid last fault sooner later (λ clean. shape old.committed) (λ clean. version old.committed) seen

-- and so was a failure that the probe saw
pub probe_seen : {A : Type 0} (Shaped Versioned : Database → Type 0) (old mid last : State) (result : Result A StoreFault) → OnlyReads old mid → OnlyReads mid last
    → IfErr result IsOfRead → IfErr result (λ fault. HasCleanDisk last → fault ≡ Device → HasFailed mid last)
    → IfErr result (λ fault. HasCleanDisk last → IsSeen Shaped Versioned old last fault)
probe_seen Shaped Versioned old mid last (Ok a) sooner later of failed = tt
probe_seen Shaped Versioned old mid last (Err Memory) sooner later of failed = λ clean. tt
probe_seen Shaped Versioned old mid last (Err Device) sooner later of failed = λ clean.
    inl (failed_after old mid last sooner (was_clean mid last (λ trees. ⊥) later.survives clean) later.survives.counts (failed clean refl))
probe_seen Shaped Versioned old mid last (Err Size) sooner later of failed = absurd of
probe_seen Shaped Versioned old mid last (Err Shape) sooner later of failed = absurd of
probe_seen Shaped Versioned old mid last (Err Version) sooner later of failed = absurd of

-- the same at once
pub seen_so : (Shaped Versioned Shape_there Version_there : Database → Type 0) (at new : State) (fault : StoreFault) → ((database : Database) → Shaped database → Shape_there database)
    → ((database : Database) → Versioned database → Version_there database) → IsSeen Shaped Versioned at new fault → IsSeen Shape_there Version_there at new fault
seen_so Shaped Versioned Shape_there Version_there at new Memory shape version it = tt
seen_so Shaped Versioned Shape_there Version_there at new Device shape version it = it
seen_so Shaped Versioned Shape_there Version_there at new Size shape version it = it
seen_so Shaped Versioned Shape_there Version_there at new Shape shape version it = (it.0, shape at.committed it.1)
seen_so Shaped Versioned Shape_there Version_there at new Version shape version it = (it.0, version at.committed it.1)

-- ---- what is asked of the tables

-- a text that reads is one statement
pub one_of_asked : (schema : Schema) (text : List ℕ) (query : Query) (names : List (List ℕ)) (parameters : ℕ) → Reads schema text query names parameters → IsOneStatement schema text
one_of_asked schema text query names parameters reads = (_, reads.statement, omega arith, refl)

-- texts that show all columns of these tables, one each, are statements
all_one : (schema : Schema) (tables : List Table) (texts : List (Bor (List ℕ))) → ShowEach schema tables texts → AllByRecursion (λ text. IsOneStatement schema text.now) texts
all_one schema [] [] each = tt
all_one schema [] (text ∷ texts) each = absurd each
all_one schema (one ∷ more) [] each = absurd each
all_one schema (one ∷ more) (text ∷ texts) each = (one_of_asked schema text.now _ _ _ each.0, all_one schema more texts each.1)

pub all_asked : (schema : Schema) (tables : List Table) (texts : List (Bor (List ℕ))) → ShowEach bureau tables texts → AllByRecursion (λ text. IsUnderstood schema text.now) texts
    → AllByRecursion (CanAsk schema) (map of_table tables)
all_asked schema [] [] each all = tt
all_asked schema [] (text ∷ texts) each all = absurd each
all_asked schema (one ∷ more) [] each all = absurd each
all_asked schema (one ∷ more) (text ∷ texts) each all = ((text.now, each.0, all.0), all_asked schema more texts each.1 all.1)

one_not_asked : (schema : Schema) (tables : List Table) (texts : List (Bor (List ℕ))) → ShowEach bureau tables texts → (text : Bor (List ℕ)) → Contains texts text
    → (IsOneStatement schema text.now → ⊥) → (one : Asked) × Contains (map of_table tables) one × CannotAsk schema one
one_not_asked schema [] [] each text inside none = absurd (none_inside text inside)
one_not_asked schema [] (first ∷ texts) each text inside none = absurd each
one_not_asked schema (one ∷ more) [] each text inside none = absurd each
one_not_asked schema (one ∷ more) (first ∷ texts) each text inside none = elim (inside_cases first text texts inside) [
  | inl same ↦ (of_table one, first_inside (of_table one) (map of_table more), (text.now, subst (λ (t : Bor (List ℕ)). ShowsAll bureau one t.now) same each.0, none))
  | inr later ↦ let it = one_not_asked schema more texts each.1 text later none in (it.0, rest_inside (of_table one) it.0 (map of_table more) it.1, it.2)
]

-- one of the texts is no statement, so one of the tables lacks, and the tables are the bureau's of no version
table_lacks : (tables : List Table) (texts : List (Bor (List ℕ))) → ShowEach bureau tables texts → ShowEach bureau_1 tables texts → (database : Database) → LacksText texts database
    → (IsOfBureau database.schema → ⊥) × ((what : Asked) × Contains (map of_table tables) what × CannotAsk database.schema what)
table_lacks tables texts here before database lacks = (
  λ of. lacks.2 (elim of [
    | inl is ↦ subst (λ s. IsOneStatement s lacks.0.now) (sym is) (all_in (λ text. IsOneStatement bureau text.now) texts (all_one bureau tables texts here) lacks.0 lacks.1)
    | inr is ↦ subst (λ s. IsOneStatement s lacks.0.now) (sym is) (all_in (λ text. IsOneStatement bureau_1 text.now) texts (all_one bureau_1 tables texts before) lacks.0 lacks.1)
  ]),
  one_not_asked database.schema tables texts here lacks.0 lacks.1 lacks.2,
)

pub seen_tables : {A : Type 0} (texts : List (Bor (List ℕ))) (old new : State) (result : Result A StoreFault)
    → IfErr result (λ fault. HasCleanDisk new → IsSeen (LacksText texts) (λ database. ⊥) old new fault) → ShowEach bureau tables_of_version_1 texts
    → ShowEach bureau_1 tables_of_version_1 texts → IfErr result (λ fault. HasCleanDisk new → IsSeen LacksTables (λ database. ⊥) old new fault)
seen_tables texts old new (Ok a) seen here before = tt
seen_tables texts old new (Err fault) seen here before = λ clean.
    seen_so (LacksText texts) (λ database. ⊥) LacksTables (λ database. ⊥) old new fault (table_lacks tables_of_version_1 texts here before) (λ database none. none) (seen clean)

-- a text that asks for the version of the bureau's tables, of either version, is no statement
pub version_lacks : (text : List ℕ) → IsAskedBy of_version text → IsOneStatement bureau_1 text → (database : Database) → (IsOneStatement database.schema text → ⊥) → LacksVersion database
version_lacks text asks before database none = (
  λ of. none (elim of [
    | inl is ↦ subst (λ s. IsOneStatement s text) (sym is) (one_of_asked bureau text _ _ _ asks)
    | inr is ↦ subst (λ s. IsOneStatement s text) (sym is) before
  ]),
  (text, asks, none),
)

-- what `migrate` found: the text that makes their table means something
pub conditions_to_make : (text : List ℕ) (schema : Schema) → HasTables schema → IsUnderstood schema text → MakesTable bureau_1 text sysmod_cond bureau
    → HasTables schema × CanMakeConditions schema
conditions_to_make text schema tables means makes = (tables, (text, makes, means))

-- ---- what is looked for by a store, and by what makes a file of version 1 one of version 2

module _ (wanted : ℕ) (schema : Schema) (Lacks : Schema → Type 0) (IsIt IsOtherOurs : Database → Type 0) (IsChanged : State → State → Type 0) (text : List ℕ) (of_bureau : IsOfBureau schema)
    (means : IsOneStatement schema text) (lacks_more : (other : Schema) → (IsOneStatement other text → ⊥) → Lacks other)
    (its_schema : (database : Database) → IsIt database → database.schema ≡ schema) (other_schema : (database : Database) → IsOtherOurs database → IsOfBureau database.schema)
    (apart : (database : Database) → TellsVersion (Some wanted) database → IsOtherOurs database → ⊥)
    (tells : (version : Option ℕ) (database : Database) → TellsVersion version database → IsIt database → version ≡ Some wanted) where
  other_shape : (database : Database) → LacksMore wanted text database → HasOtherShape wanted Lacks database
  other_shape database (inl version) = inl version.1
  other_shape database (inr more) = elim more.1 [
    | inl table ↦ inr (more.0.has, inl table.1)
    | inr none ↦ inr (more.0.has, inr (lacks_more database.schema none))
  ]

  not_it : (database : Database) → LacksMore wanted text database → IsIt database → ⊥
  not_it database (inl version) is = version.0 (subst IsOfBureau (sym (its_schema database is)) of_bureau)
  not_it database (inr more) is = elim more.1 [
    | inl table ↦ table.0 (subst IsOfBureau (sym (its_schema database is)) of_bureau)
    | inr none ↦ none (subst (λ s. IsOneStatement s text) (sym (its_schema database is)) means)
  ]

  not_other : (database : Database) → LacksMore wanted text database → IsOtherOurs database → ⊥
  not_other database (inl version) is = version.0 (other_schema database is)
  not_other database (inr more) is = apart database more.0 is

  not_of : (at new : State) (fault : StoreFault) → IsSeen (LacksMore wanted text) (IsOther wanted) at new fault → IsNotOf wanted Lacks IsIt IsOtherOurs IsChanged at new fault
  not_of at new Memory it = tt
  not_of at new Device (inl failed) = inl failed
  not_of at new Device (inr withheld) = inr (inl withheld)
  not_of at new Size it = absurd it
  not_of at new Shape it = (it.0, other_shape at.committed it.1, not_it at.committed it.1, not_other at.committed it.1)
  not_of at new Version it = (it.0, λ is. it.1.1 (tells it.1.0 at.committed it.1.2 is), it.1.0, it.1.1, it.1.2.has)

-- one version is not another
two_versions : (one other : ℕ) → Some one ≡ Some other → one ≡ other
two_versions one other is = ap (λ (o : Option ℕ). unwrap_or o 0) is

pub no_later_store : (database : Database) → TellsVersion (Some 1) database → IsOurs database → ⊥
no_later_store database told ours = omega (arith, two_versions 1 2 (told.ours ours))

pub no_store : (text : List ℕ) (at new : State) (fault : StoreFault) → IsAskedBy of_conditions text → IsSeen (LacksMore 2 text) (IsOther 2) at new fault → IsNoStore at new fault
no_store text at new fault asks =
    not_of 2 bureau LacksConditions IsOurs IsOfVersion1 (λ old new. ⊥) text (inl refl) (one_of_asked bureau text _ _ _ asks) (λ other none. (text, asks, none)) (λ database is. is.schema) (λ database is. inr is.schema)
    (λ database told earlier. omega (arith, two_versions 2 1 (told.earlier earlier))) (λ version database told. told.ours) at new fault

pub not_earlier : (text : List ℕ) (at new : State) (fault : StoreFault) → MakesTable bureau_1 text sysmod_cond bureau → IsSeen (LacksMore 1 text) (IsOther 1) at new fault → IsNotEarlier at new fault
not_earlier text at new fault makes =
    not_of 1 bureau_1 CannotMakeConditions IsOfVersion1 IsOurs IsNotMigrated text (inr refl) (_, makes.statement, omega arith, refl) (λ other none. (text, makes, none)) (λ database is. is.schema) (λ database is. inl is.schema)
    (λ database told ours. omega (arith, two_versions 1 2 (told.ours ours))) (λ version database told. told.earlier) at new fault
