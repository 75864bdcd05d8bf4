-- What is told of the rows that a text shows, of those that stand in the table.
use Rattle.std.proofs.Common.{◌≡◌, ◌↔◌, ℕ, suc, Bool, List, [], ◌∷◌, drop, refl, sym, ◌∙◌, ap, subst, IsTrue, Ok, Err, Result, None, Some}
use Rattle.std.specs.Prelude.{codes, filter, map, Option, Vec, IfOk, pos}
use Rattle.std.specs.declared.alloc.Global.{Global}
use Rattle.std.specs.List.{AllByRecursion}
use Rattle.std.specs.List.Sorted.{IsPermutation}
use Rattle.std.proofs.lemmas.List.Elements.{All-from_recursion, recursion_from_All}
use Rattle.std.proofs.lemmas.List.Sorted.{All-permutation, IsPermutation-sym}
use Rattle.sqlite.specs.Effect.{Database, IsDatabase}
use Rattle.sqlite.specs.Query.{IsAnswer}
use Rattle.sqlite.specs.State.{State}
use Rattle.sqlite.specs.Tree.{Trees}
use Rattle.sqlite_value.specs.Order.{Row, column}
use Rattle.sqlite_value.specs.declared.value.Value.TheVariants.{Int}
use Rattle.sql_reads.specs.Answering.{Answers}
use Rattle.sql_reads.specs.Columns.{indices_of}
use Rattle.sql_reads.specs.Version.{version_in}
use Rattle.sql_tables.proofs.StopFacts.{no_read, read_on, was_clean}
use Rattle.sql_tables.specs.Ours.{held_by}
use Rattle.sql_tables.proofs.TreeFacts.{shown_after}
use Rattle.sql_tables.specs.InTrees.{columns_of, stored_in}
use Rattle.sql_tables.specs.Stored.{Stored}
use Rattle.sql_tables.specs.Values.{number_in}
use Rattle.sql_texts.proofs.AnswerFacts.{table_answer}
use Rattle.sql_texts.specs.Found.{passes, shown}
use Rattle.sql_texts.specs.Meaning.{Reads}
use Rattle.sql_texts.specs.Reads as read
use Rattle.sql_texts.specs.Schema.{bureau}
use Rattle.sql_reads.proofs.VersionFacts.{one_again}
use Rattle.sql_checks.proofs.SaidFacts.{number_said}
use Rattle.sql_checks.proofs.OursFacts.{ours}
use Rattle.sql_checks.specs.Checked.{AreOthers, Finds, IsFound, IsPublisherSeen, IsRowSeen, IsSeen, Looks, TellsVersion2, WrongIn}
use Rattle.sql_checks.specs.declared.checking.Finding.{Finding}
use Rattle.sql_checks.specs.declared.checking.Finding.TheVariants.{Whole, OtherTables, OtherOrder, OtherVersion, WrongRow, NoPublisher}
use Rattle.sql_checks.specs.Kept.{AreKept, KeepTo}
use Rattle.sql_checks.specs.Known.{AllKeep, Known, names_of, query_of}
use Rattle.sql_checks.specs.declared.table.StoreTable.{StoreTable}

-- ---- one look after another

-- a look that is refused leaves what it leaves
pub refused_so : {A B Fault : Type 0} (old new : State) (e : Fault) (First : Database → A → Type 0) (Fact : Database → B → Type 0)
    → Looks {Answer = A} {Fault = Fault} old new (Err e) First → Looks {Answer = B} {Fault = Fault} old new (Err e) Fact
refused_so old new e First Fact look = record { reads = look.reads; is_open = tt; told = tt }

pub look_so : {A B Fault : Type 0} (old new : State) (a : A) (b : B) (First : Database → A → Type 0) (Fact : Database → B → Type 0)
    → Looks {Answer = A} {Fault = Fault} old new (Ok a) First → ((database : Database) → First database a → Fact database b) → Looks {Answer = B} {Fault = Fault} old new (Ok b) Fact
look_so old new a b First Fact look step = record { reads = look.reads; is_open = look.is_open; told = λ clean is_open has. step old.committed (look.told clean is_open has) }

pub look_on : {A B Fault : Type 0} (old mid new : State) (a : A) (result : Result B Fault) (First : Database → A → Type 0) (Second Fact : Database → B → Type 0)
    → Looks {Answer = A} {Fault = Fault} old mid (Ok a) First → Looks {Answer = B} {Fault = Fault} mid new result Second
    → ((database : Database) (b : B) → First database a → Second database b → Fact database b) → Looks {Answer = B} {Fault = Fault} old new result Fact
look_on old mid new a (Ok b) First Second Fact first second step = record {
  reads = read_on old mid new first.reads second.reads;
  is_open = λ clean is_open. second.is_open clean (first.is_open (was_clean mid new _ second.reads.survives clean) is_open);
  told = λ clean is_open has.
      let before = was_clean mid new _ second.reads.survives clean in
      let between = first.is_open before is_open in
      let same : mid.committed ≡ old.committed = (first.reads.keeps before).committed between in
      step old.committed b (first.told before is_open has)
      (subst (λ database. Second database b) same (second.told clean between (subst (λ (database : Database). database.schema ≡ bureau) (sym same) has)));
}
look_on old mid new a (Err e) First Second Fact first second step = record { reads = read_on old mid new first.reads second.reads; is_open = tt; told = tt }

-- ---- all rows of a table

all_there : (P : Row → Type 0) (xs ys : List Row) → IsPermutation xs ys → AllByRecursion P xs → AllByRecursion P ys
all_there P xs ys permuted all = recursion_from_All P ys (All-permutation P xs ys permuted (All-from_recursion P xs all))

pub every : (rows : List Row) → filter (passes [] []) rows ≡ rows
every [] = refl
every (row ∷ rows) = ap (λ others. row ∷ others) (every rows)

-- A row keeps to a table just where its columns do, as they are shown; and its rows are those of its tree.
module _ (known : Known) (as_shown : (row : Row) → known.Keeps (shown (indices_of known.table) row) ↔ known.Keeps row)
    (here : (trees : Trees) → columns_of (trees known.table.tree) ≡ known.rows (stored_in trees)) where
  shown_keep : (rows : List Row) → AllByRecursion known.Keeps (map (shown (map suc (indices_of known.table))) rows) → AllByRecursion known.Keeps (columns_of rows)
  shown_keep [] all = tt
  shown_keep (row ∷ rows) all = ((as_shown (drop 1 row)).0 (subst known.Keeps (sym (shown_after (indices_of known.table) row)) all.0), shown_keep rows all.1)

  keep_shown : (rows : List Row) → AllByRecursion known.Keeps (columns_of rows) → AllByRecursion known.Keeps (map (shown (map suc (indices_of known.table))) rows)
  keep_shown [] all = tt
  keep_shown (row ∷ rows) all = (subst known.Keeps (shown_after (indices_of known.table) row) ((as_shown (drop 1 row)).1 all.0), keep_shown rows all.1)

  all_keep : (trees : Trees) (rows : List Row) → IsAnswer (query_of known) trees [] rows → AllByRecursion known.Keeps rows ↔ AllKeep known (stored_in trees)
  all_keep trees rows answer =
      let tree = known.table.tree in
      let there : IsPermutation (map (shown (map suc (indices_of known.table))) (trees tree)) rows =
      subst (λ kept. IsPermutation (map (shown (map suc (indices_of known.table))) kept) rows) (every (trees tree)) (table_answer tree [] (map suc (indices_of known.table)) [] trees [] rows answer) in (
        λ all. subst (AllByRecursion known.Keeps) (here trees)
            (shown_keep (trees tree) (all_there known.Keeps rows (map (shown (map suc (indices_of known.table))) (trees tree)) (IsPermutation-sym _ rows there) all)),
        λ all. all_there known.Keeps (map (shown (map suc (indices_of known.table))) (trees tree)) rows there
            (keep_shown (trees tree) (subst (AllByRecursion known.Keeps) (sym (here trees)) all)),
      )

  pub kept_told : {Fault : Type 0} (text : List ℕ) → Reads bureau text (query_of known) (names_of known) 0 → (old new : State) (rows : Vec Row Global) (seen : List Row) → seen ≡ rows.items
      → Answers {Fault = Fault} text [] old new (Ok rows) → (result : Result Bool Fault) → IfOk result (λ keeps. IsTrue keeps ↔ AllByRecursion known.Keeps seen)
      → Looks old new result (λ database keeps. IsTrue keeps ↔ AllKeep known (held_by database))
  kept_told text reads old new rows seen same answers (Err e) is = record { reads = answers.reads; is_open = tt; told = tt }
  kept_told text reads old new rows seen same answers (Ok keeps) is = record {
    reads = answers.reads;
    is_open = λ clean is_open. answers.is_open clean;
    told = λ clean is_open has.
        let answer = subst (IsAnswer (query_of known) old.committed.trees []) (sym same) (answers.told clean bureau has (query_of known) (names_of known) 0 reads) in
        let all = all_keep old.committed.trees seen answer in
        (λ keeps. all.0 (is.0 keeps), λ kept. is.1 (all.1 kept));
  }

pub refused_rows : {A Fault : Type 0} (text : List ℕ) (old new : State) (other : Fault) (Fact : Database → A → Type 0) (result : Result (Vec Row Global) Fault) → Answers {Fault = Fault} text [] old new result
    → Looks {Answer = A} {Fault = Fault} old new (Err other) Fact
refused_rows text old new other Fact result answers = record { reads = answers.reads; is_open = tt; told = tt }

-- ---- the version

-- the one row that is shown is the version alone
version_alone : (rows : List Row) (row : Row) → map (shown (2 ∷ [])) rows ≡ row ∷ [] → number_in (column row 0) ≡ Some 2 → row ≡ Int (pos 2) ∷ []
version_alone [] row e told = cc
version_alone (r ∷ []) row e told =
    let same : column r 2 ∷ [] ≡ row = cc in
    sym same ∙ ap (λ v. v ∷ []) (number_said (column r 2) 2 (subst (λ x. number_in (column x 0) ≡ Some 2) (sym same) told))
version_alone (r ∷ s ∷ rows) row e told = cc

-- rows that are shown of the table of the version tell 2 just where it has one row that does
pub version_both : (rows seen : List Row) → IsPermutation (map (shown (2 ∷ [])) rows) seen → (version_in seen ≡ Some 2) ↔ (map (shown (2 ∷ [])) rows ≡ (Int (pos 2) ∷ []) ∷ [])
version_both rows seen permuted = (there seen permuted, λ is. ap version_in (one_again (Int (pos 2) ∷ []) seen (subst (λ all. IsPermutation all seen) is permuted)))
  where
    there : (seen : List Row) → IsPermutation (map (shown (2 ∷ [])) rows) seen → version_in seen ≡ Some 2 → map (shown (2 ∷ [])) rows ≡ (Int (pos 2) ∷ []) ∷ []
    there [] p h = cc
    there (row ∷ []) p h =
        let is = one_again row (map (shown (2 ∷ [])) rows) (IsPermutation-sym (map (shown (2 ∷ [])) rows) (row ∷ []) p) in
        is ∙ ap (λ r. r ∷ []) (version_alone rows row is h)
    there (row ∷ other ∷ more) p h = cc

pub version_told : {Fault : Type 0} (text : List ℕ) → Reads bureau text read.version (codes "version" ∷ []) 0 → (old new : State) (rows : Vec Row Global) (seen : List Row) → seen ≡ rows.items
    → Answers {Fault = Fault} text [] old new (Ok rows) → (is : Bool) → (IsTrue is ↔ (version_in seen ≡ Some 2))
    → Looks {Answer = Bool} {Fault = Fault} old new (Ok is) (λ database is. IsTrue is ↔ TellsVersion2 database)
version_told text reads old new rows seen same answers is told = record {
  reads = answers.reads;
  is_open = λ clean is_open. answers.is_open clean;
  told = λ clean is_open has.
      let answer = subst (IsAnswer read.version old.committed.trees []) (sym same) (answers.told clean bureau has read.version (codes "version" ∷ []) 0 reads) in
      let permuted = subst (λ kept. IsPermutation (map (shown (2 ∷ [])) kept) seen) (every (old.committed.trees 0)) (table_answer 0 [] (2 ∷ []) (0 ∷ []) old.committed.trees [] seen answer) in
      let alike = version_both (old.committed.trees 0) seen permuted in
      (λ h. alike.0 (told.0 h), λ h. told.1 (alike.1 h));
}

-- ---- all tables

-- one table more
pub wrong_more : (stored : Stored) (table : StoreTable) (rest tables : List StoreTable) → tables ≡ table ∷ rest → KeepTo table stored → (found : Option StoreTable) → WrongIn rest stored found → WrongIn tables stored found
wrong_more stored table rest tables are kept None all = subst (AllByRecursion (λ t. KeepTo t stored)) (sym are) (kept, all)
wrong_more stored table rest tables are kept (Some wrong) is = is

pub publisher_seen : (database : Database) (finding : Finding) → AreKept (held_by database) → IsPublisherSeen database finding → IsRowSeen database finding
publisher_seen database Whole kept has = (kept, has)
publisher_seen database OtherTables kept none = absurd none
publisher_seen database OtherOrder kept none = absurd none
publisher_seen database OtherVersion kept none = absurd none
publisher_seen database (WrongRow table) kept none = absurd none
publisher_seen database NoPublisher kept none = none

pub row_seen : (database : Database) (finding : Finding) → TellsVersion2 database → IsRowSeen database finding → IsSeen database finding
row_seen database Whole two seen = (two, seen.0, seen.1)
row_seen database OtherTables two none = absurd none
row_seen database OtherOrder two none = absurd none
row_seen database OtherVersion two none = absurd none
row_seen database (WrongRow table) two wrong = wrong
row_seen database NoPublisher two none = none

-- what is seen of a database that obeys its schema is found of it
pub seen_found : (database : Database) → IsDatabase database → database.schema ≡ bureau → (finding : Finding) → IsSeen database finding → IsFound database finding
seen_found database obeys has Whole seen = (λ numbered. ours database obeys has numbered seen.0 seen.1, seen.1, seen.2)
seen_found database obeys has OtherTables seen = absurd seen
seen_found database obeys has OtherOrder seen = absurd seen
seen_found database obeys has OtherVersion seen = (has, seen)
seen_found database obeys has (WrongRow table) seen = (has, seen)
seen_found database obeys has NoPublisher seen = (has, seen)

pub found_so : {Fault : Type 0} (old new : State) (result : Result Finding Fault) → Looks old new result IsSeen → (IsTrue old.is_open → old.committed.schema ≡ bureau)
    → (IsTrue old.is_open → IsDatabase old.committed) → Finds old new result IsFound
found_so old new (Ok finding) look has obeys = record {
  reads = look.reads;
  is_open = look.is_open;
  told = λ clean is_open. seen_found old.committed (obeys is_open) (has is_open) finding (look.told clean is_open (has is_open));
}
found_so old new (Err e) look has obeys = record { reads = look.reads; is_open = tt; told = tt }

-- ---- other tables

others_so : (database : Database) (finding : Finding) → (database.schema ≡ bureau → ⊥) → AreOthers database.schema finding → IsFound database finding
others_so database Whole other none = absurd none
others_so database OtherTables other are = (other, are)
others_so database OtherOrder other are = (other, are)
others_so database OtherVersion other none = absurd none
others_so database (WrongRow table) other none = absurd none
others_so database NoPublisher other none = absurd none

-- the tables aren't the bureau's as it lists them
pub others_found : {Fault : Type 0} (at : State) (result : Result Finding Fault) → (IsTrue at.is_open → at.committed.schema ≡ bureau → ⊥)
    → IfOk result (λ finding. IsTrue at.is_open → AreOthers at.committed.schema finding) → Finds at at result IsFound
others_found at (Ok finding) other are = record {
  reads = no_read at;
  is_open = λ clean on. on;
  told = λ clean on. others_so at.committed finding (other on) (are on);
}
others_found at (Err fault) other are = record { reads = no_read at; is_open = tt; told = tt }
