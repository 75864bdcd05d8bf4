-- What an open that fails leaves of files that hold a database.
use Rattle.std.proofs.Common.{◌≡◌, ◌≤◌, ◌<◌, ◌⊎◌, ℕ, IsTrue, List, Option, Some, [], ap, arith, false, get_or-take, inl, inr, length, slice_index, subst, sym, take, true, unwrap_or, ◌∙◌}
use Rattle.std.proofs.Math.Logic.{∥∥₁_elim, ∥∥₁_map}
use Rattle.std.proofs.lemmas.Bool.{cases_Bool, cases_eq}
use Rattle.std.proofs.lemmas.List.{length-take}
use Rattle.std.proofs.lemmas.Bool.Decides.{nat_tests}
use Rattle.sqlite_disk.specs.declared.Disk.{Ghosts}
use Rattle.sqlite_disk.specs.declared.Files.{Files}
use Rattle.sqlite_wal.specs.Files.{outcomes}
use Rattle.sqlite_wal.specs.Recovery as raw
use Rattle.sqlite_wal.specs.Recovery.{Image, IsIgnored}
use Rattle.sqlite_wal.proofs.AppendLemmas.{some_value}
use Rattle.sqlite_wal.proofs.CreateLemmas.{begun_is_not_blank}
use Rattle.sqlite_pool.specs.File.{header_in}
use Rattle.sqlite_pool.specs.Header.{first_page}
use Rattle.sqlite_pool.specs.Stored.{Adopts, is_summed, reserved, sealed, stored_size, used_size}
use Rattle.sqlite_pool.specs.StoredLaws.{trimmed_some}
use Rattle.sqlite_pool.proofs.ProbeLemmas.{first_byte, reserved_word, size_by_file, size_by_log}
use Rattle.sqlite_trees.specs.Tree.{Trees}
use Rattle.sqlite_schema.specs.declared.schema.Schema.{Schema}
use Rattle.sqlite_catalog.specs.Listing.{IsSound}
use Rattle.sqlite_store.specs.declared.catalog.Wanted.{Wanted}
use Rattle.sqlite_store.specs.Listing.{IsOurs}
use Rattle.sqlite_store.specs.FileStore as store
use Rattle.sqlite_store.specs.FileStore.{recovers, view}
use Rattle.sqlite_store.specs.Unopened.{state_of}
use Rattle.sqlite_store.specs.declared.store.FileStore.{FileStore}
use Rattle.sqlite_store.specs.declared.store.open.Unopened.{Unopened}
use Rattle.sqlite.specs.Files.{AreFoundIn, HoldsDatabase, IsCleanLeft, IsNothing, LeavesFiles, NamesSize, SaysSums, image_of}
use Rattle.sqlite.specs.declared.file.Leftover.TheVariants as left
use Rattle.sqlite.proofs.FileLemmas.{is_something}
use Rattle.sqlite.proofs.ListingLemmas.{empty_is_sound}
use Rattle.sqlite.specs.declared.file.Leftover.{Leftover}
use Rattle.bureau_sql.specs.Files.{HoldTrees}
use Rattle.store_runs.specs.Ended.{IsLeftOf}
use Rattle.sql_texts.specs.Schema.{made}
use Rattle.store_runs.specs.Keeping.{HasNoTables, IsUsual, MayLeave}
use Rattle.store_runs.proofs.EndFacts.{left_trees}

-- the files name one page size
same_stored : (image : Image) (trees : Trees) (held : HoldsDatabase image trees) (size : ℕ) → NamesSize image (stored_size size) → stored_size size ≡ stored_size held.0
same_stored image trees held size names =
    let few : reserved held.0 ≤ 8 = grind arith in
    let large : 504 ≤ held.0 = omega (arith, held.1.0) in
    elim (cases_eq (stored_size size) (stored_size held.0)) [
      | inl same ↦ same
      | inr other ↦ absurd (
          let seen = λ (it : ¬ IsIgnored image.log). other (names.0 it ∙ size_by_log held.0 image held.2.pages held.2.found it) in
          seen (λ it. other (names.1 it ∙ size_by_file held.0 image held.2.pages held.2.found large held.2.ours.file.sound it)))
    ]

-- and say whether they end in sums
same_sums : (image : Image) (trees : Trees) (held : HoldsDatabase image trees) (size : ℕ) → (IsTrue (is_summed size) → SaysSums (stored_size size) image)
    → stored_size size ≡ stored_size held.0 → (IsTrue (is_summed held.0) → IsTrue (is_summed size)) → is_summed size ≡ is_summed held.0
same_sums image trees held size says same usual = elim (cases_Bool (is_summed held.0)) [
  | inl on ↦ usual on ∙ sym on
  | inr plain ↦ (
      let few : reserved held.0 ≤ 8 = grind arith in
      let none : reserved held.0 ≡ 0 = grind (arith, nat_tests) in
      let found = held.2.found in
      let page = reserved_word held.0 _ _ found (omega (arith, held.1.0)) held.2.ours.file.sound in
      elim (cases_Bool (is_summed size)) [
        | inr off ↦ off ∙ sym plain
        | inl on ↦ absurd (
            let word = says on found.stored page.0 (subst (λ n. raw.Recovers n image found.stored) (sym same) found.found) page.1 (page.2 ∙ sym same) in
            omega (arith, word, page.3, none))
      ])
]

same_size : (a b : ℕ) → stored_size a ≡ stored_size b → is_summed a ≡ is_summed b → a ≡ b
same_size a b stored summed = grind (arith, nat_tests)

module _ (schema : Schema) (Are : Trees → Type 0) (sound : (trees : Trees) → Are trees → IsSound schema trees) {D : Type 0} (g : Ghosts D) (files : Files D)
    (only : (image : Image) → outcomes g files.log files.db image → image ≡ image_of g files) (held : HoldTrees Are (image_of g files)) where
  back : (image : Image) → outcomes g files.log files.db image → HoldTrees Are image
  back image may = subst (HoldTrees Are) (sym (only image may)) held

  files_left : (now : Files D) → LeavesFiles {g = g} files (left.Files now) → (image : Image) → outcomes g now.log now.db image → HoldTrees Are image
  files_left now leaves image may = back image (leaves image may)

  -- where pages that end in sums are taken for such
  unopened_left : (now : Unopened D g) → ((trees : Trees) (it : HoldsDatabase (image_of g files) trees) → IsTrue (is_summed it.0) → IsTrue (is_summed (state_of now).page_size))
      → LeavesFiles {g = g} files (left.Unopened now) → (image : Image) → (state_of now).may_leave image → HoldTrees Are image
  unopened_left now usual (inl nothing) image may = ∥∥₁_elim held squash₁ (λ it. absurd (is_something _ it.0 it.1 nothing.0))
  unopened_left now usual (inr leaves) image may = elim (leaves.4 image may).same [
    | inl old ↦ back image old
    | inr stands ↦ ∥∥₁_map held (λ it.
        let same = same_stored _ it.0 it.1 (state_of now).page_size leaves.1 in
        let size = same_size (state_of now).page_size it.1.0 same (same_sums _ it.0 it.1 (state_of now).page_size leaves.3 same (usual it.0 it.1)) in
        let was = it.1.2 in
        let found = subst (λ n. Adopts n image was.pages) size (stands.1 was.pages (subst (λ n. Adopts n (image_of g files) was.pages) (sym size) was.found)) in
        let now_held : HoldsDatabase image it.0 = (
          it.1.0,
          it.1.1,
          record { pages = was.pages; wanted = was.wanted; schema = was.schema; found = found; ours = was.ours; reads = was.reads; sound = was.sound },
        ) in
        let r : (trees : Trees) × HoldsDatabase image trees × Are trees = (it.0, now_held, it.2) in r)
  ]

  -- where its trees are numbered
  store_left : (now : FileStore D g) → IsTrue (view now).is_numbered → LeavesFiles {g = g} files (left.Store now)
      → (image : Image) → (store.state now).may_leave image → HoldTrees Are image
  store_left now numbered leaves image may = ∥∥₁_elim held squash₁ (λ it.
      let so : (trees : Trees) → recovers now trees → Are trees = λ trees found. subst Are (sym ((leaves trees found).1 it.0 it.1)) it.2 in
      left_trees now Are numbered (λ trees found. (schema, sound trees (so trees found))) so image may)

-- An open that failed leaves what the files held, as far as the toolchain tells.
pub failed_open : (schema : Schema) (Are : Trees → Type 0) → ((trees : Trees) → Are trees → IsSound schema trees) → {D : Type 0} (g : Ghosts D) (from : Image) (it : Leftover D g)
    → IsLeftOf from it → HoldTrees Are from → IsCleanLeft it → IsUsual from it → (image : Image) → MayLeave it image → HoldTrees Are image
failed_open schema Are sound g from (left.Files now) of held clean usual image may =
    files_left schema Are sound g of.files (λ image may. of.only image may ∙ sym of.seen) (subst (HoldTrees Are) (sym of.seen) held) now (of.leaves clean) image may
failed_open schema Are sound g from (left.Unopened now) of held clean usual image may =
    unopened_left schema Are sound g of.files (λ image may. of.only image may ∙ sym of.seen) (subst (HoldTrees Are) (sym of.seen) held) now
    (subst (λ i. IsUsual {g = g} i (left.Unopened now)) (sym of.seen) usual) (of.leaves clean) image may
failed_open schema Are sound g from (left.Store now) of held clean usual image may =
    store_left schema Are sound g of.files (λ image may. of.only image may ∙ sym of.seen) (subst (HoldTrees Are) (sym of.seen) held) now usual (of.leaves clean) image may

-- ---- files that hold no database yet

-- where a database is adopted, its first page begins as one does
adopted : (size : ℕ) (image : Image) (pages : ℕ → Option (List ℕ)) (wanted : List Wanted) → Adopts size image pages → IsOurs size true wanted pages → IsNothing image → ⊥
adopted size image pages wanted it ours nothing =
    let first = some_value (it.stored 1) it.whole.first in
    let long = it.whole.sized 1 first.0 first.1 in
    let page : pages 1 ≡ Some (take size first.0) = ap (λ (p : ℕ → Option (List ℕ)). p 1) (sym it.shows) ∙ trimmed_some size it.stored 1 first.0 first.1 in
    let head : header_in pages ≡ take 100 (take size first.0) = ap (λ (o : Option (List ℕ)). take 100 (unwrap_or o [])) page in
    let all = ap (take 16) (sym head) ∙ ours.file.sound.header.0.magic in
    let many : length (take 16 (take 100 (take size first.0))) ≡ 16 = ap length all in
    let sixteen = length-take 16 (take 100 (take size first.0)) in
    let hundred = length-take 100 (take size first.0) in
    let cut = length-take size first.0 in
    let big : 16 ≤ size = omega (arith, many, sixteen, hundred, cut) in
    let whole : 16 ≤ length first.0 = omega (arith, many, sixteen, hundred, cut) in
    let byte : slice_index first.0 0 ≡ 83 =
    sym (get_or-take 16 (take 100 (take size first.0)) 0 0 (omega arith) ∙ get_or-take 100 (take size first.0) 0 0 (omega arith) ∙ get_or-take size first.0 0 0 (omega arith))
    ∙ ap (λ (b : List ℕ). slice_index b 0) all in
    let never = λ (other : ℕ) (some : 0 < other). let gate = first_byte other some in
    begun_is_not_blank (sealed (first_page other)) first.0 (stored_size size) image it.stored it.found first.1 long (omega (arith, long, whole)) (byte ∙ sym gate)
    (λ none. let never = sym gate ∙ none in omega arith) in
    elim nothing [ inl plain ↦ never (used_size 4096 false) (omega arith) plain | inr summed ↦ never (used_size 4096 true) (omega arith) summed ]

-- what is found where there is nothing has no tables
pub found_nothing : (image : Image) (trees : Trees) → IsNothing image → AreFoundIn image trees → HasNoTables trees
found_nothing image trees nothing (inl (size, pages, wanted, adopts, ours, is)) =
    absurd (∥∥₁_elim ours (λ x y. absurd x) (λ own. adopted size image pages wanted adopts own nothing))
found_nothing image trees nothing (inr (none, empty)) = empty_is_sound trees empty.1

-- an open that failed over such files leaves none, or one that has no tables
pub new_left : {D : Type 0} (g : Ghosts D) (from : Image) (it : Leftover D g) → IsLeftOf from it → IsNothing from → IsCleanLeft it → IsUsual from it
    → (image : Image) → MayLeave it image → IsNothing image ⊎ HoldTrees HasNoTables image
new_left g from (left.Files now) of nothing clean usual image may = inl (subst IsNothing (sym (of.only image (of.leaves clean image may))) nothing)
new_left g from (left.Unopened now) of nothing clean usual image may = elim (of.leaves clean) [
  | inl begun ↦ elim (begun.1 image may) [
    | inl old ↦ inl (subst IsNothing (sym (of.only image old)) nothing)
    | inr new ↦ elim new [
      | inl none ↦ inl none
      | inr empty ↦ inr (∥∥₁_map empty (λ it.
          let r : (trees : Trees) × HoldsDatabase image trees × HasNoTables trees = (it.0, it.1, empty_is_sound it.0 it.2.1) in r))
    ]
  ]
  | inr not ↦ absurd (not.0 (subst IsNothing (sym of.seen) nothing))
]
new_left g from (left.Store now) of nothing clean usual image may =
    let none : (trees : Trees) → recovers now trees → HasNoTables trees =
    λ trees found. found_nothing from trees nothing (subst (λ i. AreFoundIn i trees) of.seen (of.leaves clean trees found).0) in
    inr (left_trees now HasNoTables usual (λ trees found. (made 0 0, none trees found)) none image may)
