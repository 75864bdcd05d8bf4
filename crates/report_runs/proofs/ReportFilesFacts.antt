-- What is read of a report's files.
use Rattle.std.proofs.Common.{◌≡◌, ◌≢◌, inl, inr, ℕ, zero, suc, ◌+◌, ◌<◌, List, [], ◌∷◌, ◌++◌, codes, length, map, take, get_or, refl, sym, ◌∙◌, ap, subst, arith, Option, Some, None, Result, Ok, Err, string_bytes}
use Rattle.std.proofs.KnownBytes.{Keeps-refl}
use Rattle.std.proofs.lemmas.List.{map-append, take_more}
use Rattle.std.specs.Global.{Vec}
use Rattle.std.specs.Io.KnownBytes.{Keeps}
use Rattle.std.specs.List.{slice_get}
use Rattle.std.specs.Option.{option_map, option_to_list}
use Rattle.std.specs.Prelude.{IfErr, IfOk, IfSome, IsErrAnd, IsSome}
use Rattle.file_reports.specs.Inputs.{Inputs}
use Rattle.file_reports.specs.declared.fault.Input.TheVariants as input
use Rattle.transfer.specs.Transfer.{ConsumesUpTo}
use Rattle.report_runs.specs.Holds.{most_read}
use Rattle.report_runs.specs.ReportFiles.{AreInputs, AreRead, IsFirstUnread, IsFrontOf, IsRead, IsReadIfGiven, IsReport, IsTakenBy, names_in}
use Rattle.report_runs.specs.Reporting.{AreNamed}
use Rattle.run_parts.specs.Files.{KnownFile, Unknown, Missing, Holds, IsOpened}
use Rattle.run_parts.specs.declared.report_files.ReportFiles.{ReportFiles}
use Rattle.run_parts.specs.Outputs.{IsMeant, Outputs}
use Rattle.report_runs.specs.declared.reporting.Question.{Question}
use Rattle.report_runs.specs.Contents.{IsToldAs, IsUnread}
use Rattle.report_runs.specs.declared.report_files.Unread.{Unread}
use Rattle.report_runs.specs.declared.report_files.Unread.TheVariants as why

-- ---- one file

-- what is read of a file is its front
front_read : (file : KnownFile) (before : Option (List ℕ)) (bytes : List ℕ) → IsOpened file before → IfSome before (λ all. bytes ≡ take most_read all) → IsFrontOf file bytes
front_read Unknown before bytes opened front = tt
front_read Missing before bytes opened front = absurd opened
front_read (Holds known) None bytes opened front = absurd (cc opened)
front_read (Holds known) (Some all) bytes opened front = front ∙ ap (take most_read) (same opened)
  where
    same : Some all ≡ Some known → all ≡ known
    same e = cc e

module _ (files : List ℕ → KnownFile) (name : List ℕ) where
  -- standard input is read
  pub input_read : {E : Type 0} (result : Result (Vec ℕ) E) (input rest : Option (List ℕ)) → name ≡ codes "-" → IfOk result (λ source. IfSome input (λ all. source.items ≡ take most_read all))
      → ConsumesUpTo most_read input rest → IfOk result (λ source. IsRead files name source.items input rest)
  input_read (Ok source) input rest minus front taken = inl (minus, front, taken)
  input_read (Err fault) input rest minus front taken = tt

  -- a file is read
  pub file_read : {E : Type 0} (result : Result (Vec ℕ) E) (before input : Option (List ℕ)) → name ≢ codes "-" → IsOpened (files name) before
      → IfOk result (λ source. IfSome before (λ all. source.items ≡ take most_read all)) → IfOk result (λ source. IsRead files name source.items input input)
  file_read (Ok source) before input other opened front = inr (other, front_read (files name) before source.items opened front, Keeps-refl input)
  file_read (Err fault) before input other opened front = tt

  -- standard input stayed as it was before
  kept_before : (bytes : List ℕ) (input between rest : Option (List ℕ)) → Keeps input between → IsRead files name bytes between rest → IsRead files name bytes input rest
  kept_before bytes None between rest kept (inl (minus, front, taken)) = inl (minus, tt, (taken.0, taken.1, tt))
  kept_before bytes None between rest kept (inr (other, front, stays)) = inr (other, front, tt)
  kept_before bytes (Some xs) None rest kept is = absurd kept
  kept_before bytes (Some xs) (Some ys) rest kept is = subst (λ (zs : List ℕ). IsRead files name bytes (Some zs) rest) kept is

-- ---- several files

module _ (files : List ℕ → KnownFile) where
  -- one file more was read
  after : (names contents : List (List ℕ)) (name bytes : List ℕ) (input between rest : Option (List ℕ)) → AreRead files names contents input between
      → IsRead files name bytes between rest → AreRead files (names ++ name ∷ []) (contents ++ bytes ∷ []) input rest
  after [] [] name bytes input between rest before now = (rest, kept_before files name bytes input between rest before now, Keeps-refl rest)
  after [] (other ∷ contents) name bytes input between rest before now = absurd before
  after (other ∷ names) [] name bytes input between rest before now = absurd before
  after (other ∷ names) (these ∷ contents) name bytes input between rest before now =
      (before.0, before.1, after names contents name bytes before.0 between rest before.2 now)

  module _ {V W : Type 0} (f : V → List ℕ) (h : W → List ℕ) (names : List V) (read : List W) (i : ℕ) (name : V) (low : i < length names) (is : name ≡ get_or names i name) where
    pub read_more : (bytes : W) (input between rest : Option (List ℕ)) → AreRead files (map f (take i names)) (map h read) input between → IsRead files (f name) (h bytes) between rest
        → AreRead files (map f (take (i + 1) names)) (map h (read ++ bytes ∷ [])) input rest
    read_more bytes input between rest before now =
        let names_are : map f (take (i + 1) names) ≡ map f (take i names) ++ f name ∷ [] =
        ap (map f) (take_more names i name low) ∙ map-append f (take i names) (get_or names i name ∷ [])
        ∙ ap (λ v. map f (take i names) ++ f v ∷ []) (sym is) in
        subst (λ ns. AreRead files ns (map h (read ++ bytes ∷ [])) input rest) (sym names_are)
        (subst (λ bs. AreRead files (map f (take i names) ++ f name ∷ []) bs input rest) (sym (map-append h read (bytes ∷ [])))
        (after (map f (take i names)) (map h read) (f name) (h bytes) input between rest before now))

  -- each file that is read has a name
  as_many : (names contents : List (List ℕ)) (input rest : Option (List ℕ)) → AreRead files names contents input rest → length contents ≡ length names
  as_many [] [] input rest are = refl
  as_many [] (bytes ∷ contents) input rest are = absurd are
  as_many (name ∷ names) [] input rest are = absurd are
  as_many (name ∷ names) (bytes ∷ contents) input rest are = ap suc (as_many names contents are.0 rest are.2)

  given_named : (name bytes : Option (List ℕ)) (input rest : Option (List ℕ)) → IsReadIfGiven files name bytes input rest → IsSome bytes → IsSome name
  given_named None None input rest is there = there
  given_named None (Some bytes) input rest is there = absurd is
  given_named (Some name) bytes input rest is there = refl

  has_item : {A : Type 0} (xs : List A) (i : ℕ) → i < length xs → IsSome (slice_get xs i)
  has_item [] i low = absurd (omega (arith, low))
  has_item (x ∷ xs) zero low = refl
  has_item (x ∷ xs) (suc i) low = has_item xs i (omega (arith, low))

  pub are_named : (names : ReportFiles) (inputs : Inputs) (before rest : Option (List ℕ)) → AreInputs files names inputs before rest → AreNamed names inputs
  are_named names inputs before rest are input.Zone there = refl
  are_named names inputs before rest are input.Categories there = given_named (option_map string_bytes names.categories) inputs.categories are.after_zone are.after_categories are.categories_are there
  are_named names inputs before rest are input.Received there = given_named (option_map string_bytes names.received) inputs.received are.after_categories are.after_received are.received_is there
  are_named names inputs before rest are (input.Publication index) there =
      has_item (map string_bytes names.publications.items) index
      (subst (λ n. index < n) (as_many (map string_bytes names.publications.items) inputs.publications are.after_received rest are.publications_are) there)

-- ---- a file that can't be read

kept_taken : (name : List ℕ) (input between rest : Option (List ℕ)) → Keeps input between → IsTakenBy name between rest → IsTakenBy name input rest
kept_taken name None between rest kept (inl (minus, taken)) = inl (minus, (taken.0, taken.1, tt))
kept_taken name None between rest kept (inr (other, stays)) = inr (other, tt)
kept_taken name (Some xs) None rest kept is = absurd kept
kept_taken name (Some xs) (Some ys) rest kept is = subst (λ (zs : List ℕ). IsTakenBy name (Some zs) rest) kept is

module _ (files : List ℕ → KnownFile) where
  kept_first : (names : List (List ℕ)) (name : List ℕ) (input between rest : Option (List ℕ)) → Keeps input between → IsFirstUnread files names name between rest
      → IsFirstUnread files names name input rest
  kept_first [] name input between rest kept is = absurd is
  kept_first (other ∷ names) name input between rest kept (inl here) = inl (here.0, kept_taken name input between rest kept here.1)
  kept_first (other ∷ names) name input between rest kept (inr later) =
      inr (later.0, later.1, kept_before files other later.0 input between later.1 kept later.2, later.3)

  -- it is the first of more names, too
  first_before : (names more : List (List ℕ)) (name : List ℕ) (input rest : Option (List ℕ)) → IsFirstUnread files names name input rest
      → IsFirstUnread files (names ++ more) name input rest
  first_before [] more name input rest is = absurd is
  first_before (other ∷ names) more name input rest (inl here) = inl here
  first_before (other ∷ names) more name input rest (inr later) = inr (later.0, later.1, later.2, first_before names more name later.1 rest later.3)

  -- it is the first after files that were read
  first_after : (names contents more : List (List ℕ)) (name : List ℕ) (input between rest : Option (List ℕ)) → AreRead files names contents input between
      → IsFirstUnread files more name between rest → IsFirstUnread files (names ++ more) name input rest
  first_after [] [] more name input between rest are is = kept_first more name input between rest are is
  first_after [] (bytes ∷ contents) more name input between rest are is = absurd are
  first_after (other ∷ names) [] more name input between rest are is = absurd are
  first_after (other ∷ names) (bytes ∷ contents) more name input between rest are is =
      inr (bytes, are.0, are.1, first_after names contents more name are.0 between rest are.2 is)

  -- the files of the names before an index were read, and the one at it can't be
  pub first_at : {V : Type 0} (f : V → List ℕ) (names : List V) (i : ℕ) (item : V) (contents : List (List ℕ)) (name : List ℕ) (input between rest : Option (List ℕ))
      → i < length names → item ≡ get_or names i item → AreRead files (map f (take i names)) contents input between
      → IsFirstUnread files (f item ∷ []) name between rest → IsFirstUnread files (map f names) name input rest
  first_at f [] i item contents name input between rest low is are first = absurd (omega (arith, low))
  first_at f (other ∷ names) zero item [] name input between rest low is are (inl here) =
      inl (here.0 ∙ ap f is, kept_taken name input between rest are here.1)
  first_at f (other ∷ names) zero item [] name input between rest low is are (inr none) = absurd none.3
  first_at f (other ∷ names) zero item (bytes ∷ contents) name input between rest low is are first = absurd are
  first_at f (other ∷ names) (suc i) item [] name input between rest low is are first = absurd are
  first_at f (other ∷ names) (suc i) item (bytes ∷ contents) name input between rest low is are first =
      inr (bytes, are.0, are.1, first_at f names i item contents name are.0 between rest (omega (arith, low)) is are.2 first)

  -- why some of the files aren't read is why not all of them are
  pub unread_of : {T : Type 0} (result : Result T Unread) (some all : List (List ℕ)) (between input rest : Option (List ℕ)) (unread : Unread)
      → IsErrAnd result (λ told. told ≡ unread) → IsUnread files some between rest unread
      → ((name : List ℕ) → IsFirstUnread files some name between rest → IsFirstUnread files all name input rest) → IfErr result (IsUnread files all input rest)
  unread_of (Ok value) some all between input rest unread is of also = absurd is
  unread_of (Err told) some all between input rest unread is of also = subst (IsUnread files all input rest) (sym is) (by unread of)
    where
      by : (unread : Unread) → IsUnread files some between rest unread → IsUnread files all input rest unread
      by (why.File name) of = also name.now of
      by why.Memory of = tt

  given_read : (name bytes : Option (List ℕ)) (input rest : Option (List ℕ)) → IsReadIfGiven files name bytes input rest
      → AreRead files (option_to_list name) (option_to_list bytes) input rest
  given_read None None input rest is = is
  given_read None (Some bytes) input rest is = absurd is
  given_read (Some name) None input rest is = absurd is
  given_read (Some name) (Some bytes) input rest is = (rest, is, Keeps-refl rest)

  module _ (names : ReportFiles) (name : List ℕ) where
    abbrev zone : List ℕ
    zone = string_bytes names.zone

    abbrev categories : Option (List ℕ)
    categories = option_map string_bytes names.categories

    abbrev received : Option (List ℕ)
    received = option_map string_bytes names.received

    abbrev publications : List (List ℕ)
    publications = map string_bytes names.publications.items

    -- what can't be read is the file of the categories
    pub categories_unread : (bytes : List ℕ) (input between rest : Option (List ℕ)) → IsRead files zone bytes input between
        → IsFirstUnread files (option_to_list categories) name between rest → IsFirstUnread files (names_in names) name input rest
    categories_unread bytes input between rest read is =
        inr (bytes, between, read, first_before (option_to_list categories) (option_to_list received ++ publications) name between rest is)

    -- it comes after the file of the categories
    after_categories : (bytes : List ℕ) (patterns : Option (List ℕ)) (input between later rest : Option (List ℕ)) → IsRead files zone bytes input between
        → IsReadIfGiven files categories patterns between later → IsFirstUnread files (option_to_list received ++ publications) name later rest
        → IsFirstUnread files (names_in names) name input rest
    after_categories bytes patterns input between later rest read given is =
        inr (
          bytes,
          between,
          read,
          first_after (option_to_list categories) (option_to_list patterns) (option_to_list received ++ publications) name between later rest
              (given_read categories patterns between later given) is,
        )

    -- it is the file of the received SYSMODs
    pub received_unread : (bytes : List ℕ) (patterns : Option (List ℕ)) (input between later rest : Option (List ℕ)) → IsRead files zone bytes input between
        → IsReadIfGiven files categories patterns between later → IsFirstUnread files (option_to_list received) name later rest
        → IsFirstUnread files (names_in names) name input rest
    received_unread bytes patterns input between later rest read given is =
        after_categories bytes patterns input between later rest read given (first_before (option_to_list received) publications name later rest is)

    -- it is the file of a publication
    pub publications_unread : (bytes : List ℕ) (patterns ids : Option (List ℕ)) (input between later last rest : Option (List ℕ)) → IsRead files zone bytes input between
        → IsReadIfGiven files categories patterns between later → IsReadIfGiven files received ids later last → IsFirstUnread files publications name last rest
        → IsFirstUnread files (names_in names) name input rest
    publications_unread bytes patterns ids input between later last rest read given received_given is =
        after_categories bytes patterns input between later rest read given
        (first_after (option_to_list received) (option_to_list ids) publications name later last rest (given_read received ids later last received_given) is)

-- a run that ends before anything is made of its files
pub stopped : (files : List ℕ → KnownFile) (question : Question) (names : ReportFiles) (input rest : Option (List ℕ)) (outputs : Outputs) (status : ℕ) (unread : Unread)
    → IsUnread files (names_in names) input rest unread → Keeps outputs.output outputs.written
    → ((line : Option (List ℕ)) × IsToldAs unread outputs.errors line × IsMeant names.explain line outputs.told) → status ≡ 3 → IsReport files question names input rest outputs status
stopped files question names input rest outputs status (why.File name) first kept told is =
    inr (inr (record { line = told.0; output = kept; told = inl (name.now, first, told.1); meant = told.2; status_is = is }))
stopped files question names input rest outputs status why.Memory first kept told is =
    inr (inr (record { line = told.0; output = kept; told = inr told.1; meant = told.2; status_is = is }))
