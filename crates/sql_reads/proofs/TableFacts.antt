-- What a text shows of one table, as rows without their rowids; and the one row that it shows.
use Rattle.std.proofs.Common.{◌≡◌, ◌⊎◌, ℕ, suc, Bool, true, false, cond, length, drop, List, [], ◌∷◌, refl, sym, ◌∙◌, ap, subst, arith, inl, inr, Ok, Err, Result, Some, None}
use Rattle.std.specs.Prelude.{filter, map, Option, option_map, Vec, IfOk, IsErr}
use Rattle.std.specs.declared.alloc.Global.{Global}
use Rattle.std.specs.List.{AllByRecursion, Contains}
use Rattle.std.specs.List.Sorted.{IsPermutation}
use Rattle.std.proofs.lemmas.List.Sorted.{Contains-permutation, IsPermutation-sym, length_permutation}
use Rattle.std.proofs.lemmas.List.{length-map}
use Rattle.sqlite.specs.Query.{IsAnswer, Query}
use Rattle.sqlite.specs.State.{State}
use Rattle.sqlite.specs.Term.{Term}
use Rattle.sqlite.specs.Tree.{Trees}
use Rattle.sqlite_value.specs.Order.{Row}
use Rattle.lemmas.proofs.ListFacts.{first_inside, inside_cases, none_inside}
use Rattle.lemmas.proofs.ResultFacts.{ok_both}
use Rattle.sql_tables.specs.Ours.{IsOurs, held_by}
use Rattle.sql_tables.specs.Reading.{Finds, OnlyReads}
use Rattle.sql_tables.proofs.StopFacts.{read_on, was_clean}
use Rattle.sql_tables.specs.InTrees.{columns_of}
use Rattle.sql_tables.specs.Stored.{Stored, first}
use Rattle.sql_tables.specs.Whole.{IsWhole}
use Rattle.sql_tables.proofs.TreeFacts.{filter_after, shown_after}
use Rattle.sql_texts.specs.Found.{passes, shown}
use Rattle.sql_texts.specs.Meaning.{Reads}
use Rattle.sql_texts.specs.Reads.{from_table}
use Rattle.sql_texts.specs.Schema.{bureau}
use Rattle.sql_texts.proofs.AnswerFacts.{table_answer}
use Rattle.sql_reads.specs.Answering.{Answers, one_of}

-- ---- from an answer to what is found

module _ {A Fault : Type 0} (text : List ℕ) (params asked : Row) (same_params : params ≡ asked) (old new : State) (query : Query) (names : List (List ℕ)) (parameters : ℕ)
    (reads : Reads bureau text query names parameters) where
  pub finds : (rows : Vec Row Global) (seen : List Row) → seen ≡ rows.items → Answers {Fault = Fault} text params old new (Ok rows)
      → (result : Result A Fault) (Said : A → Type 0) → IfOk result Said → (Fact : Stored → A → Type 0)
      → (IsOurs old.committed → IsAnswer query old.committed.trees asked seen → (a : A) → Said a → Fact (held_by old.committed) a) → Finds old new result Fact
  finds rows seen same answers (Ok a) Said said Fact law = record {
    reads = answers.reads;
    is_open = answers.is_open;
    told = λ clean ours.
        law ours (subst (λ p. IsAnswer query old.committed.trees p seen) same_params (subst (IsAnswer query old.committed.trees params) (sym same) (answers.told clean bureau ours.schema query names parameters reads))) a said;
  }
  finds rows seen same answers (Err e) Said said Fact law = record { reads = answers.reads; is_open = tt; told = tt }

  -- the same from two things that are said
  pub finds_of_two : (rows : Vec Row Global) (seen : List Row) → seen ≡ rows.items → Answers {Fault = Fault} text params old new (Ok rows)
      → (result : Result A Fault) (Said Also : A → Type 0) → IfOk result Said → IfOk result Also → (Fact : Stored → A → Type 0)
      → (IsOurs old.committed → IsAnswer query old.committed.trees asked seen → (a : A) → Said a → Also a → Fact (held_by old.committed) a) → Finds old new result Fact
  finds_of_two rows seen same answers result Said Also said also Fact law =
      finds rows seen same answers result (λ a. Said a × Also a) (ok_both Said Also result said also) Fact (λ ours answer a both. law ours answer a both.0 both.1)

-- the rows of an answer are what is found
pub finds_rows : {Fault : Type 0} (text : List ℕ) (params asked : Row) → params ≡ asked → (old new : State) (query : Query) (names : List (List ℕ)) (parameters : ℕ) → Reads bureau text query names parameters
    → (result : Result (Vec Row Global) Fault) → Answers {Fault = Fault} text params old new result → (Fact : Stored → Vec Row Global → Type 0)
    → (IsOurs old.committed → (rows : Vec Row Global) → IsAnswer query old.committed.trees asked rows.items → Fact (held_by old.committed) rows) → Finds old new result Fact
finds_rows text params asked same_params old new query names parameters reads (Ok rows) answers Fact law = record {
  reads = answers.reads;
  is_open = answers.is_open;
  told = λ clean ours. law ours rows (subst (λ p. IsAnswer query old.committed.trees p rows.items) same_params (answers.told clean bureau ours.schema query names parameters reads));
}
finds_rows text params asked same_params old new query names parameters reads (Err e) answers Fact law = record { reads = answers.reads; is_open = tt; told = tt }

-- ---- one read after another

module _ (old mid new : State) where
  -- what two reads find, both find of the rows that are committed
  pub finds_on : {A B C Fault : Type 0} (a : A) (b : B) (c : C) (First : Stored → A → Type 0) (Second : Stored → B → Type 0) (Fact : Stored → C → Type 0)
      → Finds old mid {Answer = A} {Fault = Fault} (Ok a) First → Finds mid new {Answer = B} {Fault = Fault} (Ok b) Second → ((stored : Stored) → IsWhole stored → First stored a → Second stored b → Fact stored c) → Finds old new {Answer = C} {Fault = Fault} (Ok c) Fact
  finds_on a b c First Second Fact first second step = record {
    reads = read_on old mid new first.reads second.reads;
    is_open = second.is_open;
    told = λ clean ours.
        let before = was_clean mid new _ second.reads.survives clean in
        let same : mid.committed ≡ old.committed = (first.reads.keeps before).committed (first.is_open before) in
        step (held_by old.committed) ours.rows.whole (first.told before ours)
        (subst (λ d. Second (held_by d) b) same (second.told clean (subst IsOurs (sym same) ours)));
  }

  -- and they find it together
  pub finds_pair : {A B Fault : Type 0} (a : A) (b : B) (First : Stored → A → Type 0) (Second : Stored → B → Type 0) → Finds old mid {Answer = A} {Fault = Fault} (Ok a) First → Finds mid new {Answer = B} {Fault = Fault} (Ok b) Second
      → Finds old new {Answer = A × B} {Fault = Fault} (Ok (a, b)) (λ stored both. First stored both.0 × Second stored both.1)
  finds_pair a b First Second first second = finds_on a b (a, b) First Second _ first second (λ stored whole one two. (one, two))

  -- what two reads find, and what is made of both
  pub finds_both : {A B C Fault : Type 0} (a : A) (b : B) (result : Result C Fault) (First : Stored → A → Type 0) (Second : Stored → B → Type 0) (Fact : Stored → C → Type 0)
      → Finds old mid {Answer = A} {Fault = Fault} (Ok a) First → Finds mid new {Answer = B} {Fault = Fault} (Ok b) Second → (Said : C → Type 0) → IfOk result Said
      → ((stored : Stored) (c : C) → First stored a → Second stored b → Said c → Fact stored c) → Finds old new {Answer = C} {Fault = Fault} result Fact
  finds_both a b (Ok c) First Second Fact first second Said said step = finds_on a b c First Second Fact first second (λ stored whole one two. step stored c one two said)
  finds_both a b (Err e) First Second Fact first second Said said step = record { reads = read_on old mid new first.reads second.reads; is_open = tt; told = tt }

  -- the same, where the second may be refused
  pub then_finds : {A B Fault : Type 0} (a : A) (result : Result B Fault) (First : Stored → A → Type 0) (Second Fact : Stored → B → Type 0)
      → Finds old mid {Answer = A} {Fault = Fault} (Ok a) First → Finds mid new {Answer = B} {Fault = Fault} result Second
      → ((stored : Stored) (b : B) → First stored a → Second stored b → Fact stored b) → Finds old new {Answer = B} {Fault = Fault} result Fact
  then_finds a (Ok b) First Second Fact first second step = finds_on a b b First Second Fact first second (λ stored whole. step stored b)
  then_finds a (Err e) First Second Fact first second step = record { reads = read_on old mid new first.reads second.reads; is_open = tt; told = tt }

  -- the first told something, and the second is refused
  pub then_refused : {A B C Fault : Type 0} (a : A) (fault : Fault) (First : Stored → A → Type 0) (Second : Stored → B → Type 0) (Fact : Stored → C → Type 0)
      → Finds old mid {Answer = A} {Fault = Fault} (Ok a) First → Finds mid new {Answer = B} {Fault = Fault} (Err fault) Second → Finds old new {Answer = C} {Fault = Fault} (Err fault) Fact
  then_refused a fault First Second Fact first second = record { reads = read_on old mid new first.reads second.reads; is_open = tt; told = tt }

  -- what is refused after another read
  pub refused_on : {C Fault : Type 0} (result : Result C Fault) (Fact : Stored → C → Type 0) → IsErr result → OnlyReads old mid → OnlyReads mid new → Finds old new {Answer = C} {Fault = Fault} result Fact
  refused_on (Ok c) Fact refused first second = let e : false ≡ true = refused in cc
  refused_on (Err e) Fact refused first second = record { reads = read_on old mid new first second; is_open = tt; told = tt }

-- what one read finds says more
pub finds_so : {A B Fault : Type 0} (old new : State) (a : A) (b : B) (First : Stored → A → Type 0) (Fact : Stored → B → Type 0) → Finds old new {Answer = A} {Fault = Fault} (Ok a) First
    → ((stored : Stored) → First stored a → Fact stored b) → Finds old new {Answer = B} {Fault = Fault} (Ok b) Fact
finds_so old new a b First Fact first step = record { reads = first.reads; is_open = first.is_open; told = λ clean ours. step (held_by old.committed) (first.told clean ours) }

-- what is made of what one read finds, and two things that are said of it
pub finds_from : {A B Fault : Type 0} (old new : State) (a : A) (result : Result B Fault) (First : Stored → A → Type 0) (Fact : Stored → B → Type 0) → Finds old new {Answer = A} {Fault = Fault} (Ok a) First
    → (Said Also : B → Type 0) → IfOk result Said → IfOk result Also → ((stored : Stored) → IsWhole stored → (b : B) → First stored a → Said b → Also b → Fact stored b)
    → Finds old new {Answer = B} {Fault = Fault} result Fact
finds_from old new a (Ok b) First Fact first Said Also said also step =
    record { reads = first.reads; is_open = first.is_open; told = λ clean ours. step (held_by old.committed) ours.rows.whole b (first.told clean ours) said also }
finds_from old new a (Err e) First Fact first Said Also said also step = record { reads = first.reads; is_open = tt; told = tt }

-- the same of one thing
pub finds_made : {A B Fault : Type 0} (old new : State) (a : A) (result : Result B Fault) (First : Stored → A → Type 0) (Fact : Stored → B → Type 0) → Finds old new {Answer = A} {Fault = Fault} (Ok a) First
    → (Said : B → Type 0) → IfOk result Said → ((stored : Stored) (b : B) → First stored a → Said b → Fact stored b) → Finds old new {Answer = B} {Fault = Fault} result Fact
finds_made old new a result First Fact first Said said step = finds_from old new a result First Fact first Said Said said said (λ stored whole b one it also. step stored b one it)

-- ---- the rows of one table

shown_later : (indices : List ℕ) (rows : List Row) → map (shown (map suc indices)) rows ≡ map (shown indices) (columns_of rows)
shown_later indices [] = refl
shown_later indices (row ∷ rows) = ap (λ first. first ∷ map (shown (map suc indices)) rows) (sym (shown_after indices row)) ∙ ap (λ others. shown indices (drop 1 row) ∷ others) (shown_later indices rows)

pub table_found : (tree : ℕ) (tests : List Term) (indices order : List ℕ) (params : Row) (trees : Trees) (rows : List Row) (test : Row → Bool)
    → ((row : Row) → passes params tests row ≡ test (drop 1 row)) → IsAnswer (from_table tree tests (map suc indices) order) trees params rows
    → IsPermutation (map (shown indices) (filter test (columns_of (trees tree)))) rows
table_found tree tests indices order params trees rows test alike answer =
    subst (λ found. IsPermutation found rows)
    (shown_later indices (filter (passes params tests) (trees tree)) ∙ ap (map (shown indices)) (filter_after (passes params tests) test alike (trees tree)))
    (table_answer tree tests (map suc indices) order trees params rows answer)

-- a test that every row passes
pub filter_true : {A : Type 0} (rows : List A) → filter (λ row. true) rows ≡ rows
filter_true [] = refl
filter_true (row ∷ rows) = ap (λ others. row ∷ others) (filter_true rows)

-- tests that agree on all rows there are
pub filter_alike : (p q : Row → Bool) (rows : List Row) → AllByRecursion (λ row. p row ≡ q row) rows → filter p rows ≡ filter q rows
filter_alike p q [] all = refl
filter_alike p q (row ∷ rows) all =
    ap (λ b. cond b (row ∷ filter p rows) (filter p rows)) all.0 ∙ ap (λ others. cond (q row) (row ∷ others) others) (filter_alike p q rows all.1)

pub kept_alike : (p q : Row → Bool) (rows : List Row) → ((row : Row) → p row ≡ q row) → filter p rows ≡ filter q rows
kept_alike p q [] all = refl
kept_alike p q (row ∷ rows) all = ap (λ b. cond b (row ∷ filter p rows) (filter p rows)) (all row) ∙ ap (λ others. cond (q row) (row ∷ others) others) (kept_alike p q rows all)

-- ---- one row

-- the one row that a filter keeps passes its test
pub one_passes : (test : Row → Bool) (rows : List Row) (x : Row) → filter test rows ≡ x ∷ [] → test x ≡ true
one_passes test [] x h = cc
one_passes test (row ∷ rows) x h = by (test row) refl h (one_passes test rows x)
  where
    by : (b : Bool) → test row ≡ b → cond b (row ∷ filter test rows) (filter test rows) ≡ x ∷ [] → (filter test rows ≡ x ∷ [] → test x ≡ true) → test x ≡ true
    by true at e rest = let same : row ≡ x = cc in ap test (sym same) ∙ at
    by false at e rest = rest e

said : {A : Type 0} (o : Option A) (found : Option A) → option_map Some o ≡ Some found → (a : A) × (o ≡ Some a) × (found ≡ Some a)
said None found h = cc
said (Some a) found h = let e : Some a ≡ found = cc in (a, refl, sym e)

no_rows : (xs : List Row) → length xs ≡ 0 → xs ≡ []
no_rows [] h = refl
no_rows (x ∷ xs) h = absurd (omega (arith, h))

module _ {A : Type 0} (read : Row → Option A) (f : Row → Row) where
  -- no row is shown, or the one that there is
  abbrev pub IsOne : List Row → Option A → Type 0
  IsOne xs found = ((xs ≡ []) × (found ≡ None)) ⊎ ((x : Row) × (xs ≡ x ∷ []) × (a : A) × (read (f x) ≡ Some a) × (found ≡ Some a))

  pub one_case : (xs rows : List Row) (found : Option A) → IsPermutation (map f xs) rows → one_of read rows ≡ Some found → IsOne xs found
  one_case xs [] found permuted h =
      let none : length xs ≡ 0 = sym (length-map xs f) ∙ sym (length_permutation (map f xs) [] permuted) in
      let e : None ≡ found = cc in inl (no_rows xs none, sym e)
  one_case [] (row ∷ []) found permuted h = absurd (omega (arith, length_permutation (map f []) (row ∷ []) permuted))
  one_case (x ∷ []) (row ∷ []) found permuted h =
      let here : Contains (f x ∷ []) row = Contains-permutation (row ∷ []) (f x ∷ []) row (IsPermutation-sym (f x ∷ []) (row ∷ []) permuted) (first_inside row []) in
      let same : f x ≡ row = elim (inside_cases (f x) row [] here) [ inl e ↦ e | inr e ↦ absurd (none_inside row e) ] in
      let its = said (read row) found h in
      inr (x, refl, its.0, ap read same ∙ its.1, its.2)
  one_case (x ∷ y ∷ xs) (row ∷ []) found permuted h = absurd (omega (arith, length_permutation (map f (x ∷ y ∷ xs)) (row ∷ []) permuted))
  one_case xs (row ∷ other ∷ rows) found permuted h = cc

-- the one row as it is shown, or none
pub one_shown : (f : Row → Row) (xs rows : List Row) (found : Option Row) → IsPermutation (map f xs) rows → one_of Some rows ≡ Some found → option_map f (first xs) ≡ found
one_shown f xs rows found permuted is = elim (one_case Some f xs rows found permuted is) [
  | inl none ↦ ap (λ rs. option_map f (first rs)) none.0 ∙ sym none.1
  | inr its ↦ ap (λ rs. option_map f (first rs)) its.1 ∙ its.3 ∙ sym its.4
]
