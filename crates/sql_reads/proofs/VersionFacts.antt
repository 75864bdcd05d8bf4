-- The version that a database's row tells.
use Rattle.std.proofs.Common.{◌≡◌, ◌∙◌, ℕ, List, [], ◌∷◌, Ok, Option, Some, ap, arith, inl, inr, pos, subst, sym}
use Rattle.std.specs.Prelude.{Vec, codes, filter, map}
use Rattle.std.specs.List.{Contains}
use Rattle.std.specs.List.Sorted.{IsPermutation}
use Rattle.std.specs.declared.alloc.Global.{Global}
use Rattle.std.proofs.lemmas.List.Sorted.{Contains-permutation, IsPermutation-sym, length_permutation}
use Rattle.sqlite.specs.State.{HasCleanDisk, State}
use Rattle.sqlite.specs.Query.{IsAnswer}
use Rattle.sqlite.specs.Tree.{Trees}
use Rattle.sqlite.specs.declared.types.Value.TheVariants.{Int}
use Rattle.sqlite_value.specs.Order.{Row}
use Rattle.lemmas.proofs.ListFacts.{first_inside, inside_cases, none_inside}
use Rattle.sql_texts.specs.Meaning.{Reads}
use Rattle.sql_texts.specs.Reads as read
use Rattle.sql_texts.specs.Found.{passes, shown}
use Rattle.sql_texts.specs.Schema.{bureau, bureau_1}
use Rattle.sql_texts.proofs.AnswerFacts.{table_answer}
use Rattle.sql_tables.specs.Earlier.{IsOfVersion1}
use Rattle.sql_tables.specs.Ours.{IsOurs, version_rows}
use Rattle.sql_reads.specs.Answering.{Answers}
use Rattle.sql_reads.specs.Version.{HasVersion, version_in}

pub version_told : {Fault : Type 0} (text : List ℕ) (old new : State) (rows : Vec Row Global) (seen : List Row) → Reads bureau text read.version (codes "version" ∷ []) 0
    → seen ≡ rows.items → Answers {Fault = Fault} text [] old new (Ok rows) → (told : Option ℕ) → told ≡ version_in seen
    → HasCleanDisk new → HasVersion told old.committed
version_told text old new rows seen reads same answers told is clean =
    record { text = text; asks = reads; rows = rows.items; shown = answers.shown clean; told = is ∙ ap version_in same }

-- a list of one is in no other order
pub one_again : (row : Row) (rows : List Row) → IsPermutation (row ∷ []) rows → rows ≡ row ∷ []
one_again row [] permuted = absurd (omega (arith, length_permutation (row ∷ []) [] permuted))
one_again row (other ∷ []) permuted =
    let here : Contains (row ∷ []) other = Contains-permutation (other ∷ []) (row ∷ []) other (IsPermutation-sym (row ∷ []) (other ∷ []) permuted) (first_inside other []) in
    elim (inside_cases row other [] here) [ inl e ↦ ap (λ it. it ∷ []) (sym e) | inr e ↦ absurd (none_inside other e) ]
one_again row (other ∷ more ∷ rows) permuted = absurd (omega (arith, length_permutation (row ∷ []) (other ∷ more ∷ rows) permuted))

version_is : (version : ℕ) (trees : Trees) (rows : List Row) → trees 0 ≡ version_rows version → IsAnswer read.version trees [] rows → version_in rows ≡ Some version
version_is version trees rows is answer =
    let permuted = table_answer 0 [] (2 ∷ []) (0 ∷ []) trees [] rows answer in
    let one : IsPermutation ((Int (pos version) ∷ []) ∷ []) rows = subst (λ stored. IsPermutation (map (shown (2 ∷ [])) (filter (passes [] []) stored)) rows) is permuted in
    ap version_in (one_again (Int (pos version) ∷ []) rows one)

-- a database of ours is of version 2
pub our_version : {Fault : Type 0} (text : List ℕ) (old new : State) (rows : Vec Row Global) (seen : List Row) → Reads bureau text read.version (codes "version" ∷ []) 0 → seen ≡ rows.items
    → Answers {Fault = Fault} text [] old new (Ok rows) → (told : Option ℕ) → told ≡ version_in seen
    → HasCleanDisk new → IsOurs old.committed → told ≡ Some 2
our_version text old new rows seen reads same answers told is clean ours =
    is ∙ ap version_in same ∙ version_is 2 old.committed.trees rows.items ours.rows.version (answers.told clean bureau ours.schema read.version (codes "version" ∷ []) 0 reads)

-- and one of ours of version 1 is of that
pub version_before : {Fault : Type 0} (text : List ℕ) (old new : State) (rows : Vec Row Global) (seen : List Row) → Reads bureau_1 text read.version (codes "version" ∷ []) 0 → seen ≡ rows.items
    → Answers {Fault = Fault} text [] old new (Ok rows) → (told : Option ℕ) → told ≡ version_in seen
    → HasCleanDisk new → IsOfVersion1 old.committed → told ≡ Some 1
version_before text old new rows seen reads same answers told is clean ours =
    is ∙ ap version_in same ∙ version_is 1 old.committed.trees rows.items ours.rows.version (answers.told clean bureau_1 ours.schema read.version (codes "version" ∷ []) 0 reads)
