-- What a body publishes, while it is read.
use Rattle.std.proofs.Common.{◌≡◌, inl, inr, ℕ, false, List, [], ◌∷◌, refl, sym, ◌∙◌, ap, subst, map}
use Rattle.std.specs.Prelude.{Result, Ok, Err, IfErr, IsErrAnd, is_some}
use Rattle.std.specs.List.{fold}
use Rattle.faults.specs.FaultText.{text_of}
use Rattle.faults.specs.Refusal.{IsRefusal}
use Rattle.faults.specs.declared.any.AnyFault.{AnyFault}
use Rattle.faults.specs.declared.fault.Cause.{Cause}
use Rattle.faults.specs.declared.fault.Cause.TheVariants.{Input, Machine}
use Rattle.mcs_reader.specs.Asking.{asking, reading_asking}
use Rattle.mcs_reader.specs.McsFault as mcs
use Rattle.mcs_reader.specs.declared.fault.McsFault.{McsFault}
use Rattle.mcs_reader.specs.declared.fault.McsFault.TheVariants as mcs_fault
use Rattle.mcs_reader.specs.Unread.{Read, with_statements}
use Rattle.mcs_reader.specs.declared.statement.Statement.{Statement}
use Rattle.catalogue.specs.declared.change.Change.{Change}
use Rattle.catalogue.proofs.ReadingFacts.{faults_next, read_all, reads_next}
use Rattle.catalogue.specs.Reading.{Begun, changes_in, changes_of, faults_of, first_fault, nothing_begun, with_statement}
use Rattle.bureau.specs.Bodies.{published_by, unless}
use Rattle.bureau.specs.Faults.{IsTold}

-- what is published where this much was read, and this is left
abbrev pub published_from : Begun → Read → Result (List Change) (List ℕ)
published_from begun (Ok statements) = unless (first_fault (is_some begun.open_record) statements) (changes_in (fold with_statement begun statements))
published_from begun (Err fault) = Err (text_of (mcs.told fault))

-- a whole body, with statements one at a time
pub published_whole : (read : Read) → published_from nothing_begun read ≡ published_by read
published_whole (Ok statements) = ap (unless (first_fault false statements)) (read_all statements)
published_whole (Err fault) = refl

-- whoever asks for the operands that are read has the whole body
pub published_asking : (names : List (List ℕ)) (read : Read) → ((statements : List Statement) → changes_of (map (asking names) statements) ≡ changes_of statements)
    → ((statements : List Statement) → first_fault false (map (asking names) statements) ≡ first_fault false statements)
    → published_from nothing_begun (reading_asking names read) ≡ published_from nothing_begun read
published_asking names (Ok statements) changes faults =
    published_whole (Ok (map (asking names) statements))
    ∙ ap (λ fault. unless fault (changes_of (map (asking names) statements))) (faults statements)
    ∙ ap (unless (first_fault false statements)) (changes statements)
    ∙ sym (published_whole (Ok statements))
published_asking names (Err fault) changes faults = refl

-- one more statement was read
pub published_next : (begun new : Begun) (statement : Statement) (before left : Read) → before ≡ with_statements (statement ∷ []) left → new ≡ with_statement begun statement
    → faults_of (is_some begun.open_record) statement ≡ [] → published_from new left ≡ published_from begun before
published_next begun new statement before (Ok rest) first now none =
    ap (λ fault. unless fault (changes_in (fold with_statement new rest)))
    (faults_next begun new (first_fault (is_some begun.open_record) (statement ∷ rest)) statement (statement ∷ rest) rest refl now none refl)
    ∙ ap (λ (all : Begun). unless (first_fault (is_some begun.open_record) (statement ∷ rest)) (changes_in all))
    (reads_next begun new (fold with_statement begun (statement ∷ rest)) statement (statement ∷ rest) rest refl now refl)
    ∙ ap (published_from begun) (sym first)
published_next begun new statement before (Err fault) first now none = ap (published_from begun) (sym first)

-- what is left has a fault of reading
pub told_of_source : (begun : Begun) (whole : Result (List Change) (List ℕ)) (before : Read) (fault : McsFault) → published_from begun before ≡ whole
    → IsRefusal mcs_fault.Memory (λ (told : McsFault). before ≡ Err told) fault → IsTold whole (mcs.told fault)
told_of_source begun whole before fault is refusal = elim refusal [
  | inl memory ↦ inl (ap (λ f. (mcs.told f).cause) memory)
  | inr refused ↦ by (mcs.told fault).cause refl (sym is ∙ ap (published_from begun) refused)
]
  where
    by : (cause : Cause) → (mcs.told fault).cause ≡ cause → whole ≡ Err (text_of (mcs.told fault)) → IsTold whole (mcs.told fault)
    by Machine e told = inl e
    by Input e told = inr (e, told)

-- what is refused after a statement is refused with it
pub refused_before : (before left : Read) (statement : Statement) (fault : McsFault) → before ≡ with_statements (statement ∷ []) left
    → IsRefusal mcs_fault.Memory (λ (told : McsFault). left ≡ Err told) fault → IsRefusal mcs_fault.Memory (λ (told : McsFault). before ≡ Err told) fault
refused_before before left statement fault first refusal = elim refusal [
  | inl memory ↦ inl memory
  | inr refused ↦ inr (first ∙ ap (with_statements (statement ∷ [])) refused)
]

-- a fault that is passed on is told
pub passed_on : {T A : Type 0} → (result : Result T AnyFault) (whole : Result A (List ℕ)) (fault : AnyFault) → IsErrAnd result (λ any. any ≡ fault) → IsTold whole fault → IfErr result (IsTold whole)
passed_on (Ok value) whole fault is told = absurd is
passed_on (Err any) whole fault is told = subst (IsTold whole) (sym is) told

-- nothing is left
pub ended_with : (begun : Begun) (whole left : Read) (changes : List Change) → left ≡ Ok [] → published_from begun left ≡ published_from nothing_begun whole → changes ≡ changes_in begun → published_by whole ≡ Ok changes
ended_with begun whole left changes ended is all = sym (published_whole whole) ∙ sym is ∙ ap (published_from begun) ended ∙ ap (λ cs. Ok cs) (sym all)
