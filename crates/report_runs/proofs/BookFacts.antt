-- One more statement that is done to a hold book, or is refused.
use Rattle.std.proofs.Common.{◌≡◌, ◌⊎◌, inl, inr, ℕ, List, [], ◌∷◌, ◌++◌, Option, Some, None, Ok, Err, IsOk, refl, sym, ◌∙◌, ap, map}
use Rattle.std.proofs.lemmas.List.Elements.{filter_map-append}
use Rattle.std.specs.Option.{option_to_list}
use Rattle.std.proofs.lemmas.Grind.{flat_map-append}
use Rattle.std.specs.List.{flat_map, cons_option}
use Rattle.mcs_reader.specs.Asking.{asking, reading_asking}
use Rattle.mcs_reader.specs.ReadingOf.{reading_of}
use Rattle.mcs_reader.specs.Unread.{Read, with_statements}
use Rattle.mcs_reader.specs.declared.statement.Statement.{Statement}
use Rattle.mcs_reader.proofs.ReadFacts.{with_statements-append}
use Rattle.faults.specs.Refusal.{IsRefusal}
use Rattle.holddata.proofs.BookFacts.{book_of_is_left}
use Rattle.holddata.proofs.StatementFacts.{first_of_longer}
use Rattle.holddata.specs.BookText.{book_text}
use Rattle.holddata.specs.HoldBook.{book_of}
use Rattle.holddata.specs.Statements.{change_of, changes_of, faults_of, first_fault, first_of}
use Rattle.holddata.specs.declared.hold.HoldChange.{HoldChange}
use Rattle.holddata.specs.declared.fault.HoldFault.{HoldFault}
use Rattle.holddata.specs.declared.fault.HoldFault.TheVariants.{Memory}
use Rattle.report_runs.specs.Holds.{book_print, of_holds, print_of, print_of_read, IsBookLeft, IsMemory}

-- whoever asks for the operands that say something of a hold has the whole print
pub print_asking : (names : List (List ℕ)) (read : Read) → ((statements : List Statement) → changes_of (map (asking names) statements) ≡ changes_of statements)
    → ((statements : List Statement) → first_fault (map (asking names) statements) ≡ first_fault statements)
    → print_of_read (reading_asking names read) ≡ print_of_read read
print_asking names (Ok statements) changes faults =
    ap (λ fault. book_print fault (map (asking names) statements)) (faults statements) ∙ by (first_fault statements)
  where
    by : (fault : Option HoldFault) → book_print fault (map (asking names) statements) ≡ book_print fault statements
    by None = ap (λ cs. Ok (book_text (book_of cs))) (changes statements)
    by (Some fault) = refl
print_asking names (Err fault) changes faults = refl

-- before the first statement
pub none_read : (whole left : Read) → whole ≡ left → whole ≡ with_statements [] left
none_read whole (Ok rest) is = is
none_read whole (Err fault) is = is

pub read_more : (done : List Statement) (statement : Statement) (whole before left : Read) → whole ≡ with_statements done before → before ≡ with_statements (statement ∷ []) left
    → whole ≡ with_statements (done ++ statement ∷ []) left
read_more done statement whole before left is first = is ∙ ap (with_statements done) first ∙ with_statements-append done (statement ∷ []) left

pub faultless_more : (done : List Statement) (statement : Statement) → flat_map faults_of done ≡ [] → faults_of statement ≡ [] → flat_map faults_of (done ++ statement ∷ []) ≡ []
faultless_more done statement none last =
    flat_map-append faults_of done (statement ∷ []) ∙ ap (λ faults. faults ++ flat_map faults_of (statement ∷ [])) none ∙ ap (λ faults. faults ++ []) last

-- the first statement with a fault decides, whatever stands after it
first_among : (done rest : List Statement) (statement : Statement) (fault : HoldFault) → flat_map faults_of done ≡ [] → first_of (faults_of statement) ≡ Some fault
    → first_fault (done ++ statement ∷ rest) ≡ Some fault
first_among done rest statement fault none first =
    ap first_of (flat_map-append faults_of done (statement ∷ rest) ∙ ap (λ faults. faults ++ flat_map faults_of (statement ∷ rest)) none)
    ∙ first_of_longer (faults_of statement) (flat_map faults_of rest) fault first

-- a statement is refused as a hold, where what stands after it is read
refused : (whole before left : Read) (done : List Statement) (statement : Statement) (fault : HoldFault)
    → whole ≡ with_statements done before → before ≡ with_statements (statement ∷ []) left → flat_map faults_of done ≡ [] → IsOk left
    → first_of (faults_of statement) ≡ Some fault → print_of_read whole ≡ Err (of_holds fault)
refused whole before (Err other) done statement fault read first none ok refuses = absurd (cc)
refused whole before (Ok rest) done statement fault read first none ok refuses =
    ap print_of_read (read ∙ ap (with_statements done) first)
    ∙ ap (λ fault. book_print fault (done ++ statement ∷ rest)) (first_among done rest statement fault none refuses)

-- what is told where a statement is refused as a hold
pub told_of_hold : (whole before left : Read) (done : List Statement) (statement : Statement) (fault : HoldFault)
    → whole ≡ with_statements done before → before ≡ with_statements (statement ∷ []) left → flat_map faults_of done ≡ [] → IsOk left
    → IsRefusal Memory (λ (told : HoldFault). first_of (faults_of statement) ≡ Some told) fault → IsMemory (of_holds fault) ⊎ (print_of_read whole ≡ Err (of_holds fault))
told_of_hold whole before left done statement fault read first none ok refusal = elim refusal [
  | inl memory ↦ inl (inr (inl (ap of_holds memory)))
  | inr refuses ↦ inr (refused whole before left done statement fault read first none ok refuses)
]

-- what one more statement does comes after
pub changes_then : (done : List Statement) (statement : Statement) (made : List HoldChange) (change : Option HoldChange) → change ≡ change_of statement
    → changes_of done ≡ made → changes_of (done ++ statement ∷ []) ≡ made ++ option_to_list change
changes_then done statement made change is before =
    filter_map-append change_of done (statement ∷ [])
    ∙ ap (λ last. changes_of done ++ last) (alone (change_of statement) ∙ ap option_to_list (sym is))
    ∙ ap (λ changes. changes ++ option_to_list change) before
  where
    alone : (o : Option HoldChange) → cons_option o [] ≡ option_to_list o
    alone None = refl
    alone (Some c) = refl

-- a print is that of the book that the last changes leave
pub book_left : (source text : List ℕ) → print_of source ≡ Ok text → IsBookLeft source text
book_left source text printed = by_read (reading_of source) refl printed
  where
    by_fault : (statements : List Statement) → reading_of source ≡ Ok statements → (fault : Option HoldFault) → book_print fault statements ≡ Ok text → IsBookLeft source text
    by_fault statements read None is = record {
      statements = statements;
      read = read;
      book = book_of (changes_of statements);
      printed = cc;
      left = book_of_is_left (changes_of statements);
    }
    by_fault statements read (Some fault) is = absurd (cc)

    by_read : (read : Read) → reading_of source ≡ read → print_of_read read ≡ Ok text → IsBookLeft source text
    by_read (Ok statements) read is = by_fault statements read (first_fault statements) is
    by_read (Err fault) read is = absurd (cc)
