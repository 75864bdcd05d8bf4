-- On the faults of statements, and on what they do.
use Rattle.std.proofs.Common.{◌≡◌, List, [], ◌∷◌, ◌++◌, Option, Some, None, append-nil, refl, ◌∙◌, ap}
use Rattle.std.proofs.lemmas.List.Elements.{filter_map-append}
use Rattle.mcs_reader.specs.declared.statement.Statement.{Statement}
use Rattle.holddata.specs.declared.fault.HoldFault.{HoldFault}
use Rattle.holddata.specs.declared.hold.HoldChange.{HoldChange}
use Rattle.holddata.specs.Statements.{change_of, changes_of, first_of}

-- the first of a list is the first of what it begins
pub first_of_longer : (xs ys : List HoldFault) (f : HoldFault) → first_of xs ≡ Some f → first_of (xs ++ ys) ≡ Some f
first_of_longer [] ys f h = cc
first_of_longer (x ∷ xs) ys f h = h

-- one more statement
pub changes_more : (statements : List Statement) (statement : Statement) (change : HoldChange) → change_of statement ≡ Some change
    → changes_of (statements ++ statement ∷ []) ≡ changes_of statements ++ change ∷ []
changes_more statements statement change is =
    filter_map-append change_of statements (statement ∷ []) ∙ ap (λ last. changes_of statements ++ last) (rw is refl)

-- one more statement that does nothing
pub changes_same : (statements : List Statement) (statement : Statement) → change_of statement ≡ None → changes_of (statements ++ statement ∷ []) ≡ changes_of statements
changes_same statements statement is =
    filter_map-append change_of statements (statement ∷ []) ∙ ap (λ last. changes_of statements ++ last) (rw is refl) ∙ append-nil (changes_of statements)

-- what is no change is none
pub none_left : (change : Option HoldChange) → ((some : HoldChange) → change ≡ Some some → ⊥) → change ≡ None
none_left None never = refl
none_left (Some change) never = absurd (never change refl)
