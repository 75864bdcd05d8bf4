-- On the operands of a statement.
use Rattle.std.proofs.Common.{◌≡◌, ℕ, ◌+◌, ◌<◌, List, [], ◌∷◌, ◌++◌, append-nil, length, take, get_or, Option, Some, None, refl, sym, ◌∙◌, ap, subst}
use Rattle.std.proofs.lemmas.Grind.{flat_map-append}
use Rattle.std.proofs.lemmas.List.{map_more}
use Rattle.std.proofs.lemmas.List.Elements.{filter_map-append}
use Rattle.std.specs.List.{filter_map, cons_option}
use Rattle.std.specs.Option.{option_to_list}
use Rattle.mcs_reader.specs.declared.statement.Operand.{Operand}
use Rattle.mcs_reader.specs.Operand.{operand_text, operand_texts}
use Rattle.mcs_reader.specs.OperandText.{OperandText}
use Rattle.holddata.specs.declared.key.Kind.{Kind}
use Rattle.holddata.specs.declared.operands.Gathered.{Gathered}
use Rattle.std.specs.Borrow.{Bor}
use Rattle.holddata.specs.declared.operands.Given.{Given}
use Rattle.holddata.specs.Given.{IsGathered, Shows}
use Rattle.holddata.specs.Operands.{kind_named, kinds_of, named_values, values_of}

one_kind : (operand : OperandText) → filter_map (λ (o : OperandText). kind_named o.name) (operand ∷ []) ≡ option_to_list (kind_named operand.name)
one_kind operand = by (kind_named operand.name)
  where
    by : (o : Option Kind) → cons_option o [] ≡ option_to_list o
    by None = refl
    by (Some k) = refl

-- one more operand: the kind that it names, and its values
pub kinds_then : (seen : List OperandText) (operand : OperandText) → kinds_of seen ++ option_to_list (kind_named operand.name) ≡ kinds_of (seen ++ operand ∷ [])
kinds_then seen operand =
    ap (λ kinds. kinds_of seen ++ kinds) (sym (one_kind operand)) ∙ sym (filter_map-append (λ (o : OperandText). kind_named o.name) seen (operand ∷ []))

pub values_then : (name : List ℕ) (seen : List OperandText) (operand : OperandText) → values_of name seen ++ named_values name operand ≡ values_of name (seen ++ operand ∷ [])
values_then name seen operand =
    ap (λ values. values_of name seen ++ values) (sym (append-nil (named_values name operand))) ∙ sym (flat_map-append (named_values name) seen (operand ∷ []))

-- what the operands up to the next give
pub gathered_more : (given : Gathered) (operands : List Operand) (i : ℕ) (d : Operand) → i < length operands
    → IsGathered given (operand_texts (take i operands) ++ operand_text (get_or operands i d) ∷ []) → IsGathered given (operand_texts (take (i + 1) operands))
gathered_more given operands i d h = subst (IsGathered given) (sym (map_more operand_text operands i d h))

-- the values of one name that the operands up to the next give
pub shown_more : (name : List ℕ) (given : Given (Bor (List ℕ))) (operands : List Operand) (i : ℕ) (d : Operand) → i < length operands
    → Shows given (values_of name (operand_texts (take i operands)) ++ named_values name (operand_text (get_or operands i d)))
    → Shows given (values_of name (operand_texts (take (i + 1) operands)))
shown_more name given operands i d h =
    subst (Shows given) (values_then name (operand_texts (take i operands)) (operand_text (get_or operands i d))
    ∙ ap (values_of name) (sym (map_more operand_text operands i d h)))
