-- The operands of a statement that say something of a hold (IBM z/OS SMP/E Reference, `++HOLD` and
-- `++RELEASE`).
use Rattle.std.specs.Prelude.{ℕ, Bool, List, [], ◌∷◌, codes, bytes_eq}
use Rattle.std.specs.List.{list_all, list_any}

-- the names of those that are read: operands with values, and the kinds of hold, some of them with a short
-- form
abbrev pub hold_operands : List (List ℕ)
hold_operands =
    codes "REASON" ∷ codes "FMID" ∷ codes "CLASS" ∷ codes "DATE" ∷ codes "RESOLVER" ∷ codes "CATEGORY"
    ∷ codes "ERROR" ∷ codes "ERR" ∷ codes "SYSTEM" ∷ codes "SYS" ∷ codes "USER" ∷ codes "FIXCAT" ∷ []

-- whether each of some names is among others
abbrev pub are_among : List (List ℕ) → List (List ℕ) → Bool
are_among wanted names = list_all (λ name. list_any (bytes_eq name) names) wanted
