-- The operands of a statement that say something of what it publishes (IBM z/OS SMP/E Reference, `++VER`,
-- `++IF`, and `++HOLD` and `++RELEASE` as HOLDDATA is read).
use Rattle.std.specs.Prelude.{ℕ, ◌++◌, List, [], ◌∷◌, codes}
use Rattle.holddata.specs.Asked.{hold_operands}

-- the names of those that are read: those of holds, FMID among them, and these
abbrev pub publication_operands : List (List ℕ)
publication_operands = hold_operands ++ codes "PRE" ∷ codes "REQ" ∷ codes "SUP" ∷ []
