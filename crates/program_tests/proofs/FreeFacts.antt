-- Slots that are free.
use Rattle.std.proofs.Common.{◌≡◌, ℕ, List, Option, Some, None, [], ◌∷◌, ap, length, refl, replicate, suc}
use Rattle.connections.specs.Items.{AreFree, Slots}

pub all_free : (slots : Slots) → AreFree slots → replicate (length slots) None ≡ slots
all_free [] free = refl
all_free (None ∷ slots) free = ap (λ (rest : Slots). None ∷ rest) (all_free slots (λ slot connection at. free (suc slot) connection at))
all_free (Some connection ∷ slots) free = absurd (free 0 connection refl)
