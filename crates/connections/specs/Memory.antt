-- The bytes that all connections hold together: those that came over them and were not yet taken off as requests.
use Rattle.std.specs.Prelude.{◌≡◌, ◌⊎◌, ℕ, ◌+◌, ◌<◌, ◌≤◌, List, [], ◌∷◌, get_or, length, sum, slice_get, sum_by, Option, Some, None}
use Rattle.connections.specs.Items.{Slots}
use Rattle.connections.specs.Replies.{IsCounted, kept_of}
use Rattle.connections.specs.Turns.{out_at}
use Rattle.connections.specs.declared.connection.Connection.{Connection}
use Rattle.connections.specs.declared.connection.Phase.TheVariants.{Open}
use Rattle.connections.specs.declared.slots.Connections.{Connections}

-- the number of bytes that the connection in a slot holds
abbrev pub held_in : Option Connection → ℕ
held_in None = 0
held_in (Some connection) = length connection.held

-- the number that all of them hold
abbrev pub held_by : Slots → ℕ
held_by slots = sum_by held_in slots

-- each holds no more than a head may have and its share
abbrev pub AreWithin : Slots → List ℕ → Type 0
AreWithin [] [] = Unit {0}
AreWithin [] (share ∷ shares) = ⊥
AreWithin (slot ∷ slots) [] = ⊥
AreWithin (slot ∷ slots) (share ∷ shares) = (held_in slot ≤ 16384 + share) × AreWithin slots shares

abbrev pub IsWithin : Connections → Type 0
IsWithin connections = AreWithin connections.slots.items connections.shares.given

-- That stays so, and so do the limit and the number of slots.
pub record StaysWithin (old new : Connections) : Type 0 where
  pub count : length new.slots.items ≡ length old.slots.items
  pub limit : new.shares.limit ≡ old.shares.limit
  pub within : IsWithin old → IsWithin new

-- A slot gets more of the limit only if bodies and replies together are within it then.
abbrev pub AreBeside : Connections → Connections → Type 0
AreBeside old new = (new.replies ≡ old.replies) × ((new.shares ≡ old.shares) ⊎ (sum new.shares.given + sum new.replies ≤ new.shares.limit))

-- The reply in a slot was counted, and that of no other.
abbrev pub IsReplyCounted : ℕ → Connections → Connections → Type 0
IsReplyCounted slot old new = IsCounted slot (kept_of (get_or old.replies slot 0) (out_at (slice_get new.slots.items slot))) old.replies new.replies

-- So many bytes more may come to a slot: only over a connection that reads on, and no more than fit a head's room and its share.
abbrev pub HasRoom : ℕ → List ℕ → ℕ → Option (Option Connection) → Type 0
HasRoom room given slot None = room ≡ 0
HasRoom room given slot (Some None) = room ≡ 0
HasRoom room given slot (Some (Some connection)) =
    0 < room → (connection.out ≡ []) × (connection.phase ≡ Open) × (length connection.held + room ≤ 16384 + get_or given slot 0)

-- ---- private

-- the connection needs so much of a share
abbrev pub Needs : ℕ → Option (Option Connection) → Type 0
Needs needed None = Unit {0}
Needs needed (Some slot) = held_in slot ≤ 16384 + needed

-- a connection stands there that reads on, and holds so many bytes
abbrev pub ReadsOn : ℕ → Option (Option Connection) → Type 0
ReadsOn held slot = (connection : Connection) × (slot ≡ Some (Some connection)) × (connection.out ≡ []) × (connection.phase ≡ Open) × (length connection.held ≡ held)
