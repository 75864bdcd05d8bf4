-- A limit on what all connections hold together, shared out to their slots.
use Rattle.std.specs.Prelude.{◌≡◌, ℕ, ◌+◌, List, sum}
use Rattle.connections.specs.declared.shares.Shares.TheInside.{Inside}

-- the limit, and the share of each slot
pub record Shared : Type 0 where
  pub limit : ℕ
  pub given : List ℕ

-- ---- private: how the code keeps it

abbrev pub shared_as : Inside → Shared
shared_as shares = record { limit = shares.limit; given = shares.given.items }

-- what is left is the rest of the limit
abbrev pub AddsUp : Inside → Type 0
AddsUp shares = sum shares.given.items + shares.left ≡ shares.limit
