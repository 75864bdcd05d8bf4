-- A call that is made again until it isn't interrupted.
use Rattle.std.proofs.Common.{◌≤◌, ℕ, List, Option}
use Rattle.std.specs.Io.KnownBytes.{Keeps}

-- so far no byte was written, and retries were spent at most
pub record OnlyRetried (before now : Option (List ℕ)) (retries left : ℕ) : Type 0 where
  pub kept : Keeps before now
  pub counted : left ≤ retries
