-- What a transfer leaves if it fails.
use Rattle.std.specs.Prelude.{◌≡◌, ℕ, ◌≤◌, List, ◌++◌, length, take, Option, Result, IfErr}
use Rattle.std.specs.Io.KnownBytes.{Appends, Consumes}
use Rattle.std.specs.IoError.{error_kind}
use Rattle.std.specs.declared.io.Error.{Error}
use Rattle.std.specs.declared.io.ErrorKind.TheVariants.{Interrupted}
use Rattle.transfer.specs.declared.fault.TransferFault.{TransferFault}
use Rattle.transfer.specs.declared.fault.TransferFault.TheVariants.{Read, Memory}

-- an interruption is the last word only if no retry is left
abbrev pub IsGivenUp : TransferFault → ℕ → Type 0
IsGivenUp (Read error) retries = error_kind error ≡ Interrupted → retries ≡ 0
IsGivenUp Memory retries = Unit {0}

-- at most n of the known bytes were read, from their front
abbrev pub ConsumesUpTo : ℕ → Option (List ℕ) → Option (List ℕ) → Type 0
ConsumesUpTo n old new = (bytes : List ℕ) × (length bytes ≤ n) × Consumes old new bytes

-- the known bytes grew by a front part of a text
abbrev pub AppendsFront : Option (List ℕ) → Option (List ℕ) → List ℕ → Type 0
AppendsFront old new text = (n : ℕ) × Appends old new (take n text)

-- a list grew by n bytes at its end, which were read from the front of the known bytes
pub record TakesIn (old new : List ℕ) (before after : Option (List ℕ)) (n : ℕ) : Type 0 where
  pub bytes : List ℕ
  pub count : length bytes ≡ n
  pub grown : new ≡ old ++ bytes
  pub consumed : Consumes before after bytes

-- Serves private contracts alone: retries only get fewer, and an interruption is told only if none is left.
pub record SpendsRetries {T : Type 0} (result : Result T Error) (old new : ℕ) : Type 0 where
  pub given_up : IfErr result (λ error. error_kind error ≡ Interrupted → new ≡ 0)
  pub counted : new ≤ old
