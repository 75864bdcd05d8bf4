-- What a store tells of its device.
use Rattle.std.proofs.Common.{◌≡◌, ◌<◌, ℕ, true, false, nat_lt, sym, arith}
use Rattle.std.proofs.lemmas.Bool.Decides.{nat_tests}

pub has_not_failed : (failures : ℕ) → false ≡ nat_lt 0 failures → failures ≡ 0
has_not_failed failures told = by (sym told)
  where
    by : nat_lt 0 failures ≡ false → failures ≡ 0
    by h = grind (arith, nat_tests)

pub has_failed : (failures : ℕ) → true ≡ nat_lt 0 failures → 0 < failures
has_failed failures told = by (sym told)
  where
    by : nat_lt 0 failures ≡ true → 0 < failures
    by h = grind (arith, nat_tests)
