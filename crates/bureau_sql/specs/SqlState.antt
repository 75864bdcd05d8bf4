-- A store in a database as contracts see it.
use Rattle.std.specs.Prelude.{ℕ, Bool, refl}
use Rattle.std.specs.Coded.{Coded, code_by, coded×, coded_bool, coded_ℕ}
use Rattle.sqlite.specs.Held.{Held, held_code}

pub record SqlState (S : Type 0) : Type 0 where
  -- its connection, which is at rest
  pub conn : Held S
  -- the number of failures of what lies below
  pub failures : ℕ
  -- memory was too short to see whether the connection was open, so the store closed
  pub unseen : Bool

abbrev pub sql_code : {S : Type 0} → Coded S → Coded (SqlState S)
sql_code {S} store =
    code_by (Held S × (ℕ × Bool)) (coded× (held_code store) (coded× coded_ℕ coded_bool))
    (λ it. (it.conn, (it.failures, it.unseen))) (λ p. record { conn = p.0; failures = p.1.0; unseen = p.1.1 }) (λ _. refl)
