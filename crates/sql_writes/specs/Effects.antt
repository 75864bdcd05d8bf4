-- The rows after a change of an effect.
use Rattle.std.specs.Prelude.{ℕ, List}
use Rattle.bureau_store.specs.Effects.{effect_as, maker_of}
use Rattle.bureau_store.specs.declared.effect.Effect.{Effect}
use Rattle.sql_tables.specs.Changes.{stored_after}
use Rattle.sql_tables.specs.Stored.{Stored}

-- the rows after such a change, with its number and its reply
abbrev pub stored_by : Effect → ℕ → List ℕ → Stored → Stored
stored_by effect number reply =
    stored_after (maker_of effect) (effect_as effect) (record { number = number; reply = reply })
