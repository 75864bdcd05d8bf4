-- A store after a change that was refused for want of room.
use Rattle.std.specs.Prelude.{◌≡◌}
use Rattle.bureau_store.specs.Store.{Update}
use Rattle.bureau_sql.specs.SqlState.{SqlState}

-- it was open, and stays so
abbrev pub HasNoRoom : {S : Type 0} → Update → SqlState S → SqlState S → Type 0
HasNoRoom update old new = (old.failures ≡ 0) × (new.failures ≡ 0)
