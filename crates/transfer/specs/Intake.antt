-- No part of what is promised: the type's Model and private contracts cite it. What an intake holds.
use Rattle.std.specs.Prelude.{ℕ, ◌≤◌, List, length, take, drop}
use Rattle.transfer.specs.declared.intake.Intake.TheInside.{Inside}

-- the bytes that were read and not yet taken off
abbrev pub bytes_in : Inside → List ℕ
bytes_in intake = drop intake.start (take intake.end intake.room.items)

-- the bytes lie in the room
abbrev pub LiesInRoom : Inside → Type 0
LiesInRoom intake = (intake.start ≤ intake.end) × (intake.end ≤ length intake.room.items)
