-- What came of one read or one write.
use Rattle.std.specs.Prelude.{◌≡◌, ℕ, ◌<◌, ◌≤◌, List, [], length, take, Option}
use Rattle.std.specs.Io.KnownBytes.{Appends, Consumes, IsAtEnd, Keeps}
use Rattle.connections.specs.Items.{Event, came, bytes, wrote, ended, failed, late, event_of}
use Rattle.socket_desk.specs.declared.transfers.Transfer.{Transfer}
use Rattle.socket_desk.specs.declared.transfers.Transfer.TheVariants.{Done, Waits, Interrupted, Failed}

-- The bytes of the event were the next of those that are left to read. Or it tells of their end, and none was left.
abbrev pub HasRead : ℕ → Option (List ℕ) → Option (List ℕ) → Event → Type 0
HasRead slot old new (came other) = ⊥
HasRead slot old new (bytes other text) = (other ≡ slot) × (0 < length text) × Consumes old new text
HasRead slot old new (wrote other count) = ⊥
HasRead slot old new (ended other) = (other ≡ slot) × Consumes old new [] × IsAtEnd new
HasRead slot old new (failed other) = ⊥
HasRead slot old new (late other) = ⊥

-- so many bytes of the text were written, its first ones
abbrev pub HasWritten : ℕ → List ℕ → Option (List ℕ) → Option (List ℕ) → Event → Type 0
HasWritten slot text old new (came other) = ⊥
HasWritten slot text old new (bytes other more) = ⊥
HasWritten slot text old new (wrote other count) =
    (other ≡ slot) × (0 < count) × (count ≤ length text) × Appends old new (take count text)
HasWritten slot text old new (ended other) = ⊥
HasWritten slot text old new (failed other) = ⊥
HasWritten slot text old new (late other) = ⊥

-- What is told was read. If the read waits or was interrupted, nothing was; if it failed, what came is lost with its connection.
abbrev pub IsRead : ℕ → Option (List ℕ) → Option (List ℕ) → Transfer → Type 0
IsRead slot old new (Done event) = HasRead slot old new (event_of event)
IsRead slot old new Waits = Keeps old new
IsRead slot old new Interrupted = Keeps old new
IsRead slot old new Failed = Unit {0}

-- What is told was written, and nothing else.
abbrev pub IsWritten : ℕ → List ℕ → Option (List ℕ) → Option (List ℕ) → Transfer → Type 0
IsWritten slot text old new (Done event) = HasWritten slot text old new (event_of event)
IsWritten slot text old new Waits = Keeps old new
IsWritten slot text old new Interrupted = Keeps old new
IsWritten slot text old new Failed = Keeps old new

-- nothing was done
abbrev pub IsStopped : Transfer → Type 0
IsStopped (Done event) = ⊥
IsStopped Waits = Unit {0}
IsStopped Interrupted = Unit {0}
IsStopped Failed = Unit {0}
