-- What goes over the sockets of a round. What comes is told of the slot over whose socket it came, and to a socket goes what its slot has
-- to say, from where it stood.
use Rattle.std.specs.Prelude.{◌≡◌, ◌⊎◌, ℕ, ◌≤◌, Bool, true, false, List, [], ◌∷◌, ◌++◌, length, map, option_map, Option, Some, None, slice_get, slice_set}
use Rattle.std.specs.List.{AllByRecursion, flat_map}
use Rattle.std.specs.Io.KnownBytes.{Consumes, Keeps}
use Rattle.connections.specs.Items.{Event, Slots, came, bytes, wrote, ended, failed, late, event_of}
use Rattle.connections.specs.Turns.{out_at}
use Rattle.connections.specs.declared.connection.Connection.{Connection}
use Rattle.connections.specs.declared.event.Event as code
use Rattle.socket_desk.specs.Transfers.{HasRead, HasWritten}
use Rattle.socket_desk.specs.declared.side.Side.{Side}
use Rattle.socket_desk.specs.declared.visits.Visit.{Visit}
use Rattle.socket_desk.specs.declared.visits.Visit.TheVariants.{Told, Goes, Waits, Short, Turn, Failed, Over}

-- A socket: the bytes that are still to be read, and all that were written, as far as they are known. Whether the desk has ended its
-- side. And whether the socket is ahead of the desk: it came, or was written to, and the desk has not noted that yet.
pub record Socket : Type 0 where
  pub left : Option (List ℕ)
  pub written : Option (List ℕ)
  pub is_closing : Bool
  pub is_ahead : Bool

-- the socket in each slot
abbrev pub Sockets : Type 0
Sockets = List (Option Socket)

-- as the code has them
module _ {T : Type 0} (left written : T → Option (List ℕ)) where
  abbrev pub socket_of : Side T → Socket
  socket_of side = record { left = left side.stream; written = written side.stream; is_closing = side.is_closing; is_ahead = side.is_ahead }

  abbrev pub sockets_of : List (Option (Side T)) → Sockets
  sockets_of sides = map (option_map socket_of) sides

-- ---- what may happen to one socket

-- neither the desk nor its being ahead changed
abbrev pub Stands : Socket → Socket → Type 0
Stands old new = (new.is_closing ≡ old.is_closing) × (new.is_ahead ≡ old.is_ahead)

-- nothing was read, and nothing written
abbrev pub Rests : Socket → Socket → Type 0
Rests old new = Stands old new × Keeps old.left new.left × Keeps old.written new.written

-- bytes were read that nobody needs: the desk has ended its side
abbrev pub Drains : Socket → Socket → Type 0
Drains old new = (old.is_closing ≡ true) × Stands old new × ((text : List ℕ) × Consumes old.left new.left text) × Keeps old.written new.written

-- the desk ends its side, since it has let the connection go
abbrev pub Closes : Option (Option Connection) → Socket → Socket → Type 0
Closes shown old new = (shown ≡ Some None) × (old.is_closing ≡ false) × (old.is_ahead ≡ false) × (new.is_closing ≡ true) × (new.is_ahead ≡ false)
    × Keeps old.left new.left × Keeps old.written new.written

-- nothing is told of it
abbrev pub Passes : Option (Option Connection) → Socket → Socket → Type 0
Passes shown old new = Rests old new ⊎ Drains old new ⊎ Closes shown old new

-- what is told was read from it, and nothing else
abbrev pub Reads : ℕ → Event → Socket → Socket → Type 0
Reads slot event old new = (old.is_closing ≡ false) × Stands old new × HasRead slot old.left new.left event × Keeps old.written new.written

-- What is told was written to it, and nothing else: the first bytes that its connection has to say. What was written before is noted.
abbrev pub Writes : ℕ → Option (Option Connection) → Event → Socket → Socket → Type 0
Writes slot shown event old new = (old.is_closing ≡ false) × (old.is_ahead ≡ false) × (new.is_closing ≡ false) × (new.is_ahead ≡ true)
    × Keeps old.left new.left × HasWritten slot (out_at shown) old.written new.written event

abbrev pub Transfers : ℕ → Option (Option Connection) → Event → Socket → Socket → Type 0
Transfers slot shown event old new = Reads slot event old new ⊎ Writes slot shown event old new

-- what came of a visit
abbrev pub IsVisit : ℕ → Option (Option Connection) → Visit → Socket → Socket → Type 0
IsVisit slot shown (Told event) old new = Transfers slot shown (event_of event) old new
IsVisit slot shown Goes old new = Passes shown old new
IsVisit slot shown Waits old new = Passes shown old new
IsVisit slot shown Short old new = Passes shown old new
IsVisit slot shown Turn old new = Passes shown old new
IsVisit slot shown Failed old new = (old.is_closing ≡ false) × Keeps old.written new.written
IsVisit slot shown Over old new = old.is_closing ≡ true

-- ---- what may happen to the sockets in their slots

-- something happens to the socket in a slot, and to no other
pub record Turns (old : Sockets) (slot : ℕ) (new : Sockets) (Turn : Socket → Socket → Type 0) : Type 0 where
  pub before : Socket
  pub after : Socket
  pub at : slice_get old slot ≡ Some (Some before)
  pub turn : Turn before after
  pub new_is : new ≡ slice_set old slot (Some after)

-- the socket in a slot is let go, and no other
pub record LetsGo (old : Sockets) (slot : ℕ) (new : Sockets) (Why : Socket → Type 0) : Type 0 where
  pub before : Socket
  pub at : slice_get old slot ≡ Some (Some before)
  pub why : Why before
  pub new_is : new ≡ slice_set old slot None

-- Bytes came or went over the socket in a slot, and that is told. A socket came to a free slot. A read or a write of one failed, or its
-- time is up, and it is let go. Or nothing is told: of one that the desk has let go, or over which nothing came or went.
pub data Move : Type 0 where
  transfers : ℕ → Event → Move
  comes : ℕ → Move
  fails : ℕ → Move
  times_out : ℕ → Move
  passes : ℕ → Move
  leaves : ℕ → Move

abbrev pub told_in : Move → List Event
told_in (transfers slot event) = event ∷ []
told_in (comes slot) = came slot ∷ []
told_in (fails slot) = failed slot ∷ []
told_in (times_out slot) = late slot ∷ []
told_in (passes slot) = []
told_in (leaves slot) = []

-- beside connections that are shown so
abbrev pub Moved : Slots → Sockets → Move → Sockets → Type 0
Moved shown old (transfers slot event) new = Turns old slot new (Transfers slot (slice_get shown slot) event)
Moved shown old (comes slot) new = (slice_get old slot ≡ Some None)
    × ((socket : Socket) × (socket.is_closing ≡ false) × (socket.is_ahead ≡ true) × (new ≡ slice_set old slot (Some socket)))
Moved shown old (fails slot) new = LetsGo old slot new (λ before. before.is_closing ≡ false)
Moved shown old (times_out slot) new = LetsGo old slot new (λ before. before.is_closing ≡ false)
Moved shown old (passes slot) new = Turns old slot new (Passes (slice_get shown slot))
Moved shown old (leaves slot) new = LetsGo old slot new (λ before. before.is_closing ≡ true)

-- one after the other
abbrev pub AreMoved : Slots → Sockets → List Move → Sockets → Type 0
AreMoved shown old [] new = new ≡ old
AreMoved shown old (move ∷ moves) new = (mid : Sockets) × Moved shown old move mid × AreMoved shown mid moves new

-- Beside connections that are shown so, this is what happened to the sockets, and nothing else.
abbrev pub Carries : Slots → Sockets → List Event → Sockets → Type 0
Carries shown old events new = (moves : List Move) × (events ≡ flat_map told_in moves) × AreMoved shown old moves new

-- What happened to them was told, after what was told before.
abbrev pub AreTold : Slots → Sockets → List Event → Sockets → List Event → Type 0
AreTold shown old told new after = (events : List Event) × (after ≡ told ++ events) × Carries shown old events new

-- the same, but for one thing at most that happened last
abbrev pub AreToldBut : Slots → Sockets → List Event → Sockets → List Event → Type 0
AreToldBut shown old told new after = (mid : Sockets) × AreTold shown old told mid after
    × ((untold : List Event) × (length untold ≤ 1) × Carries shown mid untold new)

-- as the code has them
module _ {T : Type 0} (left written : T → Option (List ℕ)) where
  abbrev pub Tells : Slots → List (Option (Side T)) → List code.Event → List (Option (Side T)) → List code.Event → Type 0
  Tells shown old told new after = AreTold shown (sockets_of left written old) (map event_of told) (sockets_of left written new) (map event_of after)

  abbrev pub TellsBut : Slots → List (Option (Side T)) → List code.Event → List (Option (Side T)) → List code.Event → Type 0
  TellsBut shown old told new after = AreToldBut shown (sockets_of left written old) (map event_of told) (sockets_of left written new) (map event_of after)

-- What was told of the socket in a slot is noted, if one is there: it is not ahead of the desk any more.
abbrev pub IsNoted : ℕ → Sockets → Sockets → Type 0
IsNoted slot old new =
    Turns old slot new (λ before after. after ≡ record { left = before.left; written = before.written; is_closing = before.is_closing; is_ahead = false })
    ⊎ (new ≡ old)

-- ---- the last showing

-- bytes were written
abbrev pub IsWrite : Event → Type 0
IsWrite (came slot) = ⊥
IsWrite (bytes slot text) = ⊥
IsWrite (wrote slot count) = Unit {0}
IsWrite (ended slot) = ⊥
IsWrite (failed slot) = ⊥
IsWrite (late slot) = ⊥

-- what a connection has to say was written to its socket, as far as it went out at once; or nothing was
abbrev pub IsLast : ℕ → Option (Option Connection) → Socket → Socket → Type 0
IsLast slot shown old new = ((event : Event) × Writes slot shown event old new) ⊎ Rests old new

-- Connections were shown for the last time. What they have to say was written as far as it went out at once, and nothing else happened.
abbrev pub AreShownLast : Slots → Sockets → Sockets → Type 0
AreShownLast shown old new = (events : List Event) × AllByRecursion IsWrite events × Carries shown old events new
