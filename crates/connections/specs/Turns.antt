-- The outcome of an event, and the turn of a connection's next request.
use Rattle.std.specs.Prelude.{◌≡◌, ◌≢◌, ◌⊎◌, ℕ, ◌<◌, Bool, true, false, List, [], length, Option, Some, None, slice_get}
use Rattle.requests.specs.NextRequest.{IsUnfinished}
use Rattle.bureau_store.specs.Tables.{Tables}
use Rattle.bureau.specs.Joint.{CallBy}
use Rattle.bureau_http.specs.Exchange.{Exchange}
use Rattle.bureau_http.specs.Served.{HasExchanged}
use Rattle.connections.specs.Items.{Answers, Event, Happens, IsDone, IsStarved, IsStray, Leaves, Loses, Moves, Sends, Slots, came, bytes, wrote, ended, failed, late}
use Rattle.connections.specs.declared.connection.Connection.{Connection}
use Rattle.connections.specs.declared.connection.Phase.{Phase}
use Rattle.connections.specs.declared.connection.Phase.TheVariants.{Open, Ended, Last}
use Rattle.connections.specs.declared.event.Told.{Told}
use Rattle.connections.specs.declared.event.Told.TheVariants.{Done, Missed, Stray}
use Rattle.connections.specs.declared.connection.Turn.{Turn}
use Rattle.connections.specs.declared.connection.Turn.TheVariants.{Waits, Answered, Lost, Starved, Finished}

-- there was no memory for the bytes that came, and their connection ends
abbrev pub Misses : Slots → Event → Slots → Type 0
Misses old (came slot) new = ⊥
Misses old (bytes slot text) new = Leaves old slot new (λ before. before.phase ≡ Open)
Misses old (wrote slot count) new = ⊥
Misses old (ended slot) new = ⊥
Misses old (failed slot) new = ⊥
Misses old (late slot) new = ⊥

-- an event did what it says
abbrev pub Occurs : Slots → Event → Slots → Type 0
Occurs old (came slot) new = Happens old (came slot) new
Occurs old (bytes slot text) new = Happens old (bytes slot text) new
Occurs old (wrote slot count) new = (text : List ℕ) × (length text ≡ count) × Moves old slot new (Sends text)
Occurs old (ended slot) new = Happens old (ended slot) new
Occurs old (failed slot) new = Happens old (failed slot) new
Occurs old (late slot) new = Happens old (late slot) new

-- the outcome of an event
abbrev pub IsToldOf : Told → Slots → Event → Slots → Type 0
IsToldOf Done old event new = Occurs old event new
IsToldOf Missed old event new = Misses old event new
IsToldOf Stray old event new = IsStray old event × (new ≡ old)

-- No whole request waits in it, except behind a reply that has still to go out.
abbrev pub IsSettled : Connection → Type 0
IsSettled now = (0 < length now.out) ⊎ ((now.phase ≡ Open) × IsUnfinished now.held)

-- it is so of each connection, except perhaps that in one slot
abbrev pub AreSettledBut : ℕ → Slots → Type 0
AreSettledBut slot now = (other : ℕ) (connection : Connection) → other ≢ slot → slice_get now other ≡ Some (Some connection) → IsSettled connection

abbrev pub AreSettled : Slots → Type 0
AreSettled now = (slot : ℕ) (connection : Connection) → slice_get now slot ≡ Some (Some connection) → IsSettled connection

-- what has to go out over the connection in a slot, if one is there
abbrev pub out_at : Option (Option Connection) → List ℕ
out_at None = []
out_at (Some None) = []
out_at (Some (Some connection)) = connection.out

-- the turn of a connection in which no whole request has come
abbrev pub rest_of : Phase → Turn
rest_of Open = Waits
rest_of Ended = Finished
rest_of Last = Waits

-- the connection stays in its slot after it
abbrev pub stays : Turn → Bool
stays Waits = true
stays Answered = true
stays Lost = false
stays Starved = false
stays Finished = false

-- one request was answered, over these tables
abbrev pub Exchanges : (Tables → List CallBy → Tables → Type 0) → Tables → (Exchange → Type 0) → Type 0
Exchanges Runs this Is = (exchange : Exchange) × HasExchanged Runs this exchange × Is exchange

-- the effect of a turn on a connection, and on the desk
abbrev pub Turns : (Tables → List CallBy → Tables → Type 0) → Tables → Turn → Connection → Connection → Type 0
Turns Runs this Waits old new = Runs this [] this × (new ≡ old) × IsSettled new
Turns Runs this Answered old new = Exchanges Runs this (λ exchange. Answers this.callers exchange old new)
Turns Runs this Lost old new = Exchanges Runs this (λ exchange. Loses this.callers exchange old)
Turns Runs this Starved old new = Runs this [] this × IsStarved old
Turns Runs this Finished old new = Runs this [] this × IsDone old
