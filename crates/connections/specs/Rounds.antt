-- How a desk serves in rounds, by the log of these, as far as that is known.
use Rattle.std.specs.Prelude.{◌≡◌, ◌<◌, ◌≤◌, ◌⊎◌, ℕ, ◌+◌, ◌-◌, List, [], ◌∷◌, ◌++◌, length, option_map, Option, Some, None, IfSome}
use Rattle.std.specs.List.{flat_map}
use Rattle.catalogue.specs.View.{Goes, IsOpen, Tells, View}
use Rattle.bureau_store.specs.Tables.{Tables}
use Rattle.bureau_store.specs.declared.caller.CallerRow.{CallerRow}
use Rattle.bureau.specs.Joint.{CallBy}
use Rattle.bureau.specs.Kept.{IsKeptRun}
use Rattle.bureau.specs.Runs.{IsLawfulRun}
use Rattle.bureau_http.specs.Exchange.{calls_of}
use Rattle.connections.specs.Items.{AreFree, Event, Item, Slots, comers, exchanges_of}
use Rattle.connections.specs.Memory.{StaysWithin}
use Rattle.connections.specs.Own.{EachIsServed}
use Rattle.connections.specs.Service.{IsSound}
use Rattle.connections.specs.SideBySide.{AreServedSideBySide, AreSoFar, IsOnward, NoneWaits}
use Rattle.connections.specs.Turns.{AreSettled}
use Rattle.connections.specs.declared.rounds.Halt.{Halt}
use Rattle.connections.specs.declared.rounds.Halt.TheVariants as halt
use Rattle.connections.specs.declared.rounds.RoundFault.{RoundFault}
use Rattle.connections.specs.declared.rounds.RoundFault.TheVariants.{System}
use Rattle.connections.specs.declared.slots.Connections.{Connections}

-- ---- the log

-- A round: the connections that it was shown, with the bytes that had to go out; how many more might come; and its events.
-- Or a last showing, which has no such number and no events.
pub record Entry : Type 0 where
  pub shown : Slots
  pub left : Option ℕ
  pub told : List Event

abbrev pub round_of : Slots → ℕ → List Event → Entry
round_of shown left told = record { shown = shown; left = Some left; told = told }

abbrev pub last_showing : Slots → Entry
last_showing shown = record { shown = shown; left = None; told = [] }

-- the rounds so far, the oldest first, as far as they are known
abbrev pub Log : Type 0
Log = Option (List Entry)

-- The log grew by these rounds. A log that is known was known before.
abbrev pub Logs : Log → Log → List Entry → Type 0
Logs old new entries = IfSome new (λ log. option_map (λ before. before ++ entries) old ≡ Some log)

-- all that was told, in order
abbrev pub told_in : List Entry → List Event
told_in entries = flat_map (λ (entry : Entry). entry.told) entries

-- Each was a round, and was told how many connections might still come: of so many, those that had not come yet.
abbrev pub AreCounted : ℕ → List Entry → Type 0
AreCounted count [] = Unit {0}
AreCounted count (round ∷ rounds) = (round.left ≡ Some count) × AreCounted (count - comers round.told) rounds

-- ---- what was served in rounds

-- Each round was shown the connections as they were after all events before it, and these items are what was done.
abbrev pub AreShown : List CallerRow → Slots → List Entry → List Item → Slots → Type 0
AreShown rows old [] items new = (items ≡ []) × (new ≡ old)
AreShown rows old (round ∷ rounds) items new =
    (first : List Item) × (rest : List Item) × (mid : Slots) × (round.shown ≡ old) × (items ≡ first ++ rest)
    × NoneWaits rows old round.told first mid × AreShown rows mid rounds rest new

-- The events of rounds were served side by side, and each round was shown the connections as they were.
pub record AreServedInRounds (Runs : Tables → List CallBy → Tables → Type 0) (this : Tables) (rounds : List Entry) (before after : Slots) : Type 0 where
  pub side : AreServedSideBySide Runs this (told_in rounds) before after
  pub shown : AreSettled before → AreShown this.callers before rounds side.items after

module _ {Desk : Type 0} (view : View Desk Tables) where
  abbrev pub AreRounds : Desk → Desk → List Entry → Slots → Slots → Type 0
  AreRounds old new rounds before after = Tells view old new (λ this. AreServedInRounds (IsLawfulRun view old new) this rounds before after)

module _ {Desk : Type 0} (view : View Desk Tables) (old new : Desk) (log log_after : Log) (before after : Slots) where
  -- All connections were served: so many came, no slot has one any more, and the device has not failed by then. The log has
  -- these rounds and no others.
  pub record AreAllServed (count : ℕ) : Type 0 where
    pub rounds : List Entry
    pub logged : Logs log log_after rounds
    pub counted : AreCounted count rounds
    pub served : AreRounds view old new rounds before after
    pub sound : IsSound view new (told_in rounds)
    pub came : comers (told_in rounds) ≡ count
    pub gone : AreFree after

  -- All events were served, and the device has not failed by then. There were no more rounds, since the last ended with this
  -- fault. Or, as a fault of the system, more connections came than should, or no more rounds are counted.
  pub record AreServedSoFar (Over : RoundFault → Type 0) (fault : RoundFault) (count : ℕ) : Type 0 where
    pub rounds : List Entry
    pub logged : Logs log log_after rounds
    pub counted : AreCounted count rounds
    pub served : AreRounds view old new rounds before after
    pub sound : IsSound view new (told_in rounds)
    pub why : Over fault ⊎ ((fault ≡ System) × ((count < comers (told_in rounds)) ⊎ (length rounds ≡ 18446744073709551615)))

  -- The device failed at one event, and at none before it. The events of the same round after it were not looked at. Then
  -- the connections were shown once more, as they were after that event, and no event came after that.
  pub record EndsInFailure (count : ℕ) : Type 0 where
    pub earlier : List Entry
    pub shown : Slots
    pub left : ℕ
    pub first : List Event
    pub last : Event
    pub rest : List Event
    pub logged : Logs log log_after (earlier ++ round_of shown left (first ++ last ∷ rest) ∷ last_showing after ∷ [])
    pub counted : AreCounted count (earlier ++ round_of shown left (first ++ last ∷ rest) ∷ [])
    pub fewer : comers (told_in earlier) ≤ count
    pub between : Desk
    pub between_slots : Slots
    pub served : AreRounds view old between (earlier ++ round_of shown left first ∷ []) before between_slots
    pub sound : IsSound view between (told_in earlier ++ first)
    pub failed : 0 < view.failures new
    pub whole : AreRounds view old new (earlier ++ round_of shown left (first ++ last ∷ []) ∷ last_showing after ∷ []) before after

  -- why it ended before all connections were served
  abbrev pub IsHaltedBy : (RoundFault → Type 0) → ℕ → Halt → Type 0
  IsHaltedBy Over count halt.Device = EndsInFailure count
  IsHaltedBy Over count (halt.Rounds fault) = AreServedSoFar Over fault count

-- ---- the calls that a log asks for

-- From free slots on, rounds had these events, and each was shown the connections as they were. Each connection was answered
-- its own requests, in their order, and was sent their replies. These are the calls of all of them, in the order in which
-- they were answered, and no others.
pub record AreAskedIn (rows : List CallerRow) (rounds : List Entry) (calls : List CallBy) : Type 0 where
  pub items : List Item
  pub before : Slots
  pub free : AreFree before
  pub after : Slots
  pub shown : AreShown rows before rounds items after
  pub own : EachIsServed rows items
  pub calls_are : calls ≡ calls_of (exchanges_of items)

-- The log grew by these rounds. Or, if the device failed, the last round had more events, which were not looked at; then
-- came the last showing.
abbrev pub AreLogged : Log → Log → Type 0 → List Entry → Type 0
AreLogged log log_after Failed rounds = Logs log log_after rounds
    ⊎ (Failed × ((earlier : List Entry) × (shown : Slots) × (left : ℕ) × (told : List Event) × (rest : List Event) × (last : Slots)
    × (rounds ≡ earlier ++ round_of shown left told ∷ last_showing last ∷ [])
    × Logs log log_after (earlier ++ round_of shown left (told ++ rest) ∷ last_showing last ∷ [])))

-- The log grew by rounds that ask for these calls.
pub record AreCallsOf (rows : List CallerRow) (log log_after : Log) (Failed : Type 0) (calls : List CallBy) : Type 0 where
  pub rounds : List Entry
  pub logged : AreLogged log log_after Failed rounds
  pub asked : AreAskedIn rows rounds calls

-- ---- private: what was done so far

pub record AreInRounds (Runs : Tables → List CallBy → Tables → Type 0) (this : Tables) (rounds : List Entry) (before after : Slots) : Type 0 where
  pub so_far : AreSoFar Runs this (told_in rounds) before after
  pub shown : AreSettled before → AreShown this.callers before rounds so_far.items after

module _ {Desk : Type 0} (view : View Desk Tables) where
  -- these rounds were served, the desk goes on, and what is held stays within the limit
  pub record GoesInRounds (old new : Desk) (rounds : List Entry) (before after : Connections) : Type 0 where
    pub goes : Goes view old new
    pub in_rounds : Tells view old new (λ this. AreInRounds (IsKeptRun view old new) this rounds before.slots.items after.slots.items)
    pub within : StaysWithin before after

  -- there was no event, and the desk was asked nothing; or the device has not failed by then
  abbrev pub IsStill : Desk → Desk → List Event → Type 0
  IsStill old new events = ((events ≡ []) × (new ≡ old)) ⊎ IsOpen view new

  -- the device failed at one event, and no later one was looked at
  pub record Fails (old new : Desk) (events : List Event) (before after : Connections) : Type 0 where
    pub first : List Event
    pub last : Event
    pub rest : List Event
    pub are : events ≡ first ++ last ∷ rest
    pub between : Desk
    pub mid : Connections
    pub onward : IsOnward view old between first before mid
    pub still : IsStill old between first
    pub failed : 0 < view.failures new
    pub whole : IsOnward view old new (first ++ last ∷ []) before after

  -- of so many connections that were to come
  pub record HasServed (old new : Desk) (log log_after : Log) (before after : Connections) (count : ℕ) : Type 0 where
    pub rounds : List Entry
    pub logged : Logs log log_after rounds
    pub counted : AreCounted count rounds
    pub onward : GoesInRounds old new rounds before after
    pub still : IsStill old new (told_in rounds)

  -- after so many rounds, if so many are to come
  pub record HasServedBut (old new : Desk) (log log_after : Log) (before after : Connections) (left count turns : ℕ) : Type 0 where
    pub so_far : HasServed old new log log_after before after count
    pub come : left + comers (told_in so_far.rounds) ≡ count
    pub turned : length so_far.rounds ≡ turns

  abbrev pub HasServedAll : Desk → Desk → Log → Log → Connections → Connections → ℕ → Type 0
  HasServedAll old new log log_after before after count = (turns : ℕ) × HasServedBut old new log log_after before after 0 count turns

  pub record HasServedUntil (old new : Desk) (log log_after : Log) (before after : Connections) (count : ℕ) : Type 0 where
    pub between : Desk
    pub mid : Log
    pub there : Connections
    pub so_far : HasServed old between log mid before there count
    pub left : ℕ
    pub come : left + comers (told_in so_far.rounds) ≡ count
    pub events : List Event
    pub parted : Log
    pub told : Logs mid parted (round_of there.slots.items left events ∷ [])
    pub fails : Fails between new events there after
    pub last : Logs parted log_after (last_showing after.slots.items ∷ [])

  -- one round that is the last, of so many connections that are to come
  abbrev pub EndsBy : (RoundFault → Type 0) → Halt → Desk → Desk → Log → Log → Connections → Connections → ℕ → Type 0
  EndsBy Over halt.Device old new log log_after before after left = HasServedUntil old new log log_after before after left
  EndsBy Over (halt.Rounds fault) old new log log_after before after left = (so : HasServed old new log log_after before after left)
      × (Over fault ⊎ ((fault ≡ System) × (left < comers (told_in so.rounds))))

  -- all of them
  abbrev pub HasHaltedBy : (RoundFault → Type 0) → Halt → Desk → Desk → Log → Log → Connections → Connections → ℕ → Type 0
  HasHaltedBy Over halt.Device old new log log_after before after count = HasServedUntil old new log log_after before after count
  HasHaltedBy Over (halt.Rounds fault) old new log log_after before after count = (so : HasServed old new log log_after before after count)
      × (Over fault ⊎ ((fault ≡ System) × ((count < comers (told_in so.rounds)) ⊎ (length so.rounds ≡ 18446744073709551615))))
