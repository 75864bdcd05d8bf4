-- Whose request is answered next: callers have their turns one after the other, however many connections each has.
use Rattle.std.specs.Prelude.{◌≡◌, ◌≢◌, ◌⊎◌, ℕ, Bool, true, false, List, slice_get, slice_set, [], ◌∷◌, ◌++◌, map, Option, Some, None}
use Rattle.std.specs.List.{AllByRecursion, flat_map}
use Rattle.connections.specs.declared.turns.Waiting.{Waiting}

-- A caller by the token of its requests. All requests without a token are of one, whose token has no byte.
abbrev pub Caller : Type 0
Caller = List ℕ

-- a caller whose requests wait, and the slots of their connections: that which waits longest, and the others
pub record Waits : Type 0 where
  pub caller : Caller
  pub first : ℕ
  pub others : List ℕ

-- those that wait, in the order of their turns
abbrev pub Queue : Type 0
Queue = List Waits

abbrev pub callers_in : Queue → List Caller
callers_in queue = map (λ waits. waits.caller) queue

-- none of these is the caller
abbrev pub IsNoneOf : Caller → List Caller → Type 0
IsNoneOf caller others = AllByRecursion (λ other. other ≢ caller) others

-- A request joins those of its caller, as the last of them. If none of its caller waits, the caller is the last.
abbrev pub Joins : Caller → ℕ → Queue → Queue → Type 0
Joins caller slot old new =
    ((before after : Queue) × (first : ℕ) × (others : List ℕ) × (old ≡ before ++ record { caller = caller; first = first; others = others } ∷ after)
    × (new ≡ before ++ record { caller = caller; first = first; others = others ++ slot ∷ [] } ∷ after))
    ⊎ (IsNoneOf caller (callers_in old) × (new ≡ old ++ record { caller = caller; first = slot; others = [] } ∷ []))

-- a caller with these slots, unless it has none
abbrev pub waiting : Caller → List ℕ → Queue
waiting caller [] = []
waiting caller (slot ∷ slots) = record { caller = caller; first = slot; others = slots } ∷ []

-- The first caller has a turn, for the request that waits longest. If others of its own wait, it goes behind all other callers.
abbrev pub HasTurn : Caller → ℕ → Queue → Queue → Type 0
HasTurn caller slot old new =
    (others : List ℕ) × (behind : Queue) × (old ≡ record { caller = caller; first = slot; others = others } ∷ behind) × (new ≡ behind ++ waiting caller others)

abbrev pub IsTurn : Queue → Option ℕ → Queue → Type 0
IsTurn old None new = (old ≡ []) × (new ≡ old)
IsTurn old (Some slot) new = (caller : Caller) × HasTurn caller slot old new

-- ---- one thing after the other

pub data Move : Type 0 where
  joins : Caller → ℕ → Move
  turns : Caller → ℕ → Move

abbrev pub IsMove : Queue → Move → Queue → Type 0
IsMove old (joins caller slot) new = Joins caller slot old new
IsMove old (turns caller slot) new = HasTurn caller slot old new

abbrev pub AreMoves : Queue → List Move → Queue → Type 0
AreMoves old [] new = new ≡ old
AreMoves old (move ∷ moves) new = (mid : Queue) × IsMove old move mid × AreMoves mid moves new

-- the callers that had turns, in their order
abbrev pub turn_in : Move → List Caller
turn_in (joins caller slot) = []
turn_in (turns caller slot) = caller ∷ []

abbrev pub turns_in : List Move → List Caller
turns_in moves = flat_map turn_in moves

-- each is another one than those behind it
abbrev pub AreApart : List Caller → Type 0
AreApart [] = Unit {0}
AreApart (caller ∷ more) = IsNoneOf caller more × AreApart more

-- Until a caller that waits has its turn, only those before it have theirs, each once, in their order.
abbrev pub AreFair : Type 0
AreFair = (old new before after : Queue) (waits : Waits) (moves : List Move) → AreMoves old moves new → old ≡ before ++ waits ∷ after
    → IsNoneOf waits.caller (turns_in moves) → (others : List Caller) × (callers_in before ≡ turns_in moves ++ others)

-- No caller stands there twice.
abbrev pub StandOnce : Type 0
StandOnce = (queue : Queue) (moves : List Move) → AreMoves [] moves queue → AreApart (callers_in queue)

-- ---- private: as the code has it

abbrev pub waits_of : Waiting → Waits
waits_of one = record { caller = one.caller.items; first = one.first; others = one.others.items }

-- one more request of the caller at a place, if there was room for it
abbrev pub more_of : Bool → List ℕ → ℕ → List ℕ
more_of true others slot = others ++ slot ∷ []
more_of false others slot = others

abbrev pub IsMore : ℕ → Bool → ℕ → List Waiting → List Waiting → Type 0
IsMore at has_room slot old new = (one two : Waiting) × (slice_get old at ≡ Some one) × (new ≡ slice_set old at two)
    × (two.caller ≡ one.caller) × (two.first ≡ one.first) × (two.others.items ≡ more_of has_room one.others.items slot)
