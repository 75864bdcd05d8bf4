-- The meaning of a report's inputs: the publications, one after the other, and the lists of a zone; or the first fault.
use Rattle.std.specs.Prelude.{◌≡◌, ◌⊎◌, ◌+◌, ◌++◌, ℕ, List, [], ◌∷◌, Option, Some, None, Result, Ok, Err, Bool, true, false, if◌then◌else◌, IsSome, length, nat_le, ◌<◌, nat_lt, ◌&&◌, not, ◌==◌}
use Rattle.std.specs.List.{list_any}
use Rattle.faults.specs.FaultText.{text_of}
use Rattle.faults.specs.Told.{of_input, of_machine}
use Rattle.faults.specs.declared.any.AnyFault.{AnyFault}
use Rattle.faults.specs.declared.fault.Cause.{Cause}
use Rattle.faults.specs.declared.fault.Cause.TheVariants as cause
use Rattle.mcs_reader.specs.ReadingOf.{reading_of}
use Rattle.mcs_reader.specs.Unread.{Read}
use Rattle.zone_lists.specs.declared.zones.ZoneRow.{ZoneRow}
use Rattle.catalogue.specs.Content.{Content}
use Rattle.catalogue.specs.Publication.{content_of}
use Rattle.catalogue.specs.declared.change.Change.{Change}
use Rattle.bureau.specs.Bodies.{changes_in, ids_in, patterns_in, rows_in}
use Rattle.file_reports.specs.declared.fault.Input.{Input}
use Rattle.file_reports.specs.declared.fault.Input.TheVariants.{Zone, Categories, Received, Publication}
use Rattle.file_reports.specs.declared.fault.InputFault.{InputFault}

-- ---- what is said, or what is refused

-- an input with the line of its first fault
pub record Refused : Type 0 where
  pub input : Input
  pub line : List ℕ

-- the meaning of an input, as that of such a body at a desk, or the line of its first fault
abbrev pub said_in : {A : Type 0} → Input → Result A (List ℕ) → Result A Refused
said_in input (Ok what) = Ok what
said_in input (Err line) = Err (record { input = input; line = line })

-- the first meaning and then the one that follows from it, or the first fault
abbrev pub and_then : {A B : Type 0} → Result A Refused → (A → Result B Refused) → Result B Refused
and_then (Ok what) next = next what
and_then (Err refused) next = Err refused

-- ---- the inputs

-- The bytes of all inputs. A list that isn't given is no input.
pub record Inputs : Type 0 where
  pub zone : List ℕ
  pub categories : Option (List ℕ)
  pub received : Option (List ℕ)
  pub publications : List (List ℕ)

-- the meaning of all inputs: the zone's rows, the patterns, the received SYSMODs, and the content that all publications
-- leave
pub record Said : Type 0 where
  pub rows : List ZoneRow
  pub patterns : List (List ℕ)
  pub received : List (List ℕ)
  pub content : Content

-- the most bytes that an input may have
abbrev pub most_bytes : ℕ
most_bytes = 67108864

-- the meaning of an input that is not too long, or else the fault 5
abbrev pub if_not_long : {A : Type 0} → Bool → Input → Result A (List ℕ) → Result A Refused
if_not_long true input said = said_in input said
if_not_long false input said = Err (record { input = input; line = text_of (of_input 5) })

-- the entries of a list, unless it has more bytes than an input may have
abbrev pub list_in : {A : Type 0} → Input → List ℕ → Result A (List ℕ) → Result A Refused
list_in input body said = if_not_long (nat_le (length body) most_bytes) input said

abbrev pub rows_said : List ℕ → Result (List ZoneRow) Refused
rows_said body = list_in Zone body (rows_in body)

-- a list that isn't given is empty
abbrev pub patterns_said : Option (List ℕ) → Result (List (List ℕ)) Refused
patterns_said None = Ok []
patterns_said (Some body) = list_in Categories body (patterns_in body)

abbrev pub received_said : Option (List ℕ) → Result (List (List ℕ)) Refused
received_said None = Ok []
received_said (Some body) = list_in Received body (ids_in body)

-- the changes that a FILE publishes, which has these statements; if it has none, it is no text of statements: the fault 75
abbrev pub if_any : {A : Type 0} → Read → Result A (List ℕ) → Result A (List ℕ)
if_any (Ok []) said = Err (text_of (of_input 75))
if_any (Ok (statement ∷ more)) said = said
if_any (Err fault) said = said

-- Serves private contracts alone: whether there is a statement.
abbrev pub HasAny : Bool → Read → Type 0
HasAny has read = (said : Result (List Change) (List ℕ)) → if_any read said ≡ (if has then said else Err (text_of (of_input 75)))

abbrev pub statements_in : List ℕ → Result (List Change) (List ℕ)
statements_in body = if_any (reading_of body) (changes_in body)

-- records without line ends: over 80 bytes, and no line ends
abbrev pub is_unended : List ℕ → Bool
is_unended body = nat_lt 80 (length body) && not (list_any (λ byte. byte == 10) body)

-- the changes that a FILE publishes; the fault 75, if it is no text of statements in lines
abbrev pub publication_in : List ℕ → Result (List Change) (List ℕ)
publication_in body = if is_unended body then Err (text_of (of_input 75)) else statements_in body

-- the changes of publications, of which the first has this index: all in order, or the fault of the first publication that
-- has one
abbrev pub published_from : ℕ → List (List ℕ) → Result (List Change) Refused
published_from index [] = Ok []
published_from index (body ∷ bodies) =
    and_then (said_in (Publication index) (publication_in body)) (λ changes.
    and_then (published_from (index + 1) bodies) (λ later. Ok (changes ++ later)))

-- the content that they leave, if nothing was published before
abbrev pub content_published : List (List ℕ) → Result Content Refused
content_published bodies = and_then (published_from 0 bodies) (λ changes. Ok (content_of changes))

-- The meaning of the inputs, or the first fault: that of the zone's rows, then of the categories, of the received SYSMODs,
-- and of the publications in their order.
abbrev pub said_by : Inputs → Result Said Refused
said_by inputs =
    and_then (rows_said inputs.zone) (λ rows.
    and_then (patterns_said inputs.categories) (λ patterns.
    and_then (received_said inputs.received) (λ received.
    and_then (content_published inputs.publications) (λ content.
    Ok (record { rows = rows; patterns = patterns; received = received; content = content })))))

-- the input is one of those that are given
abbrev pub IsGiven : Inputs → Input → Type 0
IsGiven inputs Zone = Unit {0}
IsGiven inputs Categories = IsSome inputs.categories
IsGiven inputs Received = IsSome inputs.received
IsGiven inputs (Publication index) = index < length inputs.publications

-- ---- how a fault is told

-- a fault with its input; one of the machine is in none
abbrev pub input_at_fault : Input → Cause → Option Input
input_at_fault input cause.Input = Some input
input_at_fault input cause.Machine = None

abbrev pub told_in : Input → AnyFault → InputFault
told_in input fault = record { input = input_at_fault input fault.cause; fault = fault }

-- Memory ran out: for the statements of a publication (6), a hold (17), what a publication changes (24), a report (25) or a list
-- (38). No device is read, so none fails.
abbrev pub IsMemory : AnyFault → Type 0
IsMemory fault =
    (fault ≡ of_machine 6) ⊎ (fault ≡ of_machine 17) ⊎ (fault ≡ of_machine 24) ⊎ (fault ≡ of_machine 25) ⊎ (fault ≡ of_machine 38)

-- memory ran out, which names no input
abbrev pub IsOutOfMemory : InputFault → Type 0
IsOutOfMemory told = (told.input ≡ None) × IsMemory told.fault

-- the input is at fault, and the answer is that and the line of this fault
abbrev pub IsOfInput : {A : Type 0} → Result A Refused → InputFault → Type 0
IsOfInput said told =
    (told.fault.cause ≡ cause.Input)
    × ((input : Input) × (told.input ≡ Some input) × (said ≡ Err (record { input = input; line = text_of told.fault })))

-- the fault is the first one of the inputs; or memory ran out
abbrev pub IsFirstFault : {A : Type 0} → Result A Refused → InputFault → Type 0
IsFirstFault said told = IsOutOfMemory told ⊎ IsOfInput said told
