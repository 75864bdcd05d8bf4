-- The next in the bytes of a connection: its end, or a request (RFC 9112, sections 2 and 6.3).
use Rattle.std.specs.Prelude.{◌≡◌, ◌⊎◌, ℕ, ◌+◌, ◌≤◌, Bool, true, false, List, ◌++◌, length, take, drop, nat_le, Option, Some, Ok, Err, if◌then◌else◌}
use Rattle.requests.specs.Head.{LiesIn, parts_at}
use Rattle.requests.specs.HeadEnd.{IsAtHand, front_of, head_limit}
use Rattle.requests.specs.Order.{Decision, IsDecided}
use Rattle.requests.specs.Request.{Parts, is_path}
use Rattle.requests.specs.declared.front.Front.{Front}
use Rattle.requests.specs.declared.front.Front.TheVariants.{Head, CleanEnd, EndInside, TooLarge}
use Rattle.requests.specs.declared.refusal.Refusal.{Refusal}
use Rattle.requests.specs.declared.refusal.Refusal.TheVariants.{HeadTooLarge}
use Rattle.requests.specs.declared.next_request.Request.{Request}
use Rattle.requests.specs.declared.next_request.NextRequest as answer

-- The connection ends before a request has begun, or inside one. Or a head is refused, with whether its reply has no body.
-- Or a whole request comes, with its body and the bytes after it.
pub data Next : Type 0 where
  clean_end : Next
  end_inside : Next
  refused : Refusal → Bool → Next
  whole : Parts → List ℕ → List ℕ → Next

-- a body of so many bytes, and the bytes after it, if it is whole
abbrev pub with_body : Parts → ℕ → List ℕ → Next
with_body parts n bytes = if nat_le n (length bytes) then whole parts (take n bytes) (drop n bytes) else end_inside

-- the next, by the decision on its head, with these bytes after the head
abbrev pub after_head : List ℕ → Decision → Next
after_head bytes (Err refusal) = refused refusal.0 refusal.1
after_head bytes (Ok ready) = with_body ready.0 ready.1 bytes

-- the next, by the front of the bytes
abbrev pub IsNextBy : Front → List ℕ → Next → Type 0
IsNextBy (Head n) bytes next = (decision : Decision) × IsDecided (take n bytes) decision × (next ≡ after_head (drop n bytes) decision)
IsNextBy CleanEnd bytes next = next ≡ clean_end
IsNextBy EndInside bytes next = next ≡ end_inside
IsNextBy TooLarge bytes next = next ≡ refused HeadTooLarge false

-- the next in the bytes
abbrev pub IsNext : List ℕ → Next → Type 0
IsNext bytes next = IsNextBy (front_of head_limit bytes) bytes next

-- the bytes alone hold neither a whole request nor a head that is refused: if they ended here, they would end clean
-- or inside a request
abbrev pub IsUnfinished : List ℕ → Type 0
IsUnfinished bytes = IsNext bytes clean_end ⊎ IsNext bytes end_inside

-- ---- what a reader answers

-- the number of bytes of a request
abbrev pub request_len : Request → ℕ
request_len request = request.head_len + request.body_len

abbrev pub head_in : List ℕ → Request → List ℕ
head_in held request = take request.head_len held

-- the connection ends after the reply to it, as far as its head says
abbrev pub closes : Request → Bool
closes request = request.head.closes

-- its parts and its body, in the bytes that begin with it
abbrev pub parts_in : List ℕ → Request → Parts
parts_in held request = parts_at (head_in held request) request.head

abbrev pub body_in : List ℕ → Request → List ℕ
body_in held request = take request.body_len (drop request.head_len held)

-- the request lies in the bytes, whole
pub record IsAt (held : List ℕ) (request : Request) : Type 0 where
  pub head : LiesIn (head_in held request) request.head
  pub path : is_path (parts_in held request).target ≡ true
  pub whole : request_len request ≤ length held

abbrev pub NextLies : answer.NextRequest → List ℕ → Type 0
NextLies answer.TheVariants.CleanEnd held = Unit {0}
NextLies answer.TheVariants.EndInside held = Unit {0}
NextLies (answer.TheVariants.Refused refusal) held = Unit {0}
NextLies (answer.TheVariants.Whole request) held = IsAt held request

-- the next, as an answer says it of the bytes that are held and those that are left to read
abbrev pub next_of : List ℕ → List ℕ → answer.NextRequest → Next
next_of held more answer.TheVariants.CleanEnd = clean_end
next_of held more answer.TheVariants.EndInside = end_inside
next_of held more (answer.TheVariants.Refused refusal) = refused refusal.refusal refusal.is_bare
next_of held more (answer.TheVariants.Whole request) =
    whole (parts_in held request) (body_in held request) (drop (request_len request) held ++ more)

-- the bytes are those that are held and those that are left to read, and the answer is right about them
pub record IsReadAs (IsRight : List ℕ → Next → Type 0) (held : List ℕ) (left : Option (List ℕ)) (answer : answer.NextRequest) (bytes : List ℕ) : Type 0 where
  pub more : List ℕ
  pub left_are : left ≡ Some more
  pub bytes_are : bytes ≡ held ++ more
  pub next : IsRight bytes (next_of held more answer)

-- a request with these parts and a body of its length comes next
abbrev pub HasBody : Parts → Request → List ℕ → Next → Type 0
HasBody parts request bytes next = next ≡ with_body parts request.body_len (drop request.head_len bytes)

-- the body of an answer lies in these bytes, after a head that does
abbrev pub IsBodyAtHand : answer.NextRequest → List ℕ → Type 0
IsBodyAtHand answer.TheVariants.CleanEnd held = ⊥
IsBodyAtHand answer.TheVariants.EndInside held = ⊥
IsBodyAtHand (answer.TheVariants.Refused refusal) held = Unit {0}
IsBodyAtHand (answer.TheVariants.Whole request) held = request_len request ≤ length held

-- all parts of an answer lie in these bytes
abbrev pub IsNextAtHand : answer.NextRequest → List ℕ → Type 0
IsNextAtHand answer held = IsAtHand (front_of head_limit held) × IsBodyAtHand answer held
