-- The decision on a whole head, in the order of the checks: its lines, HTTP's grammar, its target, its body's length.
use Rattle.std.specs.Prelude.{◌≡◌, ℕ, Bool, true, false, List, [], codes, nat_lt, Option, Some, None, Result, Ok, Err}
use Rattle.std.specs.Str.{bytes_eq}
use Rattle.httparse.specs.Grammar.{RequestHead, ReadsRequest}
use Rattle.requests.specs.Head.{IsNoHead, parts_at}
use Rattle.requests.specs.HeadEnd.{lines_between}
use Rattle.requests.specs.Headers.{Pair}
use Rattle.requests.specs.Request.{Parts, body_len, pairs_of, parts_by}
use Rattle.requests.specs.declared.head.Head.{Head}
use Rattle.requests.specs.declared.order.Refused.{Refused}
use Rattle.requests.specs.declared.refusal.Refusal.{Refusal}
use Rattle.requests.specs.declared.refusal.Refusal.TheVariants.{BadRequest, HeadTooLarge}

-- the parts of a request and the length of its body; or why it is refused, and whether its reply has no body
abbrev pub Decision : Type 0
Decision = Result (Parts × ℕ) (Refusal × Bool)

-- only the head of the reply is asked for
abbrev pub is_bare : Parts → Bool
is_bare parts = bytes_eq parts.method (codes "HEAD")

abbrev pub by_length : Parts → Result ℕ Refusal → Decision
by_length parts (Ok n) = Ok (parts, n)
by_length parts (Err refusal) = Err (refusal, is_bare parts)

-- the decision on a head with this method, this target, this minor version and these fields
abbrev pub by_parts : List ℕ → List ℕ → ℕ → List Pair → Decision
by_parts method target minor fields = by_length (parts_by method target minor fields) (body_len method target fields)

abbrev pub by_head : Option RequestHead → Decision
by_head None = Err (BadRequest, false)
by_head (Some head) = by_parts head.method head.target head.minor (pairs_of head)

-- the reading of the bytes: a whole head, or none
abbrev pub IsRead : List ℕ → Option RequestHead → Type 0
IsRead bytes None = IsNoHead bytes
IsRead bytes (Some head) = ReadsRequest bytes head []

abbrev pub IsDecidedBy : Bool → List ℕ → Decision → Type 0
IsDecidedBy true bytes decision = decision ≡ Err (HeadTooLarge, false)
IsDecidedBy false bytes decision = (read : Option RequestHead) × IsRead bytes read × (decision ≡ by_head read)

-- a head of over 64 lines between its first and its blank one is refused; the decision on any other is by its reading
abbrev pub IsDecided : List ℕ → Decision → Type 0
IsDecided bytes decision = IsDecidedBy (nat_lt 64 (lines_between bytes)) bytes decision

-- the decision that an answer has
abbrev pub decision_of : List ℕ → Result (Head × ℕ) Refused → Decision
decision_of bytes (Ok ready) = Ok (parts_at bytes ready.0, ready.1)
decision_of bytes (Err refused) = Err (refused.refusal, refused.is_bare)
