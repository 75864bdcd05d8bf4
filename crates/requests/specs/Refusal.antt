-- The replies to refusals.
use Rattle.std.specs.Prelude.{ℕ, List, codes, Option, Some, None}
use Rattle.requests.specs.declared.refusal.Refusal.{Refusal}
use Rattle.requests.specs.declared.resource.Resource.{Resource}
use Rattle.requests.specs.declared.status.Status.{Status}

-- the status
abbrev pub status_of : Refusal → Status
status_of Refusal.BadRequest = Status.BadRequest
status_of Refusal.UnknownToken = Status.Unauthorized
status_of Refusal.NotFound = Status.NotFound
status_of (Refusal.MethodNotAllowed resource) = Status.MethodNotAllowed
status_of Refusal.LengthRequired = Status.LengthRequired
status_of Refusal.TooLarge = Status.PayloadTooLarge
status_of Refusal.HeadTooLarge = Status.HeadTooLarge

-- the resource that the path names, if it has other methods
abbrev pub allow_of_refusal : Refusal → Option Resource
allow_of_refusal Refusal.BadRequest = None
allow_of_refusal Refusal.UnknownToken = None
allow_of_refusal Refusal.NotFound = None
allow_of_refusal (Refusal.MethodNotAllowed resource) = Some resource
allow_of_refusal Refusal.LengthRequired = None
allow_of_refusal Refusal.TooLarge = None
allow_of_refusal Refusal.HeadTooLarge = None

-- the body
abbrev pub text_of : Refusal → List ℕ
text_of Refusal.BadRequest = codes "BAD REQUEST\n"
text_of Refusal.UnknownToken = codes "UNKNOWN TOKEN\n"
text_of Refusal.NotFound = codes "NOT FOUND\n"
text_of (Refusal.MethodNotAllowed resource) = codes "METHOD NOT ALLOWED\n"
text_of Refusal.LengthRequired = codes "LENGTH REQUIRED\n"
text_of Refusal.TooLarge = codes "TOO LARGE\n"
text_of Refusal.HeadTooLarge = codes "HEAD TOO LARGE\n"

-- a refusal that the method and the path decide
abbrev pub IsOfTarget : Refusal → Type 0
IsOfTarget Refusal.BadRequest = ⊥
IsOfTarget Refusal.UnknownToken = ⊥
IsOfTarget Refusal.NotFound = Unit {0}
IsOfTarget (Refusal.MethodNotAllowed resource) = Unit {0}
IsOfTarget Refusal.LengthRequired = ⊥
IsOfTarget Refusal.TooLarge = ⊥
IsOfTarget Refusal.HeadTooLarge = ⊥
