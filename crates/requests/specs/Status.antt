-- The statuses of replies (RFC 9110, section 15).
use Rattle.std.specs.Prelude.{ℕ, List, codes}
use Rattle.requests.specs.declared.status.Status.{Status}
use Rattle.requests.specs.declared.status.Status.TheVariants.{Success, BadRequest, Unauthorized, Forbidden, NotFound, MethodNotAllowed, Conflict, LengthRequired, PayloadTooLarge, UnprocessableEntity, HeadTooLarge, ServiceUnavailable}

-- the number of a status
abbrev pub code_of : Status → ℕ
code_of Success = 200
code_of BadRequest = 400
code_of Unauthorized = 401
code_of Forbidden = 403
code_of NotFound = 404
code_of MethodNotAllowed = 405
code_of Conflict = 409
code_of LengthRequired = 411
code_of PayloadTooLarge = 413
code_of UnprocessableEntity = 422
code_of HeadTooLarge = 431
code_of ServiceUnavailable = 503

-- the phrase of a status
abbrev pub phrase_of : Status → List ℕ
phrase_of Success = codes "OK"
phrase_of BadRequest = codes "Bad Request"
phrase_of Unauthorized = codes "Unauthorized"
phrase_of Forbidden = codes "Forbidden"
phrase_of NotFound = codes "Not Found"
phrase_of MethodNotAllowed = codes "Method Not Allowed"
phrase_of Conflict = codes "Conflict"
phrase_of LengthRequired = codes "Length Required"
phrase_of PayloadTooLarge = codes "Payload Too Large"
phrase_of UnprocessableEntity = codes "Unprocessable Entity"
phrase_of HeadTooLarge = codes "Request Header Fields Too Large"
phrase_of ServiceUnavailable = codes "Service Unavailable"
