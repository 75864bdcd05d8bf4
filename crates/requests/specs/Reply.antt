-- The bytes of a reply (RFC 9112, section 4; RFC 9110, sections 8, 10.2.1 and 11.6.1).
use Rattle.std.specs.Prelude.{ℕ, ◌++◌, ◌==◌, Bool, List, [], length, codes, decimal, Option, Some, None, if◌then◌else◌}
use Rattle.http.specs.StatusCode.{code_digits}
use Rattle.requests.specs.Routes.{allow_of}
use Rattle.requests.specs.Status.{code_of, phrase_of}
use Rattle.requests.specs.declared.reply.ReplyHead.{ReplyHead}
use Rattle.requests.specs.declared.resource.Resource.{Resource}
use Rattle.requests.specs.declared.status.Status.{Status}

-- a line of a head
abbrev pub line : List ℕ → List ℕ → List ℕ
line name value = name ++ (value ++ codes "\r\n")

-- `HTTP/1.1`, the status and its phrase
abbrev pub status_line : Status → List ℕ
status_line status = codes "HTTP/1.1 " ++ (code_digits (code_of status) ++ (codes " " ++ (phrase_of status ++ codes "\r\n")))

abbrev pub type_name : Bool → List ℕ
type_name is_json = if is_json then codes "application/json" else codes "text/plain"

abbrev pub type_line : Bool → List ℕ
type_line is_json = line (codes "content-type: ") (type_name is_json)

abbrev pub length_line : ℕ → List ℕ
length_line length = line (codes "content-length: ") (decimal length)

-- the methods of the resource, if the one asked for isn't among them
abbrev pub allow_line : Option Resource → List ℕ
allow_line None = []
allow_line (Some resource) = line (codes "allow: ") (allow_of resource)

-- a caller that isn't known is told the scheme
abbrev pub challenge_line : Status → List ℕ
challenge_line status = if code_of status == 401 then line (codes "www-authenticate: ") (codes "Bureau") else []

abbrev pub close_line : Bool → List ℕ
close_line closes = if closes then line (codes "connection: ") (codes "close") else []

-- the head of a reply, with its empty line
abbrev pub head_text : ReplyHead → List ℕ
head_text head =
    status_line head.status ++ (type_line head.is_json ++ (length_line head.length ++ (allow_line head.allow
    ++ (challenge_line head.status ++ (close_line head.closes ++ codes "\r\n")))))

-- the head and the body, which is left out if only the head is asked for
abbrev pub reply_text : ReplyHead → Bool → List ℕ → List ℕ
reply_text head is_bare body = head_text head ++ (if is_bare then [] else body)
