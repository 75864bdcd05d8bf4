-- The parts of a request that its bytes alone decide (RFC 9112, sections 3, 6 and 9).
use Rattle.std.specs.Prelude.{ℕ, ◌==◌, ◌&&◌, ◌||◌, not, Bool, List, [], ◌∷◌, length, map, codes, nat_le, nat_lt, Option, Some, None, Result, Ok, Err, option_map, if◌then◌else◌}
use Rattle.std.specs.List.{list_all, list_any}
use Rattle.std.specs.Option.{option_zip}
use Rattle.std.specs.Str.{bytes_eq}
use Rattle.std.specs.Str.Parse.{digits_value}
use Rattle.httparse.specs.Grammar.{RequestHead}
use Rattle.httparse.specs.Spans.{name_and_value}
use Rattle.mcs_reader.specs.Id.{id_of}
use Rattle.percent_encoding.specs.Percent.{percent_decode}
use Rattle.requests.specs.Headers.{Pair, asks_to_close, has, sole_value, values}
use Rattle.requests.specs.Routes.{resource_at, takes}
use Rattle.requests.specs.Text.{before, after, begins_with, is_number}
use Rattle.requests.specs.declared.action.Action.{Action}
use Rattle.requests.specs.declared.refusal.Refusal.{Refusal}
use Rattle.requests.specs.declared.refusal.Refusal.TheVariants.{BadRequest, NotFound, MethodNotAllowed, LengthRequired, TooLarge}
use Rattle.requests.specs.declared.resource.Resource.{Resource}

-- the parts of a head: its method, its target, the caller's token and the number of a change, if there is just one of each,
-- and whether the connection ends after the reply
pub record Parts : Type 0 where
  pub method : List ℕ
  pub target : List ℕ
  pub token : Option (List ℕ)
  pub number : Option (List ℕ)
  pub closes : Bool

-- the connection ends after the reply to a request of HTTP 1.0, or to one that asks for it
abbrev pub closes_by : ℕ → List Pair → Bool
closes_by minor fields = minor == 0 || list_any asks_to_close fields

-- the parts by a method, a target, a minor version and the fields
abbrev pub parts_by : List ℕ → List ℕ → ℕ → List Pair → Parts
parts_by method target minor fields = record {
  method = method;
  target = target;
  token = sole_value (codes "bureau-token") fields;
  number = sole_value (codes "bureau-number") fields;
  closes = closes_by minor fields;
}

-- the fields of a head
abbrev pub pairs_of : RequestHead → List Pair
pairs_of head = map name_and_value head.fields

-- the parts of a head
abbrev pub parts_of : RequestHead → Parts
parts_of head = parts_by head.method head.target head.minor (pairs_of head)

-- ---- the target

abbrev pub slash : ℕ
slash = 47

abbrev pub question_mark : ℕ
question_mark = 63

-- a target in the form of a path, in ASCII
abbrev pub is_path : List ℕ → Bool
is_path target = begins_with slash target && list_all (λ b. nat_lt b 128) target

-- the path: the target before the first `?`
abbrev pub path_of : List ℕ → List ℕ
path_of target = before question_mark target

-- the id that a part of a path stands for, its escapes decoded
abbrev pub id_in : List ℕ → Option (List ℕ)
id_in part = id_of (percent_decode part)

-- the zone that a path names: between its second and third slash
abbrev pub zone_in : List ℕ → Option (List ℕ)
zone_in path = id_in (before slash (after slash (after slash path)))

-- the SYSMOD that a path names: after its fourth slash
abbrev pub sysmod_in : List ℕ → Option (List ℕ)
sysmod_in path = id_in (before slash (after slash (after slash (after slash (after slash path)))))

-- ---- the action

-- the action of a method at a resource that has it, with the ids of the path; none if an id that it needs is none
abbrev pub action_at : Resource → List ℕ → List ℕ → Option Action
action_at Resource.Publication method path = Some Action.Publish
action_at (Resource.Catalogue form) method path = Some (Action.Counts form)
action_at (Resource.Zones form) method path = Some (Action.ListZones form)
action_at Resource.Received method path = Some Action.PutReceived
action_at Resource.Zone method path =
    if bytes_eq method (codes "DELETE") then option_map Action.DropZone (zone_in path) else option_map Action.PutZone (zone_in path)
action_at Resource.Patterns method path = option_map Action.PutPatterns (zone_in path)
action_at (Resource.Report report wanted) method path = option_map (Action.Report report wanted) (zone_in path)
action_at Resource.ZoneCounts method path = option_map Action.ZoneCounts (zone_in path)
action_at Resource.Chain method path = option_map (λ ids. Action.Chain ids.0 ids.1) (option_zip (zone_in path) (sysmod_in path))

abbrev pub action_or : Option Action → Result Action Refusal
action_or None = Err NotFound
action_or (Some action) = Ok action

abbrev pub resource_or : Option Resource → List ℕ → List ℕ → Result Action Refusal
resource_or None method path = Err NotFound
resource_or (Some resource) method path = if takes resource method then action_or (action_at resource method path) else Err (MethodNotAllowed resource)

-- the action of a method at a path: first the path counts, then the method, then the ids in the path
abbrev pub asked : List ℕ → List ℕ → Result Action Refusal
asked method path = resource_or (resource_at path) method path

abbrev pub action_of : Parts → Result Action Refusal
action_of parts = asked parts.method (path_of parts.target)

-- ---- the body

-- the longest body, in bytes
unfoldable pub longest_body : ℕ
longest_body = 67108864

-- a body of this length, if it isn't too long
abbrev pub within : ℕ → ℕ → Result ℕ Refusal
within most n = if nat_le n most then Ok n else Err TooLarge

-- PUT and POST come with a body
abbrev pub has_body : List ℕ → Bool
has_body method = bytes_eq method (codes "POST") || bytes_eq method (codes "PUT")

-- the length by a `content-length`
abbrev pub length_told : List ℕ → Result ℕ Refusal
length_told value = if is_number value then within longest_body (digits_value 10 value) else Err BadRequest

-- the length without one
abbrev pub length_untold : List ℕ → Result ℕ Refusal
length_untold method = if has_body method then Err LengthRequired else Ok 0

-- the length of a body by the values of `content-length`
abbrev pub length_by : List ℕ → List (List ℕ) → Result ℕ Refusal
length_by method [] = length_untold method
length_by method (value ∷ []) = length_told value
length_by method (value ∷ other ∷ more) = Err BadRequest

-- the length of the body of a request with this method, this target and these fields, or why the request is refused
-- without one
abbrev pub body_len : List ℕ → List ℕ → List Pair → Result ℕ Refusal
body_len method target fields =
    if not (is_path target) then Err BadRequest
    else if has (codes "transfer-encoding") fields then Err LengthRequired
    else length_by method (values (codes "content-length") fields)

-- ---- the number

-- the number that 1 to 19 digits write
abbrev pub change_number : List ℕ → Option ℕ
change_number text = if is_number text && nat_le (length text) 19 then Some (digits_value 10 text) else None

abbrev pub number_in : Option (List ℕ) → Option ℕ
number_in None = None
number_in (Some text) = change_number text

-- the number of a change, if there is just one and it reads
abbrev pub number_of : Parts → Option ℕ
number_of parts = number_in parts.number
