-- Short heads, paths and lengths with what they decide: theorems about the definitions alone, so that a reader sees
-- them mean what they should.
use Rattle.std.proofs.Common.{◌≡◌, ℕ, true, false, List, [], ◌∷◌, Some, None, Result, Ok, Err, codes, refl}
use Rattle.matchit.proofs.OnLiterals.{matchit_on_literals}
use Rattle.percent_encoding.proofs.OnLiterals.{percent_encoding_on_literals}
use Rattle.questions.specs.declared.report.Report.TheVariants.{ErrSysmods}
use Rattle.questions.specs.declared.wanted.Form.TheVariants.{Json}
use Rattle.questions.specs.declared.wanted.Wanted.TheVariants.{Rows}
use Rattle.requests.specs.HeadEnd.{front_of, lines_between, whole_len}
use Rattle.requests.specs.Headers.{Pair}
use Rattle.requests.specs.Request.{Parts, asked, body_len, longest_body, number_of, parts_by, zone_in}
use Rattle.requests.specs.Routes.{allow_of, routes, table, with_route}
use Rattle.requests.specs.declared.action.Action.TheVariants as action
use Rattle.requests.specs.declared.front.Front.TheVariants.{CleanEnd, EndInside, TooLarge}
use Rattle.requests.specs.declared.refusal.Refusal.{Refusal}
use Rattle.requests.specs.declared.refusal.Refusal.TheVariants.{BadRequest, LengthRequired, MethodNotAllowed, NotFound, TooLarge as BodyTooLarge}
use Rattle.requests.specs.declared.resource.Resource.TheVariants as resource

-- ---- where a head ends

pub ends_with_a_blank_line : whole_len (codes "GET / HTTP/1.1\r\n\r\nmore") ≡ Some 18
ends_with_a_blank_line = refl

pub bare_line_feeds : whole_len (codes "GET / HTTP/1.1\n\nmore") ≡ Some 16
bare_line_feeds = refl

pub empty_lines_before : whole_len (codes "\r\n\nGET / HTTP/1.1\r\n\r\n") ≡ Some 21
empty_lines_before = refl

pub no_end_yet : whole_len (codes "GET / HTTP/1.1\r\n") ≡ None
no_end_yet = refl

pub nothing_but_empty_lines : front_of 64 (codes "\r\n\n") ≡ CleanEnd
nothing_but_empty_lines = refl

pub a_return_alone_begins_a_head : front_of 64 (codes "\r") ≡ EndInside
a_return_alone_begins_a_head = refl

pub as_many_bytes_as_a_head_may_have : front_of 8 (codes "GET / HTTP") ≡ TooLarge
as_many_bytes_as_a_head_may_have = refl

pub two_lines_between : lines_between (codes "\nGET / HTTP/1.1\r\na: b\r\nc: d\n\r\n") ≡ 2
two_lines_between = refl

-- ---- what the fields decide

abbrev length_with : List ℕ → List Pair → Result ℕ Refusal
length_with method fields = body_len method (codes "/received") fields

abbrev parts_with : List ℕ → List Pair → Parts
parts_with method fields = parts_by method (codes "/received") 1 fields

pub told_length : length_with (codes "PUT") ((codes "Content-Length", codes "0045") ∷ []) ≡ Ok 45
unfolding longest_body
told_length = refl

pub signed_length : length_with (codes "PUT") ((codes "content-length", codes "+5") ∷ []) ≡ Err BadRequest
signed_length = refl

pub two_lengths : length_with (codes "PUT") ((codes "content-length", codes "5") ∷ (codes "CONTENT-LENGTH", codes "5") ∷ []) ≡ Err BadRequest
two_lengths = refl

pub no_length : length_with (codes "PUT") [] ≡ Err LengthRequired
no_length = refl

pub no_length_and_no_body : length_with (codes "DELETE") [] ≡ Ok 0
no_length_and_no_body = refl

pub coded_body : length_with (codes "PUT") ((codes "transfer-encoding", codes "chunked") ∷ (codes "content-length", codes "5") ∷ []) ≡ Err LengthRequired
coded_body = refl

pub one_byte_too_many : length_with (codes "PUT") ((codes "content-length", codes "67108865") ∷ []) ≡ Err BodyTooLarge
unfolding longest_body
one_byte_too_many = refl

pub close_in_a_list : (parts_with (codes "GET") ((codes "connection", codes "keep-alive,\t Close") ∷ [])).closes ≡ true
close_in_a_list = refl

pub closed_is_another_word : (parts_with (codes "GET") ((codes "connection", codes "closed") ∷ [])).closes ≡ false
closed_is_another_word = refl

pub token_twice : (parts_with (codes "GET") ((codes "bureau-token", codes "a") ∷ (codes "Bureau-Token", codes "a") ∷ [])).token ≡ None
token_twice = refl

pub number_with_a_sign : number_of (parts_with (codes "PUT") ((codes "bureau-number", codes "+1") ∷ [])) ≡ None
number_with_a_sign = refl

-- ---- what a path and a method ask for

pub escaped_zone : zone_in (codes "/zones/TGT%31/errsysmods") ≡ Some (codes "TGT1   ")
unfolding percent_encoding_on_literals
escaped_zone = refl

pub methods_in_order : allow_of resource.Zone ≡ codes "DELETE, PUT"
methods_in_order = refl

pub put_a_zone : asked (codes "PUT") (codes "/zones/TGT1") ≡ Ok (action.PutZone (codes "TGT1   "))
unfolding routes table with_route matchit_on_literals percent_encoding_on_literals
put_a_zone = refl

pub get_a_zone : asked (codes "GET") (codes "/zones/TGT1") ≡ Err (MethodNotAllowed resource.Zone)
unfolding routes table with_route matchit_on_literals
get_a_zone = refl

pub small_letters_are_no_id : asked (codes "PUT") (codes "/zones/tgt1") ≡ Err NotFound
unfolding routes table with_route matchit_on_literals percent_encoding_on_literals
small_letters_are_no_id = refl

pub nowhere : asked (codes "GET") (codes "/zones/") ≡ Err NotFound
unfolding routes table with_route matchit_on_literals
nowhere = refl

pub zones_as_json : asked (codes "GET") (codes "/zones.json") ≡ Ok (action.ListZones Json)
unfolding routes table with_route matchit_on_literals
zones_as_json = refl

pub report_as_json : asked (codes "GET") (codes "/zones/ZONES/errsysmods.json") ≡ Ok (action.Report ErrSysmods (Rows Json) (codes "ZONES  "))
unfolding routes table with_route matchit_on_literals percent_encoding_on_literals
report_as_json = refl

pub counts_of_a_zone : asked (codes "GET") (codes "/zones/TGT1/counts.json") ≡ Ok (action.ZoneCounts (codes "TGT1   "))
unfolding routes table with_route matchit_on_literals percent_encoding_on_literals
counts_of_a_zone = refl

pub no_json_of_a_zone : asked (codes "PUT") (codes "/zones/TGT1.json") ≡ Err NotFound
unfolding routes table with_route matchit_on_literals percent_encoding_on_literals
no_json_of_a_zone = refl
