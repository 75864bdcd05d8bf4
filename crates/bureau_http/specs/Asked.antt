-- The parts of a request that its bytes and the callers alone decide: the call that it makes, or why it makes none; whether
-- it has a token to look up; whether it asks only for the head of the reply; whether the connection ends after the reply.
use Rattle.std.specs.Prelude.{ℕ, ◌||◌, Bool, true, false, List, is_some, nat_le, Option, Some, None, Result, Ok, Err}
use Rattle.requests.specs.Order.{is_bare}
use Rattle.requests.specs.Request.{Parts, action_of, number_of}
use Rattle.requests.specs.declared.action.Action.{Action}
use Rattle.requests.specs.declared.refusal.Refusal.{Refusal}
use Rattle.requests.specs.declared.refusal.Refusal.TheVariants.{UnknownToken}
use Rattle.bureau_store.specs.Caller.{caller_with}
use Rattle.bureau_store.specs.declared.caller.Caller.{Caller}
use Rattle.bureau_store.specs.declared.caller.CallerRow.{CallerRow}
use Rattle.bureau.specs.Call.{Call, publish, put_zone, drop_zone, put_received, put_patterns, list_zones, report_on, zone_counts, chain, counts}

-- the call of an action, with its number and its body
abbrev pub call_of : Action → Option ℕ → List ℕ → Call
call_of Action.Publish number body = publish number body
call_of (Action.Counts form) number body = counts form
call_of (Action.ListZones form) number body = list_zones form
call_of (Action.PutZone zone) number body = put_zone number zone body
call_of (Action.DropZone zone) number body = drop_zone number zone
call_of (Action.PutPatterns zone) number body = put_patterns number zone body
call_of Action.PutReceived number body = put_received number body
call_of (Action.Report report wanted zone) number body = report_on report wanted zone
call_of (Action.ZoneCounts zone) number body = zone_counts zone
call_of (Action.Chain zone sysmod) number body = chain zone sysmod

-- a caller's call, or why there is none
abbrev pub What : Type 0
What = Result (Caller × Call) Refusal

abbrev pub of_caller : Caller → Result Action Refusal → Option ℕ → List ℕ → What
of_caller caller (Err refusal) number body = Err refusal
of_caller caller (Ok action) number body = Ok (caller, call_of action number body)

-- first the caller counts, then the path, the method, and the ids in the path
abbrev pub by_caller : Option Caller → Parts → List ℕ → What
by_caller None parts body = Err UnknownToken
by_caller (Some caller) parts body = of_caller caller (action_of parts) (number_of parts) body

abbrev pub caller_in : List CallerRow → Option (List ℕ) → Option Caller
caller_in rows None = None
caller_in rows (Some token) = caller_with rows token

abbrev pub what_of : List CallerRow → Parts → List ℕ → What
what_of rows parts body = by_caller (caller_in rows parts.token) parts body

pub record Asked : Type 0 where
  pub what : What
  pub has_token : Bool
  pub is_bare : Bool
  pub closes : Bool

-- the most requests of a connection
abbrev pub most_requests : ℕ
most_requests = 10000

-- there is just one token
abbrev pub has_token : Parts → Bool
has_token parts = is_some parts.token

-- the question of a whole request, at its ordinal in the connection, counted from 1
abbrev pub asked_whole : List CallerRow → ℕ → Parts → List ℕ → Asked
asked_whole rows ordinal parts body = record {
  what = what_of rows parts body;
  has_token = has_token parts;
  is_bare = is_bare parts;
  closes = parts.closes || nat_le most_requests ordinal;
}

-- the question of a head that is refused: its token isn't looked up, and the connection ends after the reply
abbrev pub asked_refused : Refusal → Bool → Asked
asked_refused refusal bare = record { what = Err refusal; has_token = false; is_bare = bare; closes = true }
