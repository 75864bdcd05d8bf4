-- What a request asks, and what it is told.
use Rattle.std.proofs.Common.{◌≡◌, inl, inr, subst, ℕ, ◌<◌, Bool, true, false, List, [], ◌∷◌, length, map, Option, Some, None, Ok, Err, refl, sym, ap, ◌∙◌, suc, arith}
use Rattle.std.specs.Prelude.{is_some}
use Rattle.std.specs.Str.{bytes_eq}
use Rattle.catalogue.specs.View.{Keeps, View}
use Rattle.catalogue.proofs.SourceFacts.{was_open}
use Rattle.requests.specs.Request.{Parts, action_of, number_of}
use Rattle.requests.specs.declared.action.Action.{Action}
use Rattle.requests.specs.declared.refusal.Refusal.{Refusal}
use Rattle.requests.specs.declared.refusal.Refusal.TheVariants.{UnknownToken}
use Rattle.bureau_store.specs.Caller.{IsAmong, caller_named, caller_with}
use Rattle.bureau_store.specs.declared.caller.Caller.{Caller}
use Rattle.bureau_store.specs.declared.caller.CallerRow.{CallerRow}
use Rattle.bureau_store.specs.Tables.{Tables}
use Rattle.bureau.specs.Call.{Call}
use Rattle.bureau.specs.Kept.{Idles, IsKeptRun, IsKeptStep}
use Rattle.bureau.specs.Outcome.{Answer, no_room}
use Rattle.bureau.proofs.KeptFacts.{from_before, one_kept}
use Rattle.bureau_http.specs.Exchange.{call_from}
use Rattle.bureau_http.specs.Asked.{What, by_caller, call_of, caller_in, has_token, of_caller, what_of}

-- ---- a caller that has a token is one of the callers

among_test : (t : Bool) (row : CallerRow) (rows : List CallerRow) (token : List ℕ) (caller : Caller) → bytes_eq row.token token ≡ t
    → (Some caller ≡ caller_with rows token → IsAmong rows caller) → Some caller ≡ caller_with (row ∷ rows) token → IsAmong (row ∷ rows) caller
among_test true row rows token caller e rest h =
    let first : Some caller ≡ Some (caller_named row.name) = (rw e at h) in
    let same : caller ≡ caller_named row.name = cc in
    (0, omega arith, sym same)
among_test false row rows token caller e rest h =
    let found = rest (rw e at h) in
    let k = found.0 in
    let low : k < length (map (λ r. caller_named r.name) rows) = found.1 in (suc k, omega arith, found.2)

pub among : (rows : List CallerRow) (token : List ℕ) (caller : Caller) → Some caller ≡ caller_with rows token → IsAmong rows caller
among [] token caller h = absurd (cc)
among (row ∷ rows) token caller h = among_test (bytes_eq row.token token) row rows token caller refl (among rows token caller) h

-- ---- what is asked

pub made : (rows : List CallerRow) (parts : Parts) (body token : List ℕ) (caller : Caller) (action : Action) (number : Option ℕ)
    → Some token ≡ parts.token → Some caller ≡ caller_with rows token → Ok action ≡ action_of parts → number ≡ number_of parts
    → what_of rows parts body ≡ Ok (caller, call_of action number body)
made rows parts body token caller action number is_token is_caller is_action is_number =
    ap (λ t. by_caller (caller_in rows t) parts body) (sym is_token) ∙ ap (λ c. by_caller c parts body) (sym is_caller)
    ∙ ap (λ a. of_caller caller a (number_of parts) body) (sym is_action) ∙ ap (λ n. Ok (caller, call_of action n body)) (sym is_number)

pub unmade : (rows : List CallerRow) (parts : Parts) (body token : List ℕ) (caller : Caller) (refusal : Refusal)
    → Some token ≡ parts.token → Some caller ≡ caller_with rows token → Err refusal ≡ action_of parts
    → what_of rows parts body ≡ Err refusal
unmade rows parts body token caller refusal is_token is_caller is_action =
    ap (λ t. by_caller (caller_in rows t) parts body) (sym is_token) ∙ ap (λ c. by_caller c parts body) (sym is_caller)
    ∙ ap (λ a. of_caller caller a (number_of parts) body) (sym is_action)

pub unknown : (rows : List CallerRow) (parts : Parts) (body token : List ℕ) → Some token ≡ parts.token → None ≡ caller_with rows token
    → what_of rows parts body ≡ Err UnknownToken
unknown rows parts body token is_token is_caller =
    ap (λ t. by_caller (caller_in rows t) parts body) (sym is_token) ∙ ap (λ c. by_caller c parts body) (sym is_caller)

pub without_token : (rows : List CallerRow) (parts : Parts) (body : List ℕ) → None ≡ parts.token → what_of rows parts body ≡ Err UnknownToken
without_token rows parts body is_token = ap (λ t. by_caller (caller_in rows t) parts body) (sym is_token)

-- ---- whose token it is

pub known : (rows : List CallerRow) (parts : Parts) (token : List ℕ) (caller : Caller) → Some token ≡ parts.token → Some caller ≡ caller_with rows token
    → Some caller ≡ caller_in rows parts.token
known rows parts token caller is_token is_caller = is_caller ∙ ap (λ t. caller_in rows t) is_token

pub unknown_caller : (rows : List CallerRow) (parts : Parts) (token : List ℕ) → Some token ≡ parts.token → None ≡ caller_with rows token
    → None ≡ caller_in rows parts.token
unknown_caller rows parts token is_token is_caller = is_caller ∙ ap (λ t. caller_in rows t) is_token

pub no_token : (rows : List CallerRow) (parts : Parts) → None ≡ parts.token → None ≡ caller_in rows parts.token
no_token rows parts is_token = ap (λ t. caller_in rows t) is_token

-- ---- where a 503 may come

pub token_there : (parts : Parts) (token : List ℕ) → Some token ≡ parts.token → has_token parts ≡ true
token_there parts token is = ap is_some (sym is)

-- ---- the run of a request

module _ {Desk : Type 0} (view : View Desk Tables) (old new : Desk) (this : Tables) where
  -- what has no room is a call that changes nothing, or none
  pub no_room_run : (what : What) → Idles view old new this → IsKeptRun view old new this (call_from what no_room) this
  no_room_run (Ok call) idles =
      one_kept view old new this (record { caller = call.0; call = call.1; answer = no_room }) this (record {
        goes = idles.goes;
        step = inl (refl, refl);
        stands = idles.stands;
        told = inr (inl refl);
        leaves = λ left h. inl (idles.leaves left h);
        rests = λ rests is_open left h. rests (was_open idles.goes is_open) left (idles.leaves left h);
      })
  no_room_run (Err refusal) idles = (refl, idles)

  -- a call that is made is a step, of a desk that was looked at before
  pub call_run : (mid : Desk) (what : What) (call : Caller × Call) (answer : Answer) (next : Tables) → what ≡ Ok call → Idles view old mid this
      → IsKeptStep view mid new this (record { caller = call.0; call = call.1; answer = answer }) next
      → IsKeptRun view old new this (call_from what answer) next
  call_run mid what call answer next is idles step =
      subst (λ what. IsKeptRun view old new this (call_from what answer) next) (sym is)
      (from_before view old mid new this (record { caller = call.0; call = call.1; answer = answer } ∷ []) next idles
      (one_kept view mid new this (record { caller = call.0; call = call.1; answer = answer }) next step))

-- a desk that was looked at alone
pub looked_at : {Desk : Type 0} (view : View Desk Tables) (old new : Desk) (this : Tables) → Keeps view old new → view.is_ours old → view.is_clean new → view.stands old this → Idles view old new this
looked_at view old new this keeps ours clean stands = record { goes = keeps.goes; stands = keeps.stays ours clean this stands; leaves = keeps.leaves ours clean }
