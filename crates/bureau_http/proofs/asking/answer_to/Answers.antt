use Rattle.std.proofs.Common.{◌≡◌, inl, refl, sym, ap, ◌∙◌, Ok}
use Rattle.bureau_store.specs.declared.caller.Caller.{Caller}
use Rattle.bureau.specs.Call.{Call}
use Rattle.bureau.specs.Calls.{call_as}
use Rattle.bureau.specs.Replies.{reply_as}
use Rattle.bureau_http.specs.Asked.{what_of}
use Rattle.requests.specs.NextRequest.{body_in, parts_in}
use Rattle.requests.specs.Request.{number_of}
use Rattle.bureau_http.proofs.AskingFacts.{among, call_run, known, looked_at, made}
use Rattle.bureau_http.proofs.asking.answer_to.Goals as goal

pub returns-in-Ok-action-clause-told : goal.returns-in-Ok-action-clause-told
returns-in-Ok-action-clause-told g c = record {
  told = λ ours clean this stands.
      let view = g.D.Desk.tables_view in
      let keeps = g.met.D.Desk.tables_lawful.keeps _ _ c.in-Ok.ensures.reads.asks.keeps in
      let before = c.answer.ensures.goes.clean clean in
      let body = body_in c.args.bytes.now c.args.request.now in
      let parts = parts_in c.args.bytes.now c.args.request.now in
      let is_token = (rw c.in-Some.is at c.token.ensures) in
      let is_caller = sym c.in-Some-found.is ∙ c.in-Ok.ensures.caller.told ours before this stands in
      let is_action = sym c.in-Ok-action.is ∙ c.action-action.ensures.action in
      let looked = looked_at view c.args.desk.now c.caller_of.new.self this keeps ours before stands in
      let step = c.answer.ensures.call_made.told (keeps.goes.ours ours before) clean this looked.stands (among this.callers _ _ is_caller) in
      let call = c.call_of-call.ensures in
      let asked : Caller × Call = (c.in-Some-found.caller, call_as c.call_of-call.result) in
      let what : what_of this.callers parts body ≡ Ok asked = made this.callers parts body c.in-Some.token.now c.in-Some-found.caller c.in-Ok-action.action (number_of parts) is_token is_caller is_action refl
      ∙ ap (λ k. Ok (c.in-Some-found.caller, k)) (sym call) in (
        step.0,
        (asked, what, step.1.step),
        call_run view c.args.desk.now c.answer.new.self this c.caller_of.new.self (what_of this.callers parts body) asked (reply_as c.answer.result) step.0 what looked step.1,
        inl (known this.callers parts c.in-Some.token.now c.in-Some-found.caller is_token is_caller),
      );
}
