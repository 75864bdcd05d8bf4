use Rattle.std.proofs.Common.{◌≡◌, Some, ap}
use Rattle.bureau_sql.specs.Recent.{TokenRead}
use Rattle.bureau_sql.proofs.RecentFacts.{more_found_in}
use Rattle.bureau_sql.proofs.recent.Recent.keep_caller.Goals as goal

pub returns-clause-tokens : goal.returns-clause-tokens
returns-clause-tokens c =
    let kept : TokenRead = record { token = c.in-Ok-from_slice.token.items; caller = c.in-Some.caller } in
    more_found_in (λ answer (read : TokenRead). (answer ≡ Some read.caller) × (read.token ≡ c.args.token.now)) c.args.found.now c.self.inside.tokens c.args.self.now.tokens c.put.new.self
    kept c.in-Ok.answer (ap (λ it. it.tokens) c.self.view_is) c.in-Ok.is (c.in-Some.is, c.in-Ok-from_slice.ensures.items) c.put.ensures
