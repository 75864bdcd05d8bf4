use Rattle.std.proofs.Common.{rules}
use Rattle.requests.specs.Head.{parts_at}
use Rattle.connections.proofs.PreviewFacts.{ends_refused, ends_whole}
use Rattle.connections.proofs.preview.by_head.Goals as goal

pub returns-in-Err : goal.returns-in-Err
returns-in-Err c bytes count first front =
    ends_refused bytes c.args.head.now c.new.result.items c.in-Err.field-0.refusal c.in-Err.field-0.is_bare c.args.unread first front c.in-Err.ensures.decided c.new.ensures.items

pub returns-in_ok-caller-in-Some : goal.returns-in_ok-caller-in-Some
returns-in_ok-caller-in-Some c bytes count first front =
    ends_whole bytes c.args.head.now c.in_ok-caller-in-Some.caller.items (parts_at c.args.head.now c.in-Ok.ready.0) c.in-Ok.ready.1 c.in-Some.following c.args.unread c.saturating_sub.result
    first front c.in-Ok.ensures.decided (search (rules, count)) (search rules) (search rules)
