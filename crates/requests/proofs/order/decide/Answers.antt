use Rattle.std.proofs.Common.{ap, ◌∙◌}
use Rattle.httparse.specs.Spans.{span_bytes}
use Rattle.requests.specs.Headers.{pairs_at}
use Rattle.requests.specs.Order.{by_parts}
use Rattle.requests.proofs.OrderFacts.{decided_whole}
use Rattle.requests.proofs.order.decide.Goals as goal

pub returns-clause-decided : goal.returns-clause-decided
returns-clause-decided c =
    let bytes = c.args.bytes.now in
    let spans = c.in-Some.spans in
    decided_whole bytes _ spans _ c.whole_head.auto.fields c.in-Some.ensures.read c.in-Some.ensures.whole
    (c.decide_by.ensures.decided
    ∙ ap (λ fields. by_parts (span_bytes bytes spans.method) (span_bytes bytes spans.path) spans.version (pairs_at bytes fields)) c.split_at.ensures.front)
