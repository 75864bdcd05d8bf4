use Rattle.std.proofs.Common.{Ok, ap, ◌∙◌, subst}
use Rattle.httparse.specs.Spans.{FindsRequest}
use Rattle.requests.proofs.HeadFacts.{failed, found_len}
use Rattle.requests.proofs.order.whole_head.Goals as goal

pub returns-in_default-clause-none : goal.returns-in_default-clause-none
returns-in_default-clause-none c few head reads =
    let finds = subst (λ room. FindsRequest c.args.bytes.now room c.parse_request.new.headers c.parse_request.result) c.requires c.parse_request.ensures.found in
    c.if-spans-bytes.false
    (found_len c.args.bytes.now _ c.parse_request.result c.in-Ok-Complete.spans head finds
    (c.in-Ok-Complete.is ∙ ap (λ status. Ok status) c.in-Ok-Complete.field-0-is) reads few)

pub returns-in_default-3-clause-none : goal.returns-in_default-3-clause-none
returns-in_default-3-clause-none c few head reads =
    let finds = subst (λ room. FindsRequest c.args.bytes.now room c.parse_request.new.headers c.parse_request.result) c.requires c.parse_request.ensures.found in
    failed c.args.bytes.now _ c.parse_request.result c.in_default.field-0 head finds c.in_default.is reads few
