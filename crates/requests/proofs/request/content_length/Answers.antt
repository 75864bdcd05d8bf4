use Rattle.std.proofs.Common.{ap, codes, sym, ◌∙◌}
use Rattle.requests.specs.Headers.{pairs_at, values}
use Rattle.requests.specs.Request.{length_told}
use Rattle.requests.proofs.RequestFacts.{told, repeated, untold}
use Rattle.requests.proofs.request.content_length.Goals as goal

pub returns-in-Some-clause-length : goal.returns-in-Some-clause-length
returns-in-Some-clause-length c =
    c.length_in.ensures.length ∙ ap length_told c.of.ensures
    ∙ told c.args.method.now _ (values (codes "content-length") (pairs_at c.args.bytes.now c.args.fields.now))
    (rw c.in-Some.is at c.sole.ensures.value)

pub returns-in-None-clause-length : goal.returns-in-None-clause-length
returns-in-None-clause-length c =
    repeated c.args.method.now (codes "content-length") (pairs_at c.args.bytes.now c.args.fields.now)
    (rw c.in-None.is at c.sole.ensures.value) (sym c.has.ensures ∙ c.if-has.true)

pub returns-in-None-2-clause-length : goal.returns-in-None-2-clause-length
returns-in-None-2-clause-length c =
    c.length_without.ensures.length
    ∙ untold c.args.method.now (codes "content-length") (pairs_at c.args.bytes.now c.args.fields.now)
    (sym c.has.ensures ∙ c.if-has.false)
