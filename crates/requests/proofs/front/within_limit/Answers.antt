use Rattle.std.proofs.Common.{sym, ap, ◌∙◌, take, arith}
use Rattle.std.proofs.lemmas.List.{take_all}
use Rattle.requests.proofs.FrontFacts.{limit_is}
use Rattle.requests.proofs.front.within_limit.Goals as goal

pub returns-then-bytes-lt-HEAD_LIMIT-clause-value : goal.returns-then-bytes-lt-HEAD_LIMIT-clause-value
returns-then-bytes-lt-HEAD_LIMIT-clause-value c =
    sym (take_all 16384 c.args.bytes.now (omega arith)) ∙ ap (λ n. take n c.args.bytes.now) limit_is

pub returns-clause-value : goal.returns-clause-value
returns-clause-value c = c.split_at.ensures.front ∙ ap (λ n. take n c.args.bytes.now) limit_is
