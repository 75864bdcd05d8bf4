use Rattle.std.proofs.Common.{sym, ◌∙◌}
use Rattle.requests.specs.Headers.{asks_to_close}
use Rattle.requests.proofs.HeaderFacts.{any_at, none_more}
use Rattle.requests.proofs.headers.asks_to_close.Goals as goal

pub returns-then-closes : goal.returns-then-closes
returns-then-closes c = sym (any_at asks_to_close _ _ _ _ c.loop-field-test.true (sym c.closes.ensures ∙ c.if-closes.true))

pub loop-field-preserved : goal.loop-field-preserved
loop-field-preserved c = record {
  none = none_more asks_to_close _ _ _ _ c.loop-field-test.true (sym c.closes.ensures ∙ c.if-closes.false) c.loop-field.invariant.none;
}
