use Rattle.std.proofs.Common.{sym, ◌∙◌}
use Rattle.requests.specs.Headers.{is_named}
use Rattle.requests.proofs.HeaderFacts.{any_at, none_more}
use Rattle.requests.proofs.headers.has.Goals as goal

pub returns-then-is_named : goal.returns-then-is_named
returns-then-is_named c =
    sym (any_at (is_named c.args.name.now) _ _ _ _ c.loop-field-test.true (sym c.is_named.ensures ∙ c.if-is_named.true))

pub loop-field-preserved : goal.loop-field-preserved
loop-field-preserved c = record {
  none = none_more (is_named c.args.name.now) _ _ _ _ c.loop-field-test.true (sym c.is_named.ensures ∙ c.if-is_named.false) c.loop-field.invariant.none;
}
