use Rattle.std.proofs.Common.{drop, arith}
use Rattle.bureau_store.proofs.TableFacts.{knows_from}
use Rattle.bureau_store.proofs.by_token.callers_by_token.Goals as goal

pub loop-left-preserved : goal.loop-left-preserved
loop-left-preserved c = record {
  within = omega (arith, c.loop-left.invariant.within);
  known = knows_from (λ text. text.items) c.put_token.new.by_token.entries c.args.rows.now c.loop-left.left _ (omega arith) c.loop-left.invariant.within c.index-rows-left.is (c.in_ok-put_token.ensures (drop c.loop-left.left c.args.rows.now) c.loop-left.invariant.known);
}
