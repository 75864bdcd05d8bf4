use Rattle.std.proofs.Common.{drop, arith}
use Rattle.bureau_store.proofs.SetCallersFacts.{names_from}
use Rattle.bureau_store.proofs.set_callers.tokens_by_name.Goals as goal

pub loop-left-preserved : goal.loop-left-preserved
loop-left-preserved c = record {
  within = omega (arith, c.loop-left.invariant.within);
  known = names_from c.put_name.new.by_name.entries c.args.rows.now c.loop-left.left _ (omega arith) c.loop-left.invariant.within c.index-rows-left.is (c.in_ok-put_name.ensures (drop c.loop-left.left c.args.rows.now) c.loop-left.invariant.known);
}
