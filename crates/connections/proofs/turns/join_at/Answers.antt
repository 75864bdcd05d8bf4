use Rattle.std.proofs.Common.{refl}
use Rattle.bureau_store.proofs.TableFacts.{on_any_err}
use Rattle.connections.proofs.FairFacts.{lent_at}
use Rattle.connections.proofs.turns.join_at.Goals as goal

pub returns-in_err-push_back-clause-same : goal.returns-in_err-push_back-clause-same
returns-in_err-push_back-clause-same c = on_any_err c.from_residual.result (
  c.index_mut.result.now,
  record { caller = c.index_mut.result.now.caller; first = c.index_mut.result.now.first; others = c.push_back.new.self },
  lent_at c.args.callers.now.items c.args.at c.requires.0 c.index_mut.result.now c.requires.1 c.index_mut.ensures.value,
  refl,
  refl,
  refl,
  c.in_err-push_back.ensures.items,
)

pub returns-clause-more : goal.returns-clause-more
returns-clause-more c = (
  c.index_mut.result.now,
  record { caller = c.index_mut.result.now.caller; first = c.index_mut.result.now.first; others = c.push_back.new.self },
  lent_at c.args.callers.now.items c.args.at c.requires.0 c.index_mut.result.now c.requires.1 c.index_mut.ensures.value,
  refl,
  refl,
  refl,
  c.in_ok-push_back.ensures.items,
)
