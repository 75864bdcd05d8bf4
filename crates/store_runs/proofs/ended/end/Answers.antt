use Rattle.std.proofs.Common.{rules}
use Rattle.store_runs.proofs.EndFacts.{left_trees}
use Rattle.store_runs.proofs.ended.end.Goals as goal

pub returns : goal.returns
returns g c = record {
  clean = search rules;
  numbered = c.into_store.ensures.numbered;
  sound = c.into_store.ensures.sound;
  trees = c.into_store.ensures.quiet.outcomes;
  left = λ clean left may.
      left_trees c.into_store.result _ (c.into_store.ensures.numbered clean) (c.into_store.ensures.sound clean)
      c.into_store.ensures.quiet.outcomes left may;
}
