use Rattle.store_runs.proofs.InitFacts.{found_empty, held_made}
use Rattle.store_runs.proofs.law.left_by_init.Goals as goal

pub returns-clause-made : goal.returns-clause-made
returns-clause-made c source image held = held_made source image held

pub returns-clause-empty : goal.returns-clause-empty
returns-clause-empty c image database trees sound finds held none = found_empty image database trees sound finds held none
