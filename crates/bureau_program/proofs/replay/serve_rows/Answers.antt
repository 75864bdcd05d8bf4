use Rattle.std.proofs.Common.{refl}
use Rattle.sqlite_pool.specs.Pool.{state}
use Rattle.bureau_program.proofs.replay.serve_rows.Goals as goal

-- files in memory lose nothing
pub returns-in-Ok-clause-served : goal.returns-in-Ok-clause-served
unfolding state
returns-in-Ok-clause-served c = c.serve_over.ensures.served (λ store. refl) c.in-Ok.ensures.right

pub returns-in-Ok-clause-fault : goal.returns-in-Ok-clause-fault
unfolding state
returns-in-Ok-clause-fault c = c.serve_over.ensures.fault (λ store. refl) c.in_ok-conn.ensures.new
