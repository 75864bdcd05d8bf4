use Rattle.chains.proofs.FrameFacts.{apart_unless, frames_stay}
use Rattle.chains.proofs.touching.touches.Goals as goal

pub returns-clause-stay : goal.returns-clause-stay
returns-clause-stay c = frames_stay

pub returns-clause-apart : goal.returns-clause-apart
returns-clause-apart c = apart_unless c.args.ids.now c.args.frame.now c.shares.result c.shares.ensures
