use Rattle.std.proofs.Common.{sym}
use Rattle.supersede.proofs.ZoneFacts.{found_at, not_found}
use Rattle.supersede.proofs.zone.state_in.Goals as goal

pub returns-in-Ok : goal.returns-in-Ok
returns-in-Ok c =
    sym (found_at c.args.rows.now c.args.id.now c.in-Ok.at c.index-rows-at.result c.requires c.in-Ok.ensures.within c.in-Ok.ensures.found)

pub returns-in-Err : goal.returns-in-Err
returns-in-Err c = sym (not_found c.args.rows.now c.args.id.now _ c.requires c.in-Err.ensures.found)
