use Rattle.sqlite.specs.Held.{state}
use Rattle.sqlite.specs.State.{HasCleanDisk}
use Rattle.bureau_sql.specs.Opening.{TellsVersion}
use Rattle.bureau_sql.proofs.OpenFacts.{other_version, same_version, version_failed}
use Rattle.bureau_sql.proofs.finding.is_version.Goals as goal

tells : (g : _) (c : goal.After-same g) → HasCleanDisk (state g.S.Store c.version.new.conn) → TellsVersion c.in-Ok.version (state g.S.Store c.args.conn.now).committed
tells g c clean = record { has = c.in-Ok.ensures.version clean; ours = c.in-Ok.ensures.ours clean; earlier = c.in-Ok.ensures.earlier clean }

pub returns-in-Ok-clause-version : goal.returns-in-Ok-clause-version
returns-in-Ok-clause-version g c =
    same_version c.in-Ok.version c.args.wanted (state g.S.Store c.version.new.conn) (state g.S.Store c.args.conn.now).committed c.same.result c.same.ensures.ok (tells g c)

pub returns-in-Ok-clause-cause : goal.returns-in-Ok-clause-cause
returns-in-Ok-clause-cause g c =
    other_version _ c.in-Ok.version c.args.wanted (state g.S.Store c.args.conn.now) (state g.S.Store c.version.new.conn) c.same.result c.same.ensures.fault
    (λ clean. (c.in-Ok.ensures.reads.keeps clean).was_open (c.in-Ok.ensures.is_open clean)) (tells g c)

pub returns-in-Err-Device-clause-cause : goal.returns-in-Err-Device-clause-cause
returns-in-Err-Device-clause-cause g c clean means =
    version_failed c.args.text.now (state g.S.Store c.args.conn.now) (state g.S.Store c.version.new.conn) c.requires.asks
    (c.in-Err-Device.ensures.cause clean c.in-Err-Device.field-0-is) means
