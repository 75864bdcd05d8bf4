use Rattle.bureau_sql.proofs.KeptFacts.{used}
use Rattle.bureau_sql.proofs.kept.Kept.use_now.Goals as goal

pub returns : goal.returns
returns g c = used c.self.inside.cache c.args.self.now c.in-Some.cache c.self.view_is c.in-Some.is c.promote.new.self (g.K.PartialEq.eq c.args.key.now) c.promote.ensures.entries
