use Rattle.bureau_sql.proofs.KeptFacts.{popped}
use Rattle.bureau_sql.proofs.kept.Kept.forget.Goals as goal

pub returns-in_default-pop : goal.returns-in_default-pop
returns-in_default-pop g c = popped c.self.inside.cache c.args.self.now c.in-Some.cache c.self.view_is c.in-Some.is c.pop.new.self (g.K.PartialEq.eq c.args.key.now) c.pop.ensures.entries

pub returns : goal.returns
returns g c = popped c.self.inside.cache c.args.self.now c.in-Some.cache c.self.view_is c.in-Some.is c.pop.new.self (g.K.PartialEq.eq c.args.key.now) c.pop.ensures.entries
