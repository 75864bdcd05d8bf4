use Rattle.std.proofs.Common.{◌-◌, length}
use Rattle.bureau_sql.proofs.KeptFacts.{cut}
use Rattle.bureau_sql.proofs.kept.Kept.drop_oldest.Goals as goal

pub returns : goal.returns
returns g c = cut c.self.inside.cache c.args.self.now c.in-Some.cache c.self.view_is c.in-Some.is c.pop_lru.new.self (length c.in-Some.cache.entries - 1) c.pop_lru.ensures.entries
