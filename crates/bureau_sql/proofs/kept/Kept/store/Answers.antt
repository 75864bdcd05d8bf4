use Rattle.std.proofs.Common.{subst}
use Rattle.std.specs.List.{Contains}
use Rattle.bureau_sql.proofs.KeptFacts.{stored}
use Rattle.bureau_sql.proofs.kept.Kept.store.Goals as goal

pub returns : goal.returns
returns g c = λ one inside.
    stored c.self.inside.cache c.args.self.now c.in-Some.cache c.self.view_is c.in-Some.is c.put.new.self g.K.PartialEq.eq c.args.key c.args.value c.put.result c.put.ensures.entries c.put.ensures.err one
    (subst (λ list. Contains list one) c.count.ensures inside)
