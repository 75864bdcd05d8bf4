use Rattle.requisites.proofs.RowsFacts.{all_of}
use Rattle.requisites.proofs.rows.Rows.all.Goals as goal

pub returns : goal.returns
returns c = all_of c.self.inside.entries.items c.self.inside.ends.items c.deref.result.now c.args.self.now c.self.invariant c.self.view_is c.deref.ensures.value
