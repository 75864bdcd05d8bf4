use Rattle.std.proofs.Common.{ap, length, arith}
use Rattle.requisites.proofs.RowsFacts.{length_rows}
use Rattle.requisites.proofs.rows.Rows.len.Goals as goal

pub returns : goal.returns
returns c = omega (arith, length_rows c.self.inside.entries.items 0 c.self.inside.ends.items, ap length c.self.view_is)
