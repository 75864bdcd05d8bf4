use Rattle.requisites.specs.Nodes.{row}
use Rattle.verdicts.specs.Indices.{RowsAre}
use Rattle.zone_plans.specs.Climbs.{IsMirrored, mirror}
use Rattle.zone_plans.proofs.others.mirrored_rows.Given as goal

abbrev pub invariant-loop-node : goal.invariant-loop-node
invariant-loop-node l = RowsAre (λ p r. IsMirrored l.len (row l.lists (mirror l.len p)) r) l.node l.rows
