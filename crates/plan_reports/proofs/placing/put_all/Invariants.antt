use Rattle.std.proofs.Common.{◌≡◌, length, take}
use Rattle.supersede.specs.Reach.{has}
use Rattle.plan_reports.specs.Found.{ArePut, places_of}
use Rattle.plan_reports.proofs.placing.put_all.Given as goal

abbrev pub invariant-loop-id : goal.invariant-loop-id
invariant-loop-id l = record {
  put : ArePut (has (take l.id-index l.list)) l.ids l.place (places_of l.initial.rows) (places_of l.rows);
  len : length l.rows ≡ length l.initial.rows;
}
