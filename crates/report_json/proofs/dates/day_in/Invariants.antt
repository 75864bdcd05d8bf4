use Rattle.std.proofs.Common.{◌≡◌, ◌+◌, drop}
use Rattle.report_json.specs.Dates as Spec
use Rattle.report_json.proofs.dates.day_in.Given as goal

abbrev pub invariant-loop-days : goal.invariant-loop-days
invariant-loop-days l = record {
  month : l.month ≡ l.days-index + 1;
  day : Spec.day_in l.lengths 1 l.day ≡ Spec.day_in (drop l.days-index l.lengths) l.month l.left;
}
