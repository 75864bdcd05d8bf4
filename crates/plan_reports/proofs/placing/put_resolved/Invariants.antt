use Rattle.std.proofs.Common.{◌≡◌, List, length}
use Rattle.zone_lists.specs.declared.zones.ZoneRow.{ZoneRow}
use Rattle.catalogue.specs.Content.{Content}
use Rattle.zone_plans.specs.Findings.{AreFoundOf}
use Rattle.zone_plans.specs.Plans.{resolvers_of}
use Rattle.plan_reports.specs.Found.{ArePlaces, places_of, resolves_at}
use Rattle.plan_reports.proofs.placing.put_resolved.Given as goal

abbrev pub invariant-loop-place : goal.invariant-loop-place
invariant-loop-place l = record {
  placed : (content : Content) (zone : List ZoneRow) → AreFoundOf content zone l.findings (resolvers_of l.resolved) → ArePlaces (resolves_at content zone l.resolved) l.ids l.place (places_of l.rows);
  len : length l.rows ≡ length l.initial.rows;
}
