use Rattle.std.proofs.Common.{◌≡◌, ℕ, List, length, take}
use Rattle.std.specs.List.{Contains}
use Rattle.zone_lists.specs.declared.zones.ZoneRow.{ZoneRow}
use Rattle.catalogue.specs.Content.{Content}
use Rattle.zone_plans.specs.Findings.{AreFindings}
use Rattle.plan_reports.specs.Found.{ArePut, absent_givers, gives_one, places_of}
use Rattle.plan_reports.proofs.placing.put_needs.Given as goal

abbrev pub invariant-loop-need : goal.invariant-loop-need
invariant-loop-need l = record {
  put : (content : Content) (zone : List ZoneRow) → AreFindings content zone l.findings → ((need : List ℕ) → Contains l.needs need → Contains l.findings.asked need)
      → ArePut (gives_one (absent_givers content zone) (take l.need-index l.needs)) l.ids l.place (places_of l.initial.rows) (places_of l.rows);
  len : length l.rows ≡ length l.initial.rows;
}
