-- A call of the code as that of the definitions.
use Rattle.questions.specs.declared.report.Report.TheVariants as report
use Rattle.bureau.specs.Call as spec
use Rattle.bureau.specs.declared.call.Call.{Call}
use Rattle.bureau.specs.declared.call.Call.TheVariants.{Publish, PutZone, DropZone, PutReceived, PutPatterns, ListZones, ErrSysmods, MissingFix, ZoneCounts, Chain, Counts}

abbrev pub call_as : Call → spec.Call
call_as (Publish number body) = spec.publish number body.now
call_as (PutZone number zone body) = spec.put_zone number zone body.now
call_as (DropZone number zone) = spec.drop_zone number zone
call_as (PutReceived number body) = spec.put_received number body.now
call_as (PutPatterns number zone body) = spec.put_patterns number zone body.now
call_as (ListZones form) = spec.list_zones form
call_as (ErrSysmods zone wanted) = spec.report_on report.ErrSysmods wanted zone
call_as (MissingFix zone wanted) = spec.report_on report.MissingFix wanted zone
call_as (ZoneCounts zone) = spec.zone_counts zone
call_as (Chain zone sysmod) = spec.chain zone sysmod
call_as (Counts form) = spec.counts form
