use Rattle.std.proofs.Common.{◌≡◌, take}
use Rattle.report_json.specs.Json.{sysmods_in}
use Rattle.report_json.proofs.sysmods.sysmods_in.Given as goal

abbrev pub invariant-loop-held : goal.invariant-loop-held
invariant-loop-held l = l.found.keys ≡ sysmods_in (take l.held-index l.helds)
