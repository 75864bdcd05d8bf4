use Rattle.std.proofs.Common.{◌≡◌, map, take}
use Rattle.mcs_reader.specs.Bytes.{bytes_of_each}
use Rattle.serde_json.specs.View.{view}
use Rattle.report_json.specs.Json.{category_data}
use Rattle.report_json.proofs.fields.category_values.Given as goal

abbrev pub invariant-loop-category : goal.invariant-loop-category
invariant-loop-category l = map view l.values.items ≡ map category_data (bytes_of_each (take l.category-index l.categories))
