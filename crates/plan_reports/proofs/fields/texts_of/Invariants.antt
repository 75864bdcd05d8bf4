use Rattle.std.proofs.Common.{◌≡◌, map, take}
use Rattle.mcs_reader.specs.Bytes.{bytes_of_each}
use Rattle.mcs_reader.specs.Id.{text_of}
use Rattle.plan_reports.proofs.fields.texts_of.Given as goal

abbrev pub invariant-loop-id : goal.invariant-loop-id
invariant-loop-id l = bytes_of_each l.texts.items ≡ map text_of (take l.id-index l.ids)
