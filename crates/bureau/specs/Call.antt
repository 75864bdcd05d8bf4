-- The calls of a caller.
use Rattle.std.specs.Prelude.{ℕ, List, Option}
use Rattle.questions.specs.declared.report.Report.{Report}
use Rattle.questions.specs.declared.wanted.Form.{Form}
use Rattle.questions.specs.declared.wanted.Wanted.{Wanted}

-- A change has a number, or none if a request names none that reads; a body is the bytes that came with it.
pub data Call : Type 0 where
  publish : Option ℕ → List ℕ → Call
  put_zone : Option ℕ → List ℕ → List ℕ → Call
  drop_zone : Option ℕ → List ℕ → Call
  put_received : Option ℕ → List ℕ → Call
  put_patterns : Option ℕ → List ℕ → List ℕ → Call
  list_zones : Form → Call
  report_on : Report → Wanted → List ℕ → Call
  zone_counts : List ℕ → Call
  chain : List ℕ → List ℕ → Call
  counts : Form → Call
