-- No part of what is promised: private contracts cite it. The meaning of the inputs, as it was
-- read.
use Rattle.file_reports.specs.Inputs.{Said}
use Rattle.file_reports.specs.declared.inputs.Read.{Read}

abbrev pub said_of : Read → Said
said_of read = record {
  rows = read.installed;
  patterns = read.patterns.items;
  received = read.received.items;
  content = read.content;
}
