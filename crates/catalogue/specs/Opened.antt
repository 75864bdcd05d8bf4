-- No part of what is promised: private contracts cite it. The record of a header, kept until the last of its `++VER` and
-- `++IF` statements is read.
use Rattle.std.specs.Prelude.{Option, option_map}
use Rattle.catalogue.specs.declared.header.Open.{Open}
use Rattle.catalogue.specs.declared.sysmod.Sysmod.{Sysmod}

abbrev pub sysmod_opened : Open → Sysmod
sysmod_opened open_header = record {
  id = open_header.id;
  kind = open_header.kind;
  fmids = open_header.fmids.keys;
  pre = open_header.pre.keys;
  req = open_header.req.keys;
  conds = open_header.conds.keys;
  sup = open_header.sup.keys;
}

abbrev pub record_opened : Option Open → Option Sysmod
record_opened header = option_map sysmod_opened header
