-- The reports on a zone.
use Rattle.std.specs.Prelude.{ℕ, List, codes}
use Rattle.questions.specs.declared.report.Report.{Report}
use Rattle.questions.specs.declared.report.Report.TheVariants.{ErrSysmods, MissingFix}

-- the name of a report, as paths and JSON have it
abbrev pub name_of : Report → List ℕ
name_of ErrSysmods = codes "errsysmods"
name_of MissingFix = codes "missingfix"
