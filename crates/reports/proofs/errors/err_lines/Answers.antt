use Rattle.std.proofs.Common.{◌∙◌, ap}
use Rattle.std.specs.List.{flat_map}
use Rattle.lemmas.proofs.ResultFacts.{ok_so}
use Rattle.reports.specs.Lines.{lines_of}
use Rattle.reports.proofs.ErrorFacts.{err_rows_are_lines, in_order_is}
use Rattle.reports.proofs.errors.err_lines.Goals as goal

pub returns-clause-lines : goal.returns-clause-lines
returns-clause-lines c =
    ok_so c.lines_in.result c.lines_in.ensures (λ lines are. are ∙ ap (flat_map lines_of) (c.deref.ensures.value ∙ c.in_ok-groups.ensures ∙ in_order_is c.args.helds.now))

pub returns-clause-rows : goal.returns-clause-rows
returns-clause-rows c = err_rows_are_lines

pub returns-in_err-groups-clause-rows : goal.returns-in_err-groups-clause-rows
returns-in_err-groups-clause-rows c = err_rows_are_lines
