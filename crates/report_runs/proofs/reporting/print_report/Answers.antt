use Rattle.std.proofs.Common.{◌∙◌, None, ap, inl, subst}
use Rattle.std.specs.Io.KnownBytes.{Appends}
use Rattle.faults.specs.declared.any.AnyFault.{AnyFault}
use Rattle.file_reports.specs.declared.fault.InputFault.{InputFault}
use Rattle.run_parts.specs.ProgramFault.{of_program}
use Rattle.transfer.specs.Transfer.{AppendsFront}
use Rattle.report_runs.proofs.reporting.print_report.Goals as goal

abbrev of_none : AnyFault → InputFault
of_none fault = record { input = None; fault = fault }

pub returns-in-Ok-write_text-clause-output : goal.returns-in-Ok-write_text-clause-output
returns-in-Ok-write_text-clause-output g c = (
  (c.in-Ok.made.text.items, c.in-Ok.made.counts),
  c.in-Ok.ensures.made,
  subst (Appends _ _) c.as_slice.ensures.value c.in-Ok-write_text.ensures.ok,
)

pub returns-in-Ok-clause-output : goal.returns-in-Ok-clause-output
returns-in-Ok-clause-output g c = inl (
  c.of_no_input.ensures ∙ ap of_none (c.from.ensures ∙ ap of_program c.in-Err-write_text.ensures.fault),
  ((c.in-Ok.made.text.items, c.in-Ok.made.counts), c.in-Ok.ensures.made, subst (AppendsFront _ _) c.as_slice.ensures.value c.in-Err-write_text.ensures.err),
)
