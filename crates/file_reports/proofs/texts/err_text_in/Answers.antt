use Rattle.std.proofs.Common.{refl}
use Rattle.file_reports.specs.Read.{said_of}
use Rattle.file_reports.proofs.ReportFacts.{err_made}
use Rattle.file_reports.proofs.texts.err_text_in.Goals as goal

pub returns-clause-text : goal.returns-clause-text
returns-clause-text c =
    err_made c.args.zone.now (said_of c.args.read) c.deref.result.now c.deref-2.result.now c.in_ok-holds.holds.items c.book.result.now c.in_ok-rows.rows.items c.deref-3.result.now c.in_ok-err_text.field-0.items
    c.in_ok-err_text.ensures c.deref-3.ensures.value (c.in_ok-rows.ensures.rows.told c.requires.content tt c.args.read.content refl (c.new-judge.ensures c.args.read.content))
    c.deref.ensures.value c.deref-2.ensures.value c.in_ok-holds.ensures c.book.ensures.value
