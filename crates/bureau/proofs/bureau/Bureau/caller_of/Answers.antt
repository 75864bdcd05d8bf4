use Rattle.std.proofs.Common.{refl, subst}
use Rattle.bureau_store.specs.Store.{Reads}
use Rattle.bureau.specs.Answering.{bureau_view}
use Rattle.bureau.specs.Parts.{Parts}
use Rattle.bureau.proofs.AnswerFacts.{bureau_reads}
use Rattle.bureau.proofs.bureau.Bureau.caller_of.Goals as goal

pub returns-clause-reads : goal.returns-clause-reads
returns-clause-reads g c =
    let new : Parts g.row.S.Denot g.row.J.Denot = record { store = c.caller_of.new.self; judge = c.self.inside.judge } in
    subst (λ (old : Parts g.row.S.Denot g.row.J.Denot). Reads (bureau_view g.S.Store.tables_view g.J.Judge.is_right) old new c.caller_of.result) c.self.view_is
    (bureau_reads g.S.Store.tables_view g.J.Judge.is_right {old = record { store = c.self.inside.store; judge = c.self.inside.judge }} {new = new} g.met.S.Store.tables_lawful c.caller_of.ensures.reads refl)
