use Rattle.std.proofs.Common.{◌≡◌, ◌⊎◌, [], ◌∷◌, ◌++◌, Err, subst, sym, refl, ◌∙◌}
use Rattle.report_runs.specs.Holds.{print_of_read, IsMemory}
use Rattle.report_runs.proofs.BookFacts.{changes_then, faultless_more, none_read, read_more, told_of_hold}
use Rattle.report_runs.proofs.holds.changes_by.Goals as goal

pub returns-in-Err-clause-fault : goal.returns-in-Err-clause-fault
returns-in-Err-clause-fault c =
    let gives = rw c.in-Some.is at c.in_ok-statement.ensures.next in
    let kept = c.statements.invariant.1 in
    subst (λ fault. IsMemory fault ⊎ (print_of_read c.args.statements.reading ≡ Err fault)) (sym c.from.ensures)
    (told_of_hold _ c.statements.statements.reading c.next.new.self.reading c.statements.invariant.0 c.in-Some.statement c.in-Err.fault
    kept.read gives.first kept.faultless c.in_ok-finish-in-Err.ensures.ok c.in-Err.ensures.fault)

pub statements-init : goal.statements-init
statements-init c = (
  [],
  record {
    read = none_read _ _ refl;
    faultless = refl;
    made = sym c.new-changes.ensures.items;
  },
)

pub statements-preserved : goal.statements-preserved
statements-preserved c =
    let gives = rw c.in-Some.is at c.in_ok-statement.ensures.next in
    let done = c.statements.invariant.0 in
    let kept = c.statements.invariant.1 in
    let statement = c.in-Some.statement in (
      done ++ statement ∷ [],
      record {
        read = read_more done statement _ c.statements.statements.reading c.next.new.self.reading kept.read gives.first;
        faultless = faultless_more done statement kept.faultless c.in-Ok.ensures.no_fault;
        made = changes_then done statement c.statements.changes.items c.in-Ok.change c.in-Ok.ensures.change kept.made ∙ sym c.in_ok-push_change-in-Ok.ensures.ok;
      },
    )
