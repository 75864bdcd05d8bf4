use Rattle.std.proofs.Common.{[], ◌∷◌, ◌++◌, ◌∙◌, ap}
use Rattle.mcs_reader.specs.Unread.{with_statements}
use Rattle.mcs_reader.proofs.ReadFacts.{with_statements-append}
use Rattle.mcs_reader.proofs.statements.Statements.finish.Goals as goal

pub left-preserved-in-Some : goal.left-preserved-in-Some
left-preserved-in-Some c =
    let gives = rw c.in-Some.is at c.in_ok-next.ensures.next in
    let passed = c.left.invariant.0 in (
      passed ++ c.in-Some.field-0 ∷ [],
      c.left.invariant.1
          ∙ ap (with_statements passed) gives.first
          ∙ with_statements-append passed (c.in-Some.field-0 ∷ []) c.next.new.self.reading,
    )
