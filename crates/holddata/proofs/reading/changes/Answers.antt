use Rattle.std.proofs.Common.{◌≡◌, ◌∷◌, Some, rules, sym, ◌∙◌, ap, drop, suc, drop-cons, inl, inr}
use Rattle.std.specs.List.{flat_map}
use Rattle.faults.specs.Refusal.{IsRefusal}
use Rattle.holddata.specs.declared.fault.HoldFault.{HoldFault}
use Rattle.holddata.specs.declared.fault.HoldFault.TheVariants.{Memory}
use Rattle.holddata.specs.Statements.{faults_of, first_fault}
use Rattle.holddata.proofs.StatementFacts.{first_of_longer}
use Rattle.holddata.proofs.CategoryFacts.{in_order_is}
use Rattle.holddata.proofs.reading.changes.Goals as goal

pub returns-in_err-change-clause-fault : goal.returns-in_err-change-clause-fault
returns-in_err-change-clause-fault c =
    let statements = c.args.statements.now in
    let i = c.loop-statement.statement-index in
    let x = c.statement-item.result in
    let here : drop i statements ≡ x ∷ drop (suc i) statements =
    drop-cons statements i x c.loop-statement-test.true ∙ ap (λ y. y ∷ drop (suc i) statements) (sym c.statement-item.is) in
    let e : IsRefusal Memory (λ (fault : HoldFault). first_fault statements ≡ Some fault) c.in_err-change.field-0.0 = elim c.in_err-change.ensures.fault [
      | inl memory ↦ inl memory
      | inr first ↦
          inr
          (sym c.loop-statement.invariant.fault ∙ ap first_fault here
          ∙ first_of_longer (faults_of x) (flat_map faults_of (drop (suc i) statements)) _ first)
    ] in
    search rules

pub returns-in_err-changes-clause-in_order : goal.returns-in_err-changes-clause-in_order
returns-in_err-changes-clause-in_order c = in_order_is

pub returns-in_err-change-clause-in_order : goal.returns-in_err-change-clause-in_order
returns-in_err-change-clause-in_order c = in_order_is

pub returns-in_err-push-clause-in_order : goal.returns-in_err-push-clause-in_order
returns-in_err-push-clause-in_order c = in_order_is

pub returns-clause-in_order : goal.returns-clause-in_order
returns-clause-in_order c = in_order_is
