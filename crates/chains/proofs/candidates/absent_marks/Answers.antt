use Rattle.std.proofs.Common.{◌≡◌, ◌∙◌, ◌+◌, Bool, List, ℕ, ap, length, true, take, subst, sym}
use Rattle.std.specs.List.{Contains}
use Rattle.std.proofs.lemmas.List.{length-set, take_all}
use Rattle.verdicts.specs.Indices.{id_at}
use Rattle.chains.proofs.AnswerFacts.{AreMarked, marks_pass, marks_put}
use Rattle.chains.proofs.candidates.absent_marks.Goals as goal
use Rattle.chains.proofs.candidates.absent_marks.Goals.{in-Some, in_default}

pub loop-id-preserved : goal.loop-id-preserved
loop-id-preserved c =
    let ids = c.args.ids.now in
    let asked = c.args.asked.now in
    let there = c.args.there.now in
    let i = c.loop-id.id-index in
    let id = c.id-item.result in
    let old = c.loop-id.marks.items in
    let was = c.loop-id.invariant in
    let M : List Bool → Type 0 = λ l. (length l ≡ length ids) × AreMarked ids (take (i + 1) asked) there l in
    let now : M c.match-absent_at.marks.items = elim c.match-absent_at.branch [
      | in-Some w ↦
          subst M (sym (ap (λ v. v.items) w.marks-is))
          (length-set old w.in-Some.index true ∙ was.len, marks_put ids asked there i id c.requires c.loop-id-test.true c.id-item.is old w.in-Some.index was.len w.in-Some.ensures.some was.marked)
      | in_default w ↦
          subst M (sym (ap (λ v. v.items) w.marks-is))
          (was.len, marks_pass ids asked there i id c.requires c.loop-id-test.true c.id-item.is old w.in_default.ensures.none was.marked)
    ] in
    record { len = now.0; marked = now.1 }

pub returns-clause-marked : goal.returns-clause-marked
returns-clause-marked c = λ p within inside absent.
    let P : List (List ℕ) → Type 0 = λ l. Contains l (id_at c.args.ids.now p) in
    c.loop-id.invariant.marked p within (subst P (sym (take_all c.loop-id.id-index c.args.asked.now c.loop-id-test.false)) inside) absent
