use Rattle.std.proofs.Common.{◌≡◌, ◌∙◌, ℕ, Bool, Vec, Global, true, false, append-nil, sym, ap}
use Rattle.requisites.specs.Nodes.{mark_of}
use Rattle.chains.proofs.AnswerFacts.{kept_on}
use Rattle.chains.proofs.candidates.those_marked.Goals as goal
use Rattle.chains.proofs.candidates.those_marked.Goals.{then-is_marked+in_ok-push, else-is_marked}

pub loop-index-preserved : goal.loop-index-preserved
loop-index-preserved c =
    let kept : ℕ → Bool = mark_of c.args.marks.now in
    let is : c.is_marked.result ≡ kept _ = c.is_marked.ensures in
    elim c.if-is_marked.branch [
      | then-is_marked+in_ok-push w ↦ ap (λ (v : Vec ℕ Global). v.items) w.those-is ∙ w.in_ok-push.ensures.items
          ∙ kept_on kept c.args.indices.now c.loop-index.index-index 0 true c.loop-index.those.items c.loop-index-test.true (sym w.if-is_marked.true ∙ is) c.loop-index.invariant
      | else-is_marked w ↦ ap (λ (v : Vec ℕ Global). v.items) w.those-is ∙ sym (append-nil c.loop-index.those.items)
          ∙ kept_on kept c.args.indices.now c.loop-index.index-index 0 false c.loop-index.those.items c.loop-index-test.true (sym w.if-is_marked.false ∙ is) c.loop-index.invariant
    ]
