use Rattle.std.proofs.Common.{◌≡◌, ◌∙◌, ℕ, Bool, Vec, Global, true, false, append-nil, sym, ap}
use Rattle.std.specs.Prelude.{is_some}
use Rattle.requisites.specs.Sources.{source_of}
use Rattle.chains.proofs.AnswerFacts.{kept_on}
use Rattle.chains.proofs.candidates.put_with_source.Goals as goal
use Rattle.chains.proofs.candidates.put_with_source.Goals.{then-is_some+in_ok-push, else-is_some}

pub loop-index-preserved : goal.loop-index-preserved
loop-index-preserved c =
    let kept : ℕ → Bool = λ q. is_some (source_of c.args.sources.now q) in
    let is : c.is_some.result ≡ kept _ = c.is_some.ensures ∙ ap is_some c.source_at.ensures in
    elim c.if-is_some.branch [
      | then-is_some+in_ok-push w ↦ ap (λ (v : Vec ℕ Global). v.items) w.own-is ∙ w.in_ok-push.ensures.items
          ∙ kept_on kept c.args.indices.now c.loop-index.index-index 0 true c.loop-index.own.items c.loop-index-test.true (sym w.if-is_some.true ∙ is) c.loop-index.invariant
      | else-is_some w ↦ ap (λ (v : Vec ℕ Global). v.items) w.own-is ∙ sym (append-nil c.loop-index.own.items)
          ∙ kept_on kept c.args.indices.now c.loop-index.index-index 0 false c.loop-index.own.items c.loop-index-test.true (sym w.if-is_some.false ∙ is) c.loop-index.invariant
    ]
