use Rattle.std.proofs.Common.{subst}
use Rattle.std.specs.Io.KnownBytes.{Appends}
use Rattle.transfer.specs.Transfer.{AppendsFront}
use Rattle.bureau_program.proofs.ReplayFacts.{cut, one_more}
use Rattle.bureau_program.proofs.replay.write_texts.Goals as goal

pub returns-in-Err-clause-err : goal.returns-in-Err-clause-err
returns-in-Err-clause-err g c =
    let front = subst (AppendsFront (g.W.Write.contents c.loop-text.writer) (g.W.Write.contents c.write_whole.new.writer)) c.as_slice.ensures.value c.in-Err.ensures.err in
    cut (λ t. t.items) c.args.texts.now c.loop-text.text-index c.text-item.result c.loop-text-test.true c.text-item.is _ _ _ c.loop-text.invariant front

pub loop-text-preserved : goal.loop-text-preserved
loop-text-preserved g c =
    let all = subst (Appends (g.W.Write.contents c.loop-text.writer) (g.W.Write.contents c.write_whole.new.writer)) c.as_slice.ensures.value c.in-Ok.ensures.ok in
    one_more (λ t. t.items) c.args.texts.now c.loop-text.text-index c.text-item.result c.loop-text-test.true c.text-item.is _ _ _ c.loop-text.invariant all
