-- the texts that were written so far
use Rattle.std.proofs.Common.{map, take}
use Rattle.std.specs.Io.KnownBytes.{Appends}
use Rattle.bureau_program.specs.Replay.{joined}
use Rattle.bureau_program.proofs.replay.write_texts.Given as goal

abbrev pub invariant-loop-text : goal.invariant-loop-text
invariant-loop-text g l =
    Appends (g.W.Write.contents l.fn.writer) (g.W.Write.contents l.writer) (joined (map (λ t. t.items) (take l.text-index l.texts)))
