use Rattle.std.proofs.Common.{◌≡◌, ℕ, ◌+◌, ◌-◌, List, ◌++◌, length, take, drop, sym, ap, ◌∙◌, subst, arith, length-drop}
use Rattle.std.proofs.Math.Seq.{take-add}
use Rattle.std.proofs.lemmas.List.{take_rest}
use Rattle.std.specs.Io.KnownBytes.{Appends}
use Rattle.std.proofs.KnownBytes.{Appends-trans}
use Rattle.transfer.proofs.writing.write_whole.Goals as goal

-- a front part of the text, and then a front part of the rest
longer_front : (text : List ℕ) (written count : ℕ)
    → take written text ++ take count (take (length text - written) (drop written text)) ≡ take (written + count) text
longer_front text written count =
    ap (λ rest. take written text ++ take count rest) (take_rest text written) ∙ sym (take-add written count text)

pub loop-written-preserved : goal.loop-written-preserved
loop-written-preserved g c =
    let write = c.in_ok-count.ensures in
    let rest = take_rest c.args.text.now c.loop-written.written in
    record {
      front =
          subst (Appends _ _) (longer_front _ _ _) (Appends-trans _ _ _ _ _ c.loop-written.invariant.front write.bytes);
      within = omega (arith, write.bound, ap length rest, length-drop {A = ℕ});
      counted = omega (arith, write.retries.counted);
    }
