use Rattle.std.proofs.Common.{◌∙◌, subst}
use Rattle.std.specs.Io.KnownBytes.{Appends}
use Rattle.transfer.specs.Transfer.{AppendsFront}
use Rattle.run_parts.proofs.LineFacts.{cut_in_blank, cut_in_end, cut_in_front, cut_in_name, without_end}
use Rattle.run_parts.proofs.telling.tell_in.Goals as goal

pub returns-in_err-tell : goal.returns-in_err-tell
returns-in_err-tell g c =
    let front = without_end c.args.fault c.as_bytes.result.now c.without_end.result.now (c.as_bytes.ensures.value ∙ c.as_str.ensures.value ∙ c.text-line.ensures) c.without_end.ensures in
    cut_in_front c.args.fault c.args.name.now c.without_end.result.now front _ _ c.in_err-tell.ensures.front

pub returns-in_err-tell-2 : goal.returns-in_err-tell-2
returns-in_err-tell-2 g c =
    let front = without_end c.args.fault c.as_bytes.result.now c.without_end.result.now (c.as_bytes.ensures.value ∙ c.as_str.ensures.value ∙ c.text-line.ensures) c.without_end.ensures in
    cut_in_blank c.args.fault c.args.name.now c.without_end.result.now front _ _ _ c.in_ok-tell.ensures.whole c.in_err-tell-2.ensures.front

pub returns-in_err-tell-3 : goal.returns-in_err-tell-3
returns-in_err-tell-3 g c =
    let front = without_end c.args.fault c.as_bytes.result.now c.without_end.result.now (c.as_bytes.ensures.value ∙ c.as_str.ensures.value ∙ c.text-line.ensures) c.without_end.ensures in
    cut_in_name c.args.fault c.args.name.now c.without_end.result.now front _ _ _ _ c.in_ok-tell.ensures.whole c.in_ok-tell-2.ensures.whole
    (subst (AppendsFront _ _) c.as_bytes-2.ensures.value c.in_err-tell-3.ensures.front)

pub returns : goal.returns
returns g c =
    let front = without_end c.args.fault c.as_bytes.result.now c.without_end.result.now (c.as_bytes.ensures.value ∙ c.as_str.ensures.value ∙ c.text-line.ensures) c.without_end.ensures in
    cut_in_end c.args.fault c.args.name.now c.without_end.result.now front _ _ _ _ _ c.in_ok-tell.ensures.whole c.in_ok-tell-2.ensures.whole
    (subst (Appends _ _) c.as_bytes-2.ensures.value c.in_ok-tell-3.ensures.whole) c.tell-4.ensures.front
