use Rattle.std.proofs.Common.{◌+◌, length, sym, ap, ◌∙◌, length-append}
use Rattle.requests.specs.Reply.{head_text}
use Rattle.bureau_http.proofs.ReplyFacts.{whole_reply}
use Rattle.bureau_http.proofs.reply.Told.len.Goals as goal

pub returns : goal.returns
returns c =
    let text = whole_reply c.args.self.now c.args.is_bare c.args.closes c.head_text.result.items c.body_for.result.now (c.head_text.ensures ∙ ap head_text c.head.ensures) c.body_for.ensures in
    ap (λ n. n + length c.body_for.result.now) c.len.ensures.value ∙ sym (length-append c.head_text.result.items c.body_for.result.now) ∙ ap length text
