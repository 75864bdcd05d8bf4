use Rattle.std.proofs.Common.{◌≡◌, IfErr, OnOk, ap, ◌∙◌, subst}
use Rattle.std.specs.Io.KnownBytes.{Appends}
use Rattle.transfer.specs.Transfer.{AppendsFront}
use Rattle.requests.specs.Reply.{head_text}
use Rattle.bureau_http.specs.declared.fault.ConnFault.TheVariants.{Write as NotWritten}
use Rattle.bureau_http.proofs.ReplyFacts.{whole_reply}
use Rattle.bureau_http.proofs.reply.Told.write.Goals as goal

pub returns-clause-ok : goal.returns-clause-ok
returns-clause-ok g c =
    let text = whole_reply c.args.self.now c.args.is_bare c.args.closes _ _ (c.deref.ensures.0 ∙ c.head_text-head.ensures ∙ ap head_text c.head.ensures) c.body_for.ensures in
    subst (λ t. OnOk c.write_both.result (Appends (g.W.Write.contents c.args.writer.now) (g.W.Write.contents c.write_both.new.writer) t)) text c.write_both.ensures.ok

pub returns-clause-err : goal.returns-clause-err
returns-clause-err g c =
    let text = whole_reply c.args.self.now c.args.is_bare c.args.closes _ _ (c.deref.ensures.0 ∙ c.head_text-head.ensures ∙ ap head_text c.head.ensures) c.body_for.ensures in
    subst (λ t. IfErr c.write_both.result (λ fault. (fault ≡ NotWritten) × AppendsFront (g.W.Write.contents c.args.writer.now) (g.W.Write.contents c.write_both.new.writer) t)) text c.write_both.ensures.err
