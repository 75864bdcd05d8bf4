use Rattle.std.proofs.Common.{◌≡◌, ◌∙◌, [], rules, subst, sym}
use Rattle.std.proofs.lemmas.List.{nil_from_length}
use Rattle.socket_desk.specs.Logged.{AreLines, AreSent}
use Rattle.socket_desk.proofs.LogFacts.{sent_more}
use Rattle.socket_desk.proofs.log.Log.write_pieces.Goals as goal

pub returns-then-not-is_empty-clause-sent : goal.returns-then-not-is_empty-clause-sent
returns-then-not-is_empty-clause-sent g c =
    sent_more (g.W.Write.contents c.args.self.now.writer) (g.W.Write.contents c.loop.self.writer) (g.W.Write.contents c.send.new.self.writer) c.args.lines.now c.loop.left.now c.split_at.result.0.now c.split_at.result.1.now
    c.send.new.self.rest.items c.loop.invariant.0 c.split_at.ensures.by_index.0 (subst AreLines (sym c.split_at.ensures.front) c.piece_len.ensures.line) c.if-not-send.ensures.sent

pub loop-preserved : goal.loop-preserved
loop-preserved g c =
    let none : c.send.new.self.rest.items ≡ [] = nil_from_length c.send.new.self.rest.items (search rules) in (
      subst (λ r. AreSent (g.W.Write.contents c.args.self.now.writer) c.args.lines.now (g.W.Write.contents c.send.new.self.writer) r c.split_at.result.1.now) none
          (sent_more (g.W.Write.contents c.args.self.now.writer) (g.W.Write.contents c.loop.self.writer) (g.W.Write.contents c.send.new.self.writer) c.args.lines.now c.loop.left.now c.split_at.result.0.now c.split_at.result.1.now
          c.send.new.self.rest.items c.loop.invariant.0 c.split_at.ensures.by_index.0 (subst AreLines (sym c.split_at.ensures.front) c.piece_len.ensures.line) c.if-not-send.ensures.sent),
      none,
      c.send.ensures.lost ∙ c.loop.invariant.2,
    )
