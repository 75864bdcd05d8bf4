use Rattle.std.proofs.Common.{◌∙◌, ◌+◌, ap, refl, subst, true, false}
use Rattle.socket_desk.specs.Logged.{IsToldLost, counted, lines_in}
use Rattle.socket_desk.proofs.LogFacts.{logged_rest, logged_sent, logged_untold}
use Rattle.socket_desk.proofs.log.Log.write.Goals as goal

pub returns-then-not-write_rest : goal.returns-then-not-write_rest
returns-then-not-write_rest g c =
    logged_rest (g.W.Write.contents c.args.self.now.writer) (g.W.Write.contents c.write_rest.new.self.writer) c.args.self.now.rest.items c.write_rest.new.self.rest.items c.args.stamp.now c.args.lines.now
    (counted (c.args.self.now.lost + c.args.lost)) c.with_lines-self.result c.write_rest.ensures.out (c.with_lines-self.ensures ∙ ap (λ n. counted (n + lines_in c.args.lines.now)) (c.write_rest.ensures.lost ∙ c.saturating_add-self.ensures))

pub returns-then-not-tell_lost : goal.returns-then-not-tell_lost
returns-then-not-tell_lost g c =
    logged_untold (g.W.Write.contents c.args.self.now.writer) (g.W.Write.contents c.write_rest.new.self.writer) (g.W.Write.contents c.tell_lost.new.self.writer) c.args.self.now.rest.items c.write_rest.new.self.rest.items
    c.tell_lost.new.self.rest.items c.args.stamp.now c.args.lines.now (counted (c.args.self.now.lost + c.args.lost)) c.tell_lost.new.self.lost c.with_lines-self-then-not-tell_lost.result c.write_rest.ensures.out
    (c.if-not-write_rest.ensures.whole refl)
    (subst (λ n. IsToldLost false (g.W.Write.contents c.write_rest.new.self.writer) n c.args.stamp.now (g.W.Write.contents c.tell_lost.new.self.writer) c.tell_lost.new.self.rest.items c.tell_lost.new.self.lost)
    (c.write_rest.ensures.lost ∙ c.saturating_add-self.ensures) c.if-not-tell_lost.ensures)
    c.with_lines-self-then-not-tell_lost.ensures

pub returns : goal.returns
returns g c =
    logged_sent (g.W.Write.contents c.args.self.now.writer) (g.W.Write.contents c.write_rest.new.self.writer) (g.W.Write.contents c.tell_lost.new.self.writer) (g.W.Write.contents c.write_pieces-left.new.self.writer) c.args.self.now.rest.items
    c.write_rest.new.self.rest.items c.tell_lost.new.self.rest.items c.write_pieces-left.new.self.rest.items c.args.stamp.now c.args.lines.now c.write_pieces-left.result.now (counted (c.args.self.now.lost + c.args.lost))
    c.tell_lost.new.self.lost c.with_lines-self-2.result c.write_rest.ensures.out (c.if-not-write_rest.ensures.whole refl)
    (subst (λ n. IsToldLost true (g.W.Write.contents c.write_rest.new.self.writer) n c.args.stamp.now (g.W.Write.contents c.tell_lost.new.self.writer) c.tell_lost.new.self.rest.items c.tell_lost.new.self.lost)
    (c.write_rest.ensures.lost ∙ c.saturating_add-self.ensures) c.if-not-tell_lost.ensures)
    c.write_pieces-left.ensures.sent (c.with_lines-self-2.ensures ∙ ap (λ n. counted (n + lines_in c.write_pieces-left.result.now)) c.write_pieces-left.ensures.lost)
