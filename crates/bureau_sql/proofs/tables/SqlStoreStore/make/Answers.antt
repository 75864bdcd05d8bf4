use Rattle.std.proofs.Common.{◌∙◌}
use Rattle.bureau_store.specs.Effects.{effect_as, maker_of}
use Rattle.bureau_store.specs.Store.{update}
use Rattle.bureau_sql.proofs.FailingFacts.{closed_fails, fails_to_change}
use Rattle.bureau_sql.proofs.MadeFacts.{open_makes}
use Rattle.bureau_sql.proofs.tables.SqlStoreStore.make.Goals as goal

pub returns-clause-makes : goal.returns-clause-makes
returns-clause-makes g c =
    let looked = c.in_ok-check_open.ensures.open in
    open_makes (update (maker_of c.args.effect.now) (effect_as c.args.effect.now) c.args.number c.args.reply.now) c.effect.ensures g.S.Store c.self.inside.conn c.make-made.new.conn c.self.inside.failures c.self.inside.unseen _ c.made.new.self
    (c.self.view_is ∙ looked.0) looked.1 c.made.ensures.rests c.make-made.result c.made.result c.make-made.ensures.committed c.made.ensures.told c.made.ensures.refusal

pub returns-clause-cause : goal.returns-clause-cause
returns-clause-cause g c =
    let looked = c.in_ok-check_open.ensures.open in
    fails_to_change g.S.Store (update (maker_of c.args.effect.now) (effect_as c.args.effect.now) c.args.number c.args.reply.now) c.self.inside.conn c.make-made.new.conn c.self.inside.failures c.self.inside.unseen c.made.new.self _
    c.make-made.ensures.committed.survives c.made.ensures.told.reads c.make-made.result (λ most room. c.make-made.ensures.excused most c.effect.ensures.fit room) _ (c.self.view_is ∙ looked.0) c.made.result c.made.ensures.cause c.made.ensures.refusal

pub returns-in_err-check_open-clause-cause : goal.returns-in_err-check_open-clause-cause
returns-in_err-check_open-clause-cause g c =
    closed_fails g.S.Store (update (maker_of c.args.effect.now) (effect_as c.args.effect.now) c.args.number c.args.reply.now) c.args.self.now c.check_open.new.self _ c.in_err-check_open.ensures.was_closed
