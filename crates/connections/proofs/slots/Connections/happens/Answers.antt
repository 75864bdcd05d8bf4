use Rattle.connections.specs.Items.{came, ended, failed, wrote}
use Rattle.connections.proofs.MemoryFacts.{told_stays}
use Rattle.connections.proofs.slots.Connections.happens.Goals as goal

pub returns-in-Came-clause-within : goal.returns-in-Came-clause-within
returns-in-Came-clause-within c = told_stays c.come.result c.args.self.now c.come.new.self (came c.in-Came.slot) c.come.ensures.told c.come.ensures.shares tt

pub returns-in-Wrote-clause-within : goal.returns-in-Wrote-clause-within
returns-in-Wrote-clause-within c = told_stays c.sent.result c.args.self.now c.sent.new.self (wrote c.in-Wrote.slot c.in-Wrote.count) c.sent.ensures.told c.sent.ensures.shares tt

pub returns-in-Ended-clause-within : goal.returns-in-Ended-clause-within
returns-in-Ended-clause-within c = told_stays c.end.result c.args.self.now c.end.new.self (ended c.in-Ended.slot) c.end.ensures.told c.end.ensures.shares tt

pub returns-in-Failed-clause-within : goal.returns-in-Failed-clause-within
returns-in-Failed-clause-within c = told_stays c.give_up.result c.args.self.now c.give_up.new.self (failed c.in-Failed.slot) c.give_up.ensures.told c.give_up.ensures.shares tt

pub returns-in-Late-clause-within : goal.returns-in-Late-clause-within
returns-in-Late-clause-within c = told_stays c.give_up-in-Late.result c.args.self.now c.give_up-in-Late.new.self (failed c.in-Late.slot) c.give_up-in-Late.ensures.told c.give_up-in-Late.ensures.shares tt
