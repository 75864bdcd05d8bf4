use Rattle.bureau_store.proofs.SetCallersFacts.{names_more}
use Rattle.bureau_store.proofs.set_callers.put_name.Goals as goal

pub returns : goal.returns
returns c = λ rows knows.
    names_more c.args.by_name.now.entries c.insert.new.self.entries rows c.args.row.now knows c.in_ok-token.token c.in_ok-token.ensures c.in_ok-insert.ensures.updates.0
