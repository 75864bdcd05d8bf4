use Rattle.std.proofs.Common.{◌∙◌}
use Rattle.bureau_store.proofs.TableFacts.{knows_more}
use Rattle.bureau_store.proofs.by_token.put_token.Goals as goal

pub returns : goal.returns
returns c = λ rows knows.
    knows_more (λ text. text.items) c.args.by_token.now.entries c.insert.new.self.entries rows c.args.row.now c.into_vec.result c.caller_named.result
    knows (c.into_vec.ensures ∙ c.in_ok-token.ensures) c.caller_named.ensures c.in_ok-insert.ensures.entries
