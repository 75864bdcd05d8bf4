use Rattle.std.proofs.Common.{◌∙◌, sym}
use Rattle.bureau_store.proofs.TableFacts.{installed_put}
use Rattle.bureau_store.proofs.held.put_installed.Goals as goal

pub returns-in_ok-insert : goal.returns-in_ok-insert
returns-in_ok-insert c = installed_put c.args.ids.now.keys c.insert.new.self.keys c.args.row.now c.in_ok-insert.ensures.keys (sym c.is_installed.ensures ∙ c.if-is_installed.true)
