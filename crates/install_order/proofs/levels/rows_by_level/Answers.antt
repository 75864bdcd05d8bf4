use Rattle.std.proofs.Common.{◌∙◌, List, ℕ, ap, sym, subst}
use Rattle.lemmas.proofs.ResultFacts.{ok_so}
use Rattle.install_order.specs.Levels.{AreRows, lists_in}
use Rattle.install_order.proofs.RowFacts.{lists_len, rows_are}
use Rattle.install_order.proofs.levels.rows_by_level.Goals as goal

pub returns : goal.returns
returns c =
    let levels = c.args.levels.now in
    let nodes = c.in_ok-nodes.nodes in
    let P : List (List ℕ) → Type 0 = λ l. AreRows levels l in
    ok_so c.rows_of.result c.rows_of.ensures (λ rows same.
    subst P (sym (same ∙ ap lists_in c.deref.ensures.value))
    (rows_are levels c.level_count-count.result (lists_in nodes.items) c.level_count-count.ensures (lists_len nodes.items ∙ c.in_ok-nodes.ensures.len) c.in_ok-nodes.ensures.nodes))
