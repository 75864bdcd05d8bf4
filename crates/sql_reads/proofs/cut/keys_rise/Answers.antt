use Rattle.std.proofs.Common.{◌≡◌, rules}
use Rattle.std.proofs.lemmas.Fn.{always_returns_same}
use Rattle.sql_reads.proofs.CutFacts.{is_rise, rises_by_neighbours}
use Rattle.sql_reads.proofs.cut.keys_rise.Goals as goal

pub returns : goal.returns
returns c =
    let place = c.args.place in
    rises_by_neighbours place c.args.rows.now c.is_sorted_by.result
    (c.is_sorted_by.ensures.cases (is_rise place) (always_returns_same _ (λ a r. r ≡ is_rise place a.0.now a.1.0.now) _ (λ a r next called. (search (called, rules), search (called, rules)))))
