use Rattle.std.proofs.Common.{◌≡◌, ◌∙◌, None, Some, ap, map, rules}
use Rattle.sql_checks.proofs.SayFacts.{uncounted}
use Rattle.sql_checks.proofs.said.zones.Goals as goal

pub returns-in-Ok-clause-unsaid : goal.returns-in-Ok-clause-unsaid
returns-in-Ok-clause-unsaid c device =
    let none : c.both_counts.result ≡ None = search (device, c.ok_or.ensures, rules) in
    uncounted c.args.rows.now c.as_slice.result.now (ap (map Some) c.as_slice.ensures.value ∙ c.in-Ok.ensures.said) (c.both_counts.ensures.unsaid none)
