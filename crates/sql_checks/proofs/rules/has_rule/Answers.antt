use Rattle.std.proofs.Common.{◌≡◌, ◌↔◌, ◌∙◌, ap, IsTrue, subst}
use Rattle.sqlite_sql.specs.Syntax.{terms_of}
use Rattle.sql_checks.specs.Shapes.{terms_of_rule}
use Rattle.sql_checks.proofs.rules.has_rule.Goals as goal

pub returns : goal.returns
returns c =
    let same = ap (λ nodes. terms_of nodes c.in_ok-lent.lent.roots.now) c.as_slice.ensures.value ∙ c.in_ok-lent.ensures in
    subst (λ terms. IsTrue c.are_rules.result ↔ (terms ≡ terms_of_rule c.args.rule)) same c.are_rules.ensures
