use Rattle.std.proofs.Common.{◌∙◌, ap, sym}
use Rattle.std.specs.List.{Contains}
use Rattle.std.specs.Option.{option_copied}
use Rattle.lemmas.proofs.ResultFacts.{if_some}
use Rattle.bureau_sql.proofs.KeptFacts.{peeked}
use Rattle.bureau_sql.proofs.kept.Kept.get.Goals as goal

pub returns : goal.returns
returns g c =
    if_some (λ value. Contains c.args.self.now value.now) c.peek.result
    (λ value is. peeked c.self.inside.cache c.args.self.now c.in-Some.cache c.self.view_is c.in-Some.is (g.K.PartialEq.eq c.args.key.now) value.now (sym c.peek.ensures ∙ ap option_copied is))
