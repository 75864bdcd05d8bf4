use Rattle.std.proofs.Common.{◌∙◌, ap}
use Rattle.catalogue.proofs.SourceFacts.{told_so}
use Rattle.bureau.specs.Outcome.{answered, in_form}
use Rattle.bureau.specs.Texts.{zones_told}
use Rattle.bureau.proofs.answers.list_zones.Goals as goal

pub returns-clause-reply : goal.returns-clause-reply
returns-clause-reply g c =
    told_so c.in_ok-zones.ensures.zones (λ this is.
    ap answered (c.reply_in.ensures ∙ ap (in_form c.args.form) (c.in_ok-text.ensures ∙ ap (zones_told c.args.form) (c.deref.ensures.value ∙ is))))
