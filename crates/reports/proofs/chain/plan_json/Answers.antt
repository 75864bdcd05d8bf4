use Rattle.std.proofs.Common.{◌∙◌, ap}
use Rattle.serde_json.specs.Written.{compact_text, has_float}
use Rattle.catalogue.proofs.SourceFacts.{told_so}
use Rattle.verdicts.specs.Judge.{judged_by}
use Rattle.reports.proofs.ChainFacts.{chain_plain}
use Rattle.reports.proofs.chain.plan_json.Goals as goal

pub returns-clause-text : goal.returns-clause-text
returns-clause-text g c =
    told_so c.in_ok-value.ensures.value (λ content is.
    c.in_ok-compact.ensures (ap has_float is ∙ chain_plain content c.args.zone.now c.args.sysmod.now (judged_by c.args.verdict.now))
    ∙ ap compact_text is)
