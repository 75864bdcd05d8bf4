use Rattle.zone_lists.proofs.PatternFacts.{begins_as_compared}
use Rattle.zone_lists.proofs.pattern.begins_with.Goals as goal

pub returns : goal.returns
returns c =
    begins_as_compared c.args.category.now c.args.stem.now _ (rw c.split_at.ensures.front at c.eq_ignore_ascii_case.ensures.test)
