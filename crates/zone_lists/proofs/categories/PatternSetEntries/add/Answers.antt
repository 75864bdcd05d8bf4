use Rattle.zone_lists.specs.PatternList.{pattern_list}
use Rattle.zone_lists.proofs.KeyFacts.{calm, key_added}
use Rattle.zone_lists.proofs.ListFacts.{entry_at}
use Rattle.zone_lists.proofs.categories.PatternSetEntries.add.Goals as goal

pub returns-clause-added : goal.returns-clause-added
returns-clause-added c =
    λ earlier listed. (
      c.in_ok-pattern.pattern,
      (entry_at c.args.n _ c.in_ok-pattern.pattern c.in_ok-pattern.ensures.made, calm c.in_ok-pattern.pattern earlier),
      key_added pattern_list earlier c.args.self.now.patterns.keys c.insert.new.self.keys c.in_ok-pattern.pattern listed c.in_ok-insert.ensures.keys,
    )
