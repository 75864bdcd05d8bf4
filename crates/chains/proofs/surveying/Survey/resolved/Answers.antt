use Rattle.chains.proofs.surveying.Survey.resolved.Goals as goal

pub invariant_of-result : goal.invariant_of-result
invariant_of-result c = record {
  ascend = c.requires.ascend;
  within = c.requires.within;
  resolved = c.in_ok-resolution.ensures.good;
}
