use Rattle.verdicts.proofs.IndexFacts.{found_at, not_found}
use Rattle.verdicts.proofs.indices.index_of.Goals as goal

pub returns : goal.returns
returns c = record {
  some = found_at c.args.members.now c.args.id.now c.index_among.result c.index_among.ensures.index;
  none = not_found c.args.members.now c.args.id.now c.index_among.result c.index_among.ensures.stands;
}
