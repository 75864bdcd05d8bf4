use Rattle.std.proofs.Common.{[]}
use Rattle.catalogue.proofs.IdFacts.{in_order_ascends}
use Rattle.chains.proofs.candidates.candidates_for.Goals as goal

pub candidates_by-requires : goal.candidates_by-requires
candidates_by-requires g c = in_order_ascends []
