-- A worked example of the definitions: a node of a frame.
use Rattle.std.proofs.Common.{◌≡◌, true, [], ◌∷◌, refl}
use Rattle.supersede.proofs.Examples.{conditional, function, other_function, required}
use Rattle.verdicts.proofs.Examples.{both_published}
use Rattle.chains.specs.Frames.{node_of}

-- a node has its requisites under a condition beside its needs
its_node : node_of both_published conditional ≡ record {
  id = conditional;
  catalogued = true;
  fmids = function ∷ [];
  needs = [];
  conds = record { fmid = other_function; need = required } ∷ [];
  givers = conditional ∷ [];
}
its_node = refl
