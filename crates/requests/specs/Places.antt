-- No part of what is promised: private contracts cite it. The parts of a path that the parameters of a
-- route take, as `matchit` hands them out.
use Rattle.std.specs.Prelude.{ℕ, List, Option}
use Rattle.std.specs.Option.{option_and_then}
use Rattle.matchit.specs.Params.{named, walk}
use Rattle.matchit.specs.declared.params.Params.{Params}
use Rattle.requests.specs.Request.{id_in}

-- each parameter's name with the part that it takes
abbrev pub taken : Params → List (List ℕ × List ℕ)
taken params = walk params.pattern.now params.text.now params.path.now params.names.now 0 0

-- the id that the parameter with this name takes
abbrev pub id_taken : List ℕ → Params → Option (List ℕ)
id_taken name params = option_and_then id_in (named name (taken params))
