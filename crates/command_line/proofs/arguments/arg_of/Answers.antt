use Rattle.std.proofs.Common.{rules, ◌≡◌, Option, Some, None, ap}
use Rattle.std.specs.Prelude.{IsSomeAnd}
use Rattle.command_line.proofs.arguments.arg_of.Goals as goal

given_range : {T : Type 0} (given : Option T) (range : T) → IsSomeAnd given (λ r. r ≡ range) → given ≡ Some range
given_range None range is = absurd is
given_range (Some r) range is = ap Some is

pub returns-in-Several-clause-rule : goal.returns-in-Several-clause-rule
returns-in-Several-clause-rule c =
    let range = given_range _ _ c.num_args.ensures.1 in
    search rules
