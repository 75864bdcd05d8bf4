use Rattle.std.proofs.Common.{List, ℕ, IsSome, sym, subst}
use Rattle.mcs_reader.specs.Position.{role_at}
use Rattle.mcs_reader.proofs.ScanPositionFacts.{comment_goes_on}
use Rattle.mcs_reader.proofs.passing.pass_comment.Goals as goal

pub advance-requires-2 : goal.advance-requires-2
advance-requires-2 c =
    let P : List ℕ → Type 0 = λ t. IsSome (role_at t) in
    subst P (sym c.advance.ensures.text) (comment_goes_on c.args.cursor.now.text c.requires.begins)
