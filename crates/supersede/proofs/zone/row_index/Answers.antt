use Rattle.std.proofs.Common.{rules}
use Rattle.std.specs.Cmp.Lexicographic.{slice_cmp}
use Rattle.std.specs.Ordering.{nat_cmp}
use Rattle.std.proofs.lemmas.Fn.{always_returns_same}
use Rattle.supersede.proofs.zone.row_index.Goals as goal

-- the closure compares a row with the id
pub returns-clause-found : goal.returns-clause-found
returns-clause-found c =
    c.binary_search_by.ensures.position (λ row. slice_cmp nat_cmp row.sysmod c.args.id.now) (always_returns_same _ _ _ (λ a r g called. (search rules, search rules)))
