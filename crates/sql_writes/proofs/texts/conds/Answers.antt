use Rattle.std.proofs.Common.{◌≡◌, ◌+◌, ◌*◌, arith, refl, subst}
use Rattle.sqlite.specs.Listing.{understood}
use Rattle.sqlite_tied.specs.Compute.{everything}
use Rattle.sql_texts.specs.Schema.{bureau}
use Rattle.sql_writes.specs.Many.{MeansBy, insert_alike, parameters_to}
use Rattle.sql_writes.proofs.texts.conds.Goals as goal

pub returns : goal.returns
unfolding understood everything
returns c =
    let one : 1 ≡ c.args.count = omega (arith, c.requires.some, c.requires.few) in
    subst (λ n. MeansBy bureau _ (insert_alike 9 1 2 n) (parameters_to (1 + 2 * n))) one (record { statement = refl })
