use Rattle.std.proofs.Common.{◌≡◌, ◌*◌, arith, refl, subst, sym}
use Rattle.sqlite.specs.Listing.{understood}
use Rattle.sqlite_tied.specs.Compute.{everything}
use Rattle.sql_texts.specs.Schema.{bureau}
use Rattle.sql_writes.specs.Many.{MeansBy, insert_alike, parameters_to}
use Rattle.sql_writes.proofs.texts.sysmods.Goals as goal

pub returns-in_default : goal.returns-in_default
unfolding understood everything
returns-in_default c =
    let most : 8 ≡ c.args.count = omega (arith, c.requires, c.in_default) in
    subst (λ n. MeansBy bureau _ (insert_alike 3 0 5 n) (parameters_to (5 * n))) most (record { statement = refl })

pub returns-in-1 : goal.returns-in-1
unfolding understood everything
returns-in-1 c = subst (λ n. MeansBy bureau _ (insert_alike 3 0 5 n) (parameters_to (5 * n))) (sym c.in-1.is) (record { statement = refl })
