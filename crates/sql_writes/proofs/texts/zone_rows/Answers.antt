use Rattle.std.proofs.Common.{refl}
use Rattle.sqlite.specs.Listing.{understood}
use Rattle.sqlite_tied.specs.Compute.{everything}
use Rattle.sql_writes.proofs.TextFacts.{one_of_eight}
use Rattle.sql_writes.proofs.texts.zone_rows.Goals as goal

pub returns : goal.returns
unfolding understood everything
returns c =
    one_of_eight 7 2 2 _ _ _ _ _ _ _ _ _ c.args.count c.requires.some c.requires.few
    (record { statement = refl }) (record { statement = refl }) (record { statement = refl }) (record { statement = refl })
    (record { statement = refl }) (record { statement = refl }) (record { statement = refl }) (record { statement = refl })
