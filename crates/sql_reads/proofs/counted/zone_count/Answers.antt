use Rattle.std.proofs.Common.{[], ◌∷◌, ap, length}
use Rattle.sqlite.specs.Values.{bound_value}
use Rattle.sqlite_value.specs.declared.value.Value.TheVariants.{Text}
use Rattle.mcs_reader.specs.Id.{text_of}
use Rattle.sql_tables.specs.Stored.{tables_of}
use Rattle.sql_texts.specs.Reads as read
use Rattle.sql_reads.proofs.CountFacts.{zones_counted}
use Rattle.sql_reads.proofs.counted.zone_count.Goals as goal

pub returns-clause-finds : goal.returns-clause-finds
returns-clause-finds g c =
    let client = c.args.client.now in
    c.count.ensures.finds read.zone_count 1 (Text (text_of client) ∷ []) (λ stored. length ((tables_of stored).zones client)) c.zone_count.ensures (ap (λ v. bound_value v ∷ []) c.id_of.ensures.value)
    (λ trees rows found whole said below answer. zones_counted trees rows found whole said below client c.id_of.ensures.is_id answer)
