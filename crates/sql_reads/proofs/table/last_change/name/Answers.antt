use Rattle.std.proofs.Common.{refl, ap, ◌∙◌}
use Rattle.bureau_store.specs.Caller.{name_text, publisher_name}
use Rattle.sqlite_value.specs.declared.value.Value.TheVariants.{Text}
use Rattle.sql_tables.specs.Stored.{name_of}
use Rattle.sql_reads.proofs.ClientFacts.{proper_name}
use Rattle.sql_reads.proofs.table.last_change.name.Goals as goal

pub returns-in-Publisher : goal.returns-in-Publisher
returns-in-Publisher c = (publisher_name, (refl, refl), ap name_of c.in-Publisher.is, ap Text (c.name.ensures ∙ ap name_text c.in-Publisher.is))

pub returns-in-Client : goal.returns-in-Client
returns-in-Client c = (c.in-Client.name, c.id_of.ensures.is_id, proper_name c.args.caller.now c.in-Client.name c.in-Client.is c.requires, c.id_of.ensures.value)
