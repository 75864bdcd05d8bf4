use Rattle.sql_texts.specs.Schema as schema
use Rattle.sql_texts.specs.Schema.{made}
use Rattle.sql_writes.specs.Making.{IsEmpty}
use Rattle.sql_writes.proofs.DefineFacts.{tested_new}
use Rattle.sql_writes.proofs.ExcuseFacts.{table_excused}
use Rattle.sql_writes.proofs.MakeFacts.{table_comes}
use Rattle.sql_writes.proofs.NewFacts.{first_is_new}
use Rattle.sql_writes.proofs.tables.bureau_version.Goals as goal

pub returns-clause-made : goal.returns-clause-made
returns-clause-made g c =
    table_comes IsEmpty 0 0 1 0 _ schema.bureau_version _ _ _ (λ database empty. (empty, tt)) c.bureau_version.ensures (tested_new (made 0 0) (made 1 0) schema.bureau_version first_is_new).1 c.run.ensures.ran

pub returns-clause-excused : goal.returns-clause-excused
returns-clause-excused g c =
    let new = tested_new (made 0 0) (made 1 0) schema.bureau_version first_is_new in
    table_excused _ _ _ _ IsEmpty (made 0 0) (made 1 0) schema.bureau_version (λ database empty. empty) c.bureau_version.ensures new.0 new.1 c.run.ensures.fails
