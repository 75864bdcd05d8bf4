use Rattle.sqlite_schema.specs.Rules.{Keeps}
use Rattle.sqlite_schema.specs.declared.schema.Constraint.TheVariants.{Unique}
use Rattle.std.proofs.Common.{subst}
use Rattle.std.specs.Prelude.{length}
use Rattle.sql_texts.specs.Schema.{indexes, tables}
use Rattle.sql_writes.specs.Making.{IsEmpty, IsMade}
use Rattle.sql_writes.proofs.ExcuseFacts.{excused_then, version_excused}
use Rattle.sql_writes.proofs.MakeFacts.{version_comes, leads_nowhere, leads_then}
use Rattle.sql_writes.proofs.tables.with_version.Goals as goal

pub returns-in_err-all_tables-clause-made : goal.returns-in_err-all_tables-clause-made
returns-in_err-all_tables-clause-made g c =
    leads_nowhere _ _ _ _ IsEmpty (IsMade (length tables) (length indexes)) _ c.from_residual.ensures.0 c.in_err-all_tables.ensures.made

pub returns-clause-made : goal.returns-clause-made
returns-clause-made g c =
    leads_then _ _ _ tt _ IsEmpty (IsMade (length tables) (length indexes)) _ c.in_ok-all_tables.ensures.made (version_comes _ _ _ _ c.insert_version.ensures c.run.ensures.ran)

pub returns-clause-excused : goal.returns-clause-excused
returns-clause-excused g c =
    excused_then _ _ _ tt _ IsEmpty (IsMade (length tables) (length indexes)) c.in_ok-all_tables.ensures.made c.run.ensures.ran.survives
    (version_excused _ _ _ _ (IsMade (length tables) (length indexes)) (λ database so_far. so_far.schema) (λ database so_far. subst (λ schema. Keeps Unique schema database.trees) so_far.schema (so_far.sound.obeys.rules Unique))
    (λ database so_far. so_far.empty.0) c.insert_version.ensures c.run.ensures.fails)
