use Rattle.std.proofs.Common.{◌≡◌, refl, true}
use Rattle.sqlite_schema.specs.Names.{same_name}
use Rattle.sql_texts.specs.Schema.{bureau, bureau_1, sysmod_cond}
use Rattle.sql_tables.specs.Earlier.{IsOfVersion1}
use Rattle.sql_writes.proofs.DefineFacts.{is_new, tested_new}
use Rattle.sql_writes.proofs.ExcuseFacts.{table_excused}
use Rattle.sql_writes.proofs.MigrateFacts.{table_added}
use Rattle.sql_writes.proofs.RunFacts.{conditions_come}
use Rattle.sql_writes.proofs.migration.with_sysmod_cond.Goals as goal

pub returns-clause-made : goal.returns-clause-made
returns-clause-made g c stored = table_added _ _ _ _ c.sysmod_cond.ensures c.run.ensures.ran stored

is_new_there : is_new bureau_1 bureau sysmod_cond ≡ true
unfolding same_name
is_new_there = refl

pub returns-clause-excused : goal.returns-clause-excused
returns-clause-excused g c =
    let new = tested_new bureau_1 bureau sysmod_cond is_new_there in
    table_excused _ _ _ _ IsOfVersion1 bureau_1 bureau sysmod_cond (λ database is. is.schema) c.sysmod_cond.ensures new.0 new.1 c.run.ensures.fails

pub returns-clause-done : goal.returns-clause-done
returns-clause-done g c before = conditions_come _ _ _ _ before c.run.ensures.ran c.sysmod_cond.ensures
