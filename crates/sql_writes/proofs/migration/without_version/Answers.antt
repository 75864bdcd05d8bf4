use Rattle.std.proofs.Common.{◌≡◌, []}
use Rattle.sqlite.specs.Held.{state}
use Rattle.sql_tables.specs.Earlier.{IsOfVersion1, held_by_version_1}
use Rattle.sql_tables.specs.Ours.{version_rows}
use Rattle.sql_writes.specs.Migrating.{HeldEarlier, HoldsAll, IsWithConditions}
use Rattle.sql_writes.proofs.ExcuseFacts.{excused_then, no_version_excused}
use Rattle.sql_writes.proofs.MakeFacts.{leads_nowhere, leads_then}
use Rattle.sql_writes.proofs.MigrateFacts.{from_version_1, keys_once, version_goes}
use Rattle.sql_writes.proofs.RunFacts.{version_leaves}
use Rattle.sql_writes.proofs.migration.without_version.Goals as goal

pub returns-in_err-with_sysmod_cond-clause-made : goal.returns-in_err-with_sysmod_cond-clause-made
returns-in_err-with_sysmod_cond-clause-made g c stored =
    leads_nowhere _ _ _ _ (HeldEarlier stored) (HoldsAll (version_rows 1) stored) _ c.from_residual.ensures.0 (c.in_err-with_sysmod_cond.ensures.made stored)

pub returns-clause-made : goal.returns-clause-made
returns-clause-made g c stored =
    leads_then _ _ _ tt _ (HeldEarlier stored) (HoldsAll (version_rows 1) stored) (HoldsAll [] stored) (c.in_ok-with_sysmod_cond.ensures.made stored)
    (version_goes _ _ _ _ c.delete_version.ensures c.run.ensures.ran stored)

pub returns-clause-excused : goal.returns-clause-excused
returns-clause-excused g c =
    let old = state g.S.Store c.args.tx.now.conn.now in
    let stored = held_by_version_1 old.now in
    excused_then old _ _ tt _ IsOfVersion1 (HoldsAll (version_rows 1) stored) (from_version_1 old _ _ (HoldsAll (version_rows 1) stored) (c.in_ok-with_sysmod_cond.ensures.made stored)) c.run.ensures.ran.survives
    (no_version_excused _ _ _ _ (HoldsAll (version_rows 1) stored) (λ database is. is.known.schema) (keys_once (version_rows 1) stored) c.delete_version.ensures c.run.ensures.fails)

pub returns-in_err-with_sysmod_cond-clause-done : goal.returns-in_err-with_sysmod_cond-clause-done
returns-in_err-with_sysmod_cond-clause-done g c before =
    leads_nowhere _ _ _ _ (λ database. database ≡ before) (IsWithConditions before) _ c.from_residual.ensures.0 (c.in_err-with_sysmod_cond.ensures.done before)

pub returns-clause-done : goal.returns-clause-done
returns-clause-done g c before =
    leads_then _ _ _ tt _ (λ database. database ≡ before) (IsWithConditions before) _ (c.in_ok-with_sysmod_cond.ensures.done before) (version_leaves _ _ _ _ before c.run.ensures.ran c.delete_version.ensures)
