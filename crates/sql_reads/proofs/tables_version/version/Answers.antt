use Rattle.std.proofs.Common.{◌≡◌, ◌⊎◌, [], Err, IfErr, rules, subst, sym}
use Rattle.sqlite.specs.Held.{state}
use Rattle.sqlite.specs.State.{HasCleanDisk}
use Rattle.sql_tables.specs.Reading.{HasFailed}
use Rattle.sql_reads.specs.Version.{MeansNothing, Withholds}
use Rattle.sql_reads.specs.declared.fault.ReadFault.TheVariants.{Device}
use Rattle.sql_reads.proofs.VersionFacts.{our_version, version_before, version_told}
use Rattle.sql_reads.proofs.tables_version.version.Goals as goal

pub returns-clause-version : goal.returns-clause-version
returns-clause-version g c =
    version_told c.args.text.now (state g.S.Store c.args.conn.now) (state g.S.Store c.rows_of.new.conn) c.in_ok-rows.rows c.as_slice.result.now c.requires.asks c.as_slice.ensures.value
    c.in_ok-rows.ensures.answers c.told.result c.told.ensures

pub returns-clause-ours : goal.returns-clause-ours
returns-clause-ours g c =
    our_version c.args.text.now (state g.S.Store c.args.conn.now) (state g.S.Store c.rows_of.new.conn) c.in_ok-rows.rows c.as_slice.result.now c.requires.asks c.as_slice.ensures.value
    c.in_ok-rows.ensures.answers c.told.result c.told.ensures

pub returns-clause-earlier : goal.returns-clause-earlier
returns-clause-earlier g c =
    version_before c.args.text.now (state g.S.Store c.args.conn.now) (state g.S.Store c.rows_of.new.conn) c.in_ok-rows.rows c.as_slice.result.now c.requires.earlier c.as_slice.ensures.value
    c.in_ok-rows.ensures.answers c.told.result c.told.ensures

pub returns-in_err-rows-clause-cause : goal.returns-in_err-rows-clause-cause
returns-in_err-rows-clause-cause g c =
    let old = state g.S.Store c.args.conn.now in
    let new = state g.S.Store c.rows_of.new.conn in
    let is : c.from_residual.result ≡ Err c.in_err-rows.field-0.0 = search (rules, c.from_residual.ensures) in
    subst (λ result. IfErr result (λ fault. HasCleanDisk new → fault ≡ Device → HasFailed old new ⊎ (MeansNothing c.args.text.now old.committed ⊎ Withholds old.step_limit c.args.text.now [] old.committed)))
    (sym is) c.in_err-rows.ensures.cause
