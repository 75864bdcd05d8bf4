use Rattle.std.proofs.Common.{◌∙◌, ap}
use Rattle.sql_tables.specs.Values.{ids_in}
use Rattle.sql_tables.proofs.RowFacts.{sysmod_lists}
use Rattle.sql_tables.proofs.rows.sysmod_in.Goals as goal

pub returns-in_default-2-clause-none : goal.returns-in_default-2-clause-none
returns-in_default-2-clause-none c _ sysmod found fmids pre req =
    let lists = sysmod_lists (record { conds = c.args.conds; sup = c.args.sup }) c.args.row.now sysmod found in
    c.in_ok-fmids.ensures.none c.in_default-2.is sysmod.fmids (ap ids_in c.column-3.ensures ∙ lists.0) fmids

pub returns-in_default-3-clause-none : goal.returns-in_default-3-clause-none
returns-in_default-3-clause-none c _ sysmod found fmids pre req =
    let lists = sysmod_lists (record { conds = c.args.conds; sup = c.args.sup }) c.args.row.now sysmod found in
    c.in_ok-pre.ensures.none c.in_default-3.is sysmod.pre (ap ids_in c.column-4.ensures ∙ lists.1) pre
