use Rattle.std.proofs.Common.{◌≡◌, ◌∙◌, sym}
use Rattle.std.proofs.lemmas.Result.{IfErr-weaker}
use Rattle.sqlite.specs.Held.{state}
use Rattle.sql_reads.specs.declared.fault.ReadFault.TheVariants.{Device, Memory}
use Rattle.sql_checks.specs.Known.{known_by}
use Rattle.sql_checks.specs.Refused.{of_known}
use Rattle.sql_checks.proofs.CauseFacts.{text_unshown}
use Rattle.sql_checks.proofs.ScanFacts.{kept_told, refused_rows}
use Rattle.sql_checks.proofs.looking.rows_keep.Goals as goal

pub returns-in-Ok-clause-looked : goal.returns-in-Ok-clause-looked
returns-in-Ok-clause-looked g c =
    let t = g.T.Table in
    record {
      looks = kept_told (known_by t.table t.rows g.T.Checked.keeps_to) g.met.T.Checked.as_shown (λ trees. sym (t.stands.here trees)) c.all_columns.result.now c.all_columns.ensures.here
          (state g.S.Store c.args.conn.now) (state g.S.Store c.rows_of.new.conn) c.in-Ok.rows c.as_slice.result.now c.as_slice.ensures.value
          c.in-Ok.ensures.answers c.all_keep.result c.all_keep.ensures.keep;
      cause = IfErr-weaker c.all_keep.result _ _ (λ fault memory device clean. let never : Memory ≡ Device = sym memory ∙ device in cc) c.all_keep.ensures.memory;
    }

pub returns-in-Err-clause-looked : goal.returns-in-Err-clause-looked
returns-in-Err-clause-looked g c =
    let t = g.T.Table in
    let text = c.all_columns.result.now in
    record {
      looks = refused_rows text (state g.S.Store c.args.conn.now) (state g.S.Store c.rows_of.new.conn) c.in-Err.fault _ _ c.in-Err.ensures.answers;
      cause = λ device clean.
          text_unshown (of_known (known_by t.table t.rows g.T.Checked.keeps_to)) text c.all_columns.ensures.here (state g.S.Store c.args.conn.now) (state g.S.Store c.rows_of.new.conn) c.in-Err.fault c.in-Err.ensures.cause device clean;
    }
