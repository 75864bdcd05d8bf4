use Rattle.std.proofs.Common.{◌∙◌, ap, inr, subst, sym}
use Rattle.std.proofs.KnownBytes.{Keeps-refl}
use Rattle.sqlite.specs.Held.{state}
use Rattle.store_runs.specs.Checking.{IsToldWhole, in_no_table}
use Rattle.store_runs.proofs.CheckFacts.{IsServable, not_served, text_printed, whole_told, wrong_told}
use Rattle.store_runs.proofs.checking.check_and_print.Goals as goal

pub returns-in-Ok-look-clause-output : goal.returns-in-Ok-look-clause-output
returns-in-Ok-look-clause-output g c =
    let it = c.in-Ok.ensures in
    let servable : IsServable (state g.S.Store c.args.conn.now) (state g.S.Store c.find_store.new.conn) = record { reads = it.reads; is_open = it.is_open; version = it.version; found = it.found } in
    let before = state g.S.Store c.args.conn.now in
    let after = state g.S.Store c.look.new.conn in
    text_printed c.print.result before after (g.W.Write.contents c.args.writer.now) (g.W.Write.contents c.print.new.writer) c.as_slice.result.now
    (subst (λ text. IsToldWhole before after text) (sym c.as_slice.ensures.value)
    (whole_told before (state g.S.Store c.find_store.new.conn) after servable c.in-Ok-look.ensures.reads c.in-Ok-look.text.items c.in-Ok-look.ensures.whole))
    c.print.ensures.ok c.print.ensures.fault c.print.ensures.err

pub returns-in-Err-look-clause-output : goal.returns-in-Err-look-clause-output
returns-in-Err-look-clause-output g c =
    let it = c.in-Ok.ensures in
    let servable : IsServable (state g.S.Store c.args.conn.now) (state g.S.Store c.find_store.new.conn) = record { reads = it.reads; is_open = it.is_open; version = it.version; found = it.found } in
    inr (
      wrong_told (state g.S.Store c.args.conn.now) (state g.S.Store c.find_store.new.conn) (state g.S.Store c.look.new.conn) servable c.in-Err-look.ensures.reads c.in-Err-look.told
          c.in-Err-look.ensures.wrong,
      Keeps-refl (g.W.Write.contents c.args.writer.now),
    )

pub returns-in-Err-clause-output : goal.returns-in-Err-clause-output
returns-in-Err-clause-output g c =
    inr (
      not_served (state g.S.Store c.args.conn.now) (state g.S.Store c.find_store.new.conn) c.in-Err.fault c.in_no_table.result (c.in_no_table.ensures ∙ ap in_no_table c.of_store.ensures) c.in-Err.ensures.cause,
      Keeps-refl (g.W.Write.contents c.args.writer.now),
    )
