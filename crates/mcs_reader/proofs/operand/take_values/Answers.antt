use Rattle.std.proofs.Common.{◌≡◌, [], false, unwrap_or, sym, ◌∙◌, ap}
use Rattle.mcs_reader.specs.Scan.{on_found, scan, with_name}
use Rattle.mcs_reader.specs.Pieces.{no_name}
use Rattle.mcs_reader.specs.Bytes.{bytes_of_each}
use Rattle.mcs_reader.proofs.OutsideFacts.{no_list_unnamed, operand_found}
use Rattle.mcs_reader.proofs.operand.take_values.Goals as goal
use Rattle.mcs_reader.proofs.operand.take_values.Goals.{in-Some, in-None}

pub returns-clause-ok : goal.returns-clause-ok
returns-clause-ok c =
    let name = c.args.name.now in
    let list = c.in_ok-values.field-0 in
    let values_are : unwrap_or list [] ≡ c.match-branch-2.result =
    elim c.match-branch-2.branch [
      | in-Some w ↦ ap (λ o. unwrap_or o []) w.in-Some.is ∙ sym w.result-is
      | in-None w ↦ ap (λ o. unwrap_or o []) w.in-None.is ∙ sym (w.result-is ∙ w.from_vec.ensures ∙ ap bytes_of_each w.new.ensures.items)
    ] in
    ap (on_found (with_name name)) c.in_ok-values.ensures.ok
    ∙ operand_found name list c.match-branch-2.result (scan c.args.line 0 no_name false c.take_list.new.cursor.text)
    (no_list_unnamed c.args.line false c.take_list.new.cursor.text) values_are
