use Rattle.std.proofs.Common.{inr, [], ◌∷◌, ◌++◌, false, unwrap_or, length, refl, sym, ◌∙◌, ap, append-nil, arith}
use Rattle.std.proofs.lemmas.List.{map-append}
use Rattle.std.proofs.lemmas.Result.{err_from_is_err_and}
use Rattle.mcs_reader.specs.Operand.{operand_text, operand_texts}
use Rattle.mcs_reader.specs.OperandText.{OperandText}
use Rattle.mcs_reader.specs.Pieces.{named_before, no_name}
use Rattle.mcs_reader.specs.Scan.{on_found, scan, with_name}
use Rattle.mcs_reader.proofs.GatheredFacts.{named, refusal_on, unwanted_for, wanted_for}
use Rattle.mcs_reader.proofs.OutsideFacts.{no_list_unnamed, operand_found, outside_name}
use Rattle.mcs_reader.proofs.operand.gather_operand.Goals as goal

pub returns-in_err-values-clause-fault : goal.returns-in_err-values-clause-fault
returns-in_err-values-clause-fault c =
    let p = err_from_is_err_and c.from_residual.result c.from_residual.ensures.1 in
    let name = c.take_name-name.result.now in
    let moved = c.take_name-name.new.self.text in
    rw (p.1, p.2)
    (refusal_on (scan c.args.line 0 no_name false c.args.cursor.now.text) (scan c.args.line 0 (named_before name) false moved) (with_name name) c.in_err-values.field-0.0
    (named c.args.line c.args.cursor.now.text name moved c.requires.name c.take_name-name.ensures.name c.take_name-name.ensures.text)
    c.in_err-values.ensures.fault)

pub returns-in_err-pass_list-clause-fault : goal.returns-in_err-pass_list-clause-fault
returns-in_err-pass_list-clause-fault c =
    let p = err_from_is_err_and c.from_residual-in_err-pass_list.result c.from_residual-in_err-pass_list.ensures.1 in
    rw (p.1, p.2) (inr
    (named c.args.line c.args.cursor.now.text c.take_name-name.result.now c.take_name-name.new.self.text c.requires.name c.take_name-name.ensures.name c.take_name-name.ensures.text
    ∙ ap (on_found (with_name c.take_name-name.result.now)) c.in_err-pass_list.ensures.fault))

pub returns-in_ok-push-clause-ok : goal.returns-in_ok-push-clause-ok
returns-in_ok-push-clause-ok c =
    let before = c.args.scratch.now.operands.items in
    let operand : OperandText = record { name = c.take_name-name.result.now; values = c.in_ok-values.values } in
    record {
      operand = operand;
      found =
          named c.args.line c.args.cursor.now.text c.take_name-name.result.now c.take_name-name.new.self.text c.requires.name c.take_name-name.ensures.name c.take_name-name.ensures.text
          ∙ c.in_ok-values.ensures.ok;
      gathered =
          ap operand_texts c.in_ok-push.ensures.items
          ∙ map-append operand_text before (_ ∷ [])
          ∙ ap (λ texts. operand_texts before ++ texts) (sym (wanted_for c.args.asked operand (sym (c.asks_for.ensures operand.values) ∙ c.if-asks_for.true)));
    }

pub returns-in_ok-push-clause-shorter : goal.returns-in_ok-push-clause-shorter
returns-in_ok-push-clause-shorter c =
    let shorter = (outside_name c.args.line no_name c.args.cursor.now.text c.requires.name).1 in
    let size = ap length c.take_name-name.ensures.text in
    omega (arith, shorter, size, c.in_ok-values.ensures.after.text)

pub returns-in_ok-pass_list-clause-ok : goal.returns-in_ok-pass_list-clause-ok
returns-in_ok-pass_list-clause-ok c =
    let before = operand_texts c.args.scratch.now.operands.items in
    let name = c.take_name-name.result.now in
    let passed = c.in_ok-pass_list.ensures.ok in
    let operand : OperandText = record { name = name; values = unwrap_or passed.list [] } in
    record {
      operand = operand;
      found =
          named c.args.line c.args.cursor.now.text name c.take_name-name.new.self.text c.requires.name c.take_name-name.ensures.name c.take_name-name.ensures.text
          ∙ ap (on_found (with_name name)) passed.found
          ∙ operand_found name passed.list operand.values (scan c.args.line 0 no_name false c.pass_list.new.cursor.text)
          (no_list_unnamed c.args.line false c.pass_list.new.cursor.text) refl;
      gathered =
          sym (append-nil before)
          ∙ ap (λ texts. before ++ texts) (sym (unwanted_for c.args.asked operand (sym (c.asks_for.ensures operand.values) ∙ c.if-asks_for.false)));
    }

pub returns-in_ok-pass_list-clause-shorter : goal.returns-in_ok-pass_list-clause-shorter
returns-in_ok-pass_list-clause-shorter c =
    let shorter = (outside_name c.args.line no_name c.args.cursor.now.text c.requires.name).1 in
    let size = ap length c.take_name-name.ensures.text in
    omega (arith, shorter, size, c.in_ok-pass_list.ensures.after.text)
