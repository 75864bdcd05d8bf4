use Rattle.std.proofs.Common.{inr, [], false, ◌∷◌, ◌++◌, Ok, Some, None, drop, sym, ◌∙◌, ap, append-nil}
use Rattle.mcs_reader.specs.Gathered.{operands_for}
use Rattle.mcs_reader.specs.Operand.{operand_texts}
use Rattle.mcs_reader.specs.Pieces.{no_name}
use Rattle.mcs_reader.specs.Scan.{on_found, scan, with_operands}
use Rattle.mcs_reader.proofs.GatheredFacts.{both_for, operands_then}
use Rattle.mcs_reader.proofs.OutsideFacts.{outside_period, outside_close, outside_else}
use Rattle.mcs_reader.proofs.ScanPositionFacts.{IsAfter-trans}
use Rattle.mcs_reader.proofs.operand.gather_operands.Goals as goal

pub names-preserved : goal.names-preserved
names-preserved c =
    let seen = c.names.invariant.0 in
    let kept = c.names.invariant.1 in
    let one = c.in_ok-gather_operand-in-Name.ensures.ok in
    let moved = c.gather_operand.new.cursor in (
      seen ++ one.operand ∷ [],
      record {
        found =
            kept.found
            ∙ ap (on_found (with_operands seen)) (c.in_ok-skip_gap.ensures.ok no_name ∙ one.found)
            ∙ operands_then seen (one.operand ∷ []) (scan c.args.line 0 no_name false moved.text);
        gathered =
            one.gathered ∙ ap (λ texts. texts ++ operands_for c.args.asked (one.operand ∷ [])) kept.gathered ∙ sym (both_for c.args.asked seen (one.operand ∷ []));
        after =
            IsAfter-trans moved c.skip_gap.new.cursor c.args.cursor.now c.in_ok-gather_operand-in-Name.ensures.after
            (IsAfter-trans c.skip_gap.new.cursor c.names.cursor c.args.cursor.now c.in_ok-skip_gap.ensures.after kept.after);
      },
    )

pub returns-in-Period-clause-ok : goal.returns-in-Period-clause-ok
returns-in-Period-clause-ok c =
    let seen = c.names.invariant.0 in
    let kept = c.names.invariant.1 in
    record {
      operands = seen;
      found =
          kept.found
          ∙ ap (on_found (with_operands seen))
          (c.in_ok-skip_gap.ensures.ok no_name
          ∙ outside_period c.args.line no_name c.skip_gap.new.cursor.text (c.in_ok-skip_gap.ensures.role ∙ ap (λ k. Some k) c.in-Period.is))
          ∙ ap (λ all. Ok (record { values = None; operands = all; rest = drop 1 c.skip_gap.new.cursor.text })) (append-nil seen)
          ∙ ap (λ rest. Ok (record { values = None; operands = seen; rest = rest })) (sym c.advance.ensures.text);
      gathered_are = c.from_vec.ensures ∙ ap operand_texts c.in_ok-take_gathered-in-Period.ensures ∙ kept.gathered;
    }

pub returns-in-Close-clause-fault : goal.returns-in-Close-clause-fault
returns-in-Close-clause-fault c = inr
    (c.names.invariant.1.found
    ∙ ap (on_found (with_operands c.names.invariant.0))
    (c.in_ok-skip_gap.ensures.ok no_name
    ∙ outside_close c.args.line no_name c.skip_gap.new.cursor.text (c.in_ok-skip_gap.ensures.role ∙ ap (λ k. Some k) c.in-Close.is)))

pub returns-in_default : goal.returns-in_default
returns-in_default c = record {
  ok = tt;
  fault = inr
      (c.names.invariant.1.found
      ∙ ap (on_found (with_operands c.names.invariant.0))
      (c.in_ok-skip_gap.ensures.ok no_name
      ∙ outside_else c.args.line c.skip_gap.new.cursor.text c.in_ok-skip_gap.field-0 c.in_ok-skip_gap.ensures.role c.in_ok-skip_gap.ensures.no_gap c.in_ok-skip_gap.ensures.no_comment
      c.in_default.not-Name c.in_default.not-Close c.in_default.not-Period));
  after = IsAfter-trans c.skip_gap.new.cursor c.names.cursor c.args.cursor.now c.in_ok-skip_gap.ensures.after c.names.invariant.1.after;
}
