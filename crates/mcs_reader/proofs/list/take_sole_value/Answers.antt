use Rattle.std.proofs.Common.{[], ◌∷◌, ◌++◌, false, option_map, ◌∙◌, ap, arith}
use Rattle.mcs_reader.specs.Pieces.{no_name}
use Rattle.mcs_reader.specs.Scan.{on_found, scan, with_values}
use Rattle.mcs_reader.proofs.AloneFacts.{not_nil, on_found-list, sole_first}
use Rattle.mcs_reader.proofs.ScanPiecesFacts.{on_found-values}
use Rattle.mcs_reader.proofs.ScanPositionFacts.{IsAfter-trans}
use Rattle.mcs_reader.proofs.list.take_sole_value.Goals as goal

pub others-preserved : goal.others-preserved
others-preserved c =
    let others = c.others.invariant.0 in
    let kept = c.others.invariant.1 in
    let given = rw c.in-Some-2.is at c.in_ok-next_value.ensures.ok in
    let value = c.in-Some-2.field-0.now in
    let now = c.next_value-in-others.new in (
      others ++ value ∷ [],
      record {
        found =
            kept.found
            ∙ ap (on_found (with_values (c.in-Some.first.now ∷ others))) given.found
            ∙ on_found-values (c.in-Some.first.now ∷ others) (value ∷ []) (scan c.args.line now.depth no_name false now.cursor.text);
        alone_is = not_nil others value;
        still_open = given.still_open;
        no_deeper = omega (arith, kept.no_deeper, given.no_deeper);
        after = IsAfter-trans now.cursor c.others.cursor c.args.cursor.now c.in_ok-next_value.ensures.after kept.after;
      },
    )

pub returns-clause-ok : goal.returns-clause-ok
returns-clause-ok c =
    let others = c.others.invariant.0 in
    let kept = c.others.invariant.1 in
    let first = c.in-Some.first in
    let closed = rw c.in_default-2.is at c.in_ok-next_value.ensures.ok in
    record {
      values = first.now ∷ others;
      found =
          kept.found
          ∙ ap (on_found (with_values (first.now ∷ others))) closed
          ∙ on_found-list (first.now ∷ others) (scan c.args.line 0 no_name false c.next_value-in-others.new.cursor.text);
      value_is = ap (option_map (λ v. v.now)) c.then_some.ensures ∙ sole_first c.others.alone first others kept.alone_is;
    }
