use Rattle.std.proofs.Common.{◌≡◌, ℕ, List, false, subst}
use Rattle.std.specs.List.{filter_map, list_any}
use Rattle.mcs_reader.specs.Id.{id_of}
use Rattle.catalogue.specs.Ids.{put_among}
use Rattle.catalogue.specs.Reading.{is_no_id}
use Rattle.catalogue.proofs.HeaderFacts.{puts_operand}
use Rattle.catalogue.proofs.header.put_named.Goals as goal

pub loop-operand-preserved : goal.loop-operand-preserved
loop-operand-preserved c =
    puts_operand c.args.name.now c.args.operands.now c.loop-operand.operand-index c.operand-item.result _ _ _
    c.loop-operand-test.true c.operand-item.is c.loop-operand.invariant
    (subst (λ (values : List (List ℕ)). c.put_values.new.ids.keys ≡ put_among c.loop-operand.ids.keys (filter_map id_of values)) c.values_named.ensures c.in_ok-put_values.ensures.ids)
    (subst (λ (values : List (List ℕ)). list_any is_no_id values ≡ false) c.values_named.ensures c.in_ok-put_values.ensures.no_fault)
