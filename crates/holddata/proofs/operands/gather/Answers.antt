use Rattle.std.proofs.Common.{codes, subst, ◌++◌, ◌∙◌, ap}
use Rattle.std.specs.Option.{option_to_list}
use Rattle.mcs_reader.specs.Operand.{operand_text}
use Rattle.holddata.specs.Operands.{kinds_of}
use Rattle.holddata.specs.Given.{Shows, ShowsKinds}
use Rattle.holddata.proofs.OperandFacts.{kinds_then, values_then}
use Rattle.holddata.proofs.operands.gather.Goals as goal

pub returns : goal.returns
returns c seen given =
    let operand = operand_text c.args.operand.now in
    record {
      kinds =
          subst (ShowsKinds c.with_kind-given.result) (ap (λ kind. kinds_of seen ++ option_to_list kind) c.kind_named.ensures ∙ kinds_then seen operand)
          (c.with_kind-given.ensures (kinds_of seen) given.kinds);
      reason = subst (Shows c.with_named-given.result) (values_then (codes "REASON") seen operand) (c.with_named-given.ensures _ given.reason);
      fmid = subst (Shows c.with_named-given-2.result) (values_then (codes "FMID") seen operand) (c.with_named-given-2.ensures _ given.fmid);
      class = subst (Shows c.with_named-given-3.result) (values_then (codes "CLASS") seen operand) (c.with_named-given-3.ensures _ given.class);
      resolver = subst (Shows c.with_named-given-4.result) (values_then (codes "RESOLVER") seen operand) (c.with_named-given-4.ensures _ given.resolver);
      date = subst (Shows c.with_named-given-5.result) (values_then (codes "DATE") seen operand) (c.with_named-given-5.ensures _ given.date);
      category = subst (Shows c.with_named-given-6.result) (values_then (codes "CATEGORY") seen operand) (c.with_named-given-6.ensures _ given.category);
    }
