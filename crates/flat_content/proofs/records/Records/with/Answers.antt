use Rattle.std.proofs.Common.{◌++◌, ◌∷◌, [], List, sym, ◌∙◌, ap, subst}
use Rattle.catalogue.specs.declared.sysmod.Sysmod.{Sysmod}
use Rattle.flat_content.specs.Records.{AreHeads, records_of}
use Rattle.flat_content.proofs.HeadFacts.{heads_push, records_push}
use Rattle.flat_content.proofs.records.Records.with.Goals as goal

pub invariant_of-result : goal.invariant_of-result
invariant_of-result c =
    let old = c.self.inside in
    subst (AreHeads c.head_of.new.names.items c.head_of.new.all_conds.items) (sym c.in_ok-push.ensures.items)
    (heads_push old.names.items c.head_of.new.names.items old.conds.items c.head_of.new.all_conds.items c.in_ok-head.ensures.keeps c.in_ok-head.ensures.keeps_conds
    old.heads.items c.in_ok-head.head c.self.invariant c.in_ok-head.ensures.is_head)

pub returns : goal.returns
returns c =
    let old = c.self.inside in
    ap (records_of c.head_of.new.names.items c.head_of.new.all_conds.items) c.in_ok-push.ensures.items
    ∙ records_push old.names.items c.head_of.new.names.items old.conds.items c.head_of.new.all_conds.items c.in_ok-head.ensures.keeps c.in_ok-head.ensures.keeps_conds
    old.heads.items c.in_ok-head.head c.args.sysmod c.self.invariant c.in_ok-head.ensures.record
    ∙ ap (λ (xs : List Sysmod). xs ++ c.args.sysmod ∷ []) c.self.view_is
