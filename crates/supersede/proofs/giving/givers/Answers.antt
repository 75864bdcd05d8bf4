use Rattle.std.proofs.Common.{◌∙◌, filter, sym, ap, subst}
use Rattle.std.proofs.lemmas.List.Kept.{IsStrictlySortedBy-filter}
use Rattle.catalogue.specs.Ids.{Ascend, id_cmp}
use Rattle.catalogue.proofs.SourceFacts.{no_fault, told_so}
use Rattle.supersede.specs.Reach.{is_other}
use Rattle.supersede.proofs.ReachFacts.{each_gives, reach_but_itself, reach_whole}
use Rattle.catalogue.proofs.TellingFacts.{told_in_order_by_two}
use Rattle.supersede.proofs.giving.givers.Goals as goal

pub returns-in-Some-clause-givers : goal.returns-in-Some-clause-givers
returns-in-Some-clause-givers g c =
    let law = g.met.P.Published in
    told_in_order_by_two law.in_order (law.lawful.keeps _ _ c.in_ok-found.ensures.asks.keeps) (law.lawful.keeps _ _ c.sysmod.ensures.asks.keeps) (c.in_ok-sysmod.ensures.asks.is_open (no_fault _))
    c.in_ok-found.ensures.reach c.in_ok-sysmod.ensures.sysmod (λ content ordered reached told.
    reach_whole content ordered.sysmods c.in_ok-found.found.items c.args.id.now c.in_ok-found.ensures.ascend (reached ordered.sysmods) c.in-Some.field-0 (sym c.in-Some.is ∙ told))

pub returns-in_ok-others-in-None-clause-givers : goal.returns-in_ok-others-in-None-clause-givers
returns-in_ok-others-in-None-clause-givers g c =
    let law = g.met.P.Published in
    told_in_order_by_two law.in_order (law.lawful.keeps _ _ c.in_ok-found.ensures.asks.keeps) (law.lawful.keeps _ _ c.sysmod.ensures.asks.keeps) (c.in_ok-sysmod.ensures.asks.is_open (no_fault _))
    c.in_ok-found.ensures.reach c.in_ok-sysmod.ensures.sysmod (λ content ordered reached told.
    c.in_ok-others-in-None.ensures ∙ ap (filter (is_other c.args.id.now)) c.deref.ensures.value
    ∙ reach_but_itself content ordered.sysmods c.in_ok-found.found.items c.args.id.now c.in_ok-found.ensures.ascend (reached ordered.sysmods) (sym c.in-None.is ∙ told))

pub returns-in_ok-others-in-None-clause-ascend : goal.returns-in_ok-others-in-None-clause-ascend
returns-in_ok-others-in-None-clause-ascend g c =
    subst Ascend (sym (c.in_ok-others-in-None.ensures ∙ ap (filter (is_other c.args.id.now)) c.deref.ensures.value))
    (IsStrictlySortedBy-filter id_cmp (is_other c.args.id.now) c.in_ok-found.found.items c.in_ok-found.ensures.ascend)

pub returns-in-Some-clause-each : goal.returns-in-Some-clause-each
returns-in-Some-clause-each g c =
    told_so (returns-in-Some-clause-givers g c) (λ content are giver. each_gives content c.in_ok-found.found.items c.args.id.now giver are)

pub returns-in_ok-others-in-None-clause-each : goal.returns-in_ok-others-in-None-clause-each
returns-in_ok-others-in-None-clause-each g c =
    told_so (returns-in_ok-others-in-None-clause-givers g c) (λ content are giver. each_gives content c.in_ok-others-in-None.field-0.items c.args.id.now giver are)
