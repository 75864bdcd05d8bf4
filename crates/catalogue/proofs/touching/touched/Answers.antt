use Rattle.std.proofs.Common.{sym, ◌∙◌, ap, subst}
use Rattle.std.specs.Prelude.{Contains, ◌↔◌}
use Rattle.std.specs.List.{flat_map}
use Rattle.std.proofs.lemmas.List.{take_all}
use Rattle.catalogue.specs.Ids.{in_order}
use Rattle.catalogue.specs.Touched.{IsTouched, touched_by}
use Rattle.catalogue.proofs.IdFacts.{in_order_has}
use Rattle.catalogue.proofs.SourceFacts.{no_fault, told_both, told_later, told_so, told_sooner}
use Rattle.catalogue.proofs.TouchingFacts.{touched_more}
use Rattle.catalogue.proofs.TouchedFacts.{touches_all}
use Rattle.catalogue.proofs.touching.touched.Goals as goal

pub loop-change-preserved : goal.loop-change-preserved
loop-change-preserved g c =
    let law = g.met.P.Published in
    let sooner = law.lawful.keeps _ _ c.loop-change.invariant.keeps in
    let later = law.lawful.keeps _ _ c.in_ok-touch_by.ensures.asks.keeps in
    let both = told_both (told_sooner c.loop-change.invariant.told later) (told_later sooner later c.in_ok-touch_by.ensures.touched) in
    record {
      keeps = law.lawful.on _ _ _ c.loop-change.invariant.keeps c.in_ok-touch_by.ensures.asks.keeps;
      still_open = λ standing. c.in_ok-touch_by.ensures.asks.stays_open (no_fault _) (c.loop-change.invariant.still_open standing);
      told = told_so both (λ content facts.
          touched_more content c.args.changes.now c.loop-change.change-index c.change-item.result c.loop-change.ids.keys c.touch_by.new.ids.keys
          c.loop-change-test.true c.change-item.is facts.0 facts.1);
    }

pub returns-clause-touched : goal.returns-clause-touched
returns-clause-touched g c =
    told_so c.loop-change.invariant.told (λ content is.
    c.in_ok-listed.ensures.ids ∙ is
    ∙ ap (λ changes. in_order (flat_map (touched_by content) changes)) (take_all c.loop-change.change-index c.args.changes.now c.loop-change-test.false))

pub returns-clause-each : goal.returns-clause-each
returns-clause-each g c =
    told_so (returns-clause-touched g c) (λ content is id.
    subst (λ ids. Contains ids id ↔ IsTouched content c.args.changes.now id) (sym is) (in_order_has (flat_map (touched_by content) c.args.changes.now) id))

pub returns-clause-touches_all : goal.returns-clause-touches_all
returns-clause-touches_all g c = touches_all

pub returns-in_err-touch_by-clause-touches_all : goal.returns-in_err-touch_by-clause-touches_all
returns-in_err-touch_by-clause-touches_all g c = touches_all

pub returns-in_err-listed-clause-touches_all : goal.returns-in_err-listed-clause-touches_all
returns-in_err-listed-clause-touches_all g c = touches_all
