use Rattle.std.proofs.Common.{map, refl, sym, ap, ◌∙◌, subst, take, ◌+◌}
use Rattle.std.proofs.lemmas.List.{map-append, take_all}
use Rattle.bureau.proofs.KeptFacts.{idle}
use Rattle.bureau.specs.Kept.{IsKeptRun}
use Rattle.catalogue.proofs.SourceFacts.{goes_on, told_so}
use Rattle.catalogue.specs.View.{Tells}
use Rattle.bureau_http.specs.List.{AreServed, AreServedInPart, AreSoFar, IsOneCut, IsOneServed}
use Rattle.bureau_http.proofs.ListFacts.{all_served, as_cut, nothing}
use Rattle.bureau_http.proofs.NextFacts.{acts_once, cut_next, kept_known, kept_once, kept_plain, served_next}
use Rattle.bureau_http.proofs.list.serve_each.Goals as goal

pub returns-in_default-clause-served : goal.returns-in_default-clause-served
returns-in_default-clause-served g c = record {
  told = λ ours clean this stand.
      let view = g.D.Desk.tables_view in
      let desk = c.args.desk.now in
      let whole = IsKeptRun view desk desk in
      let all = map (λ t. t.items) c.args.connections.now in
      subst (AreServedInPart whole this all) (ap (map (λ t. t.items)) (sym c.new-written.ensures.items))
      (nothing whole (kept_plain view desk desk) (kept_once view desk desk (acts_once c.repeats.ensures.once c.repeats.ensures.stale)) this all
      c.isolation.ensures.alone c.isolation.ensures.alike (kept_known view desk desk g.met.D.Desk.tables_in_order ours this stand) (refl, idle view desk this stand));
}

pub returns-in_default-replies_to-clause-served : goal.returns-in_default-replies_to-clause-served
returns-in_default-replies_to-clause-served g c =
    let view = g.D.Desk.tables_view in
    let between = c.loop-connection.desk in
    let after = c.replies_to.new.desk in
    cut_next view c.args.desk.now between after c.loop-connection.invariant.goes c.replies_to.ensures.goes (λ v. v.items) c.args.connections.now
    (map (λ t. t.items) c.loop-connection.written.items) c.loop-connection.connection-index c.connection-item.result c.loop-connection-test.true c.connection-item.is c.loop-connection.invariant.so_far
    g.met.D.Desk.tables_in_order (acts_once c.repeats.ensures.once c.repeats.ensures.stale) c.isolation.ensures.alone c.isolation.ensures.alike
    (subst (λ b. Tells view between after (λ this. IsOneCut (IsKeptRun view between after) this b)) c.as_slice.ensures.value c.in_default-replies_to.ensures.cut)

pub returns-in-Err-clause-served : goal.returns-in-Err-clause-served
returns-in-Err-clause-served g c =
    let view = g.D.Desk.tables_view in
    let desk = c.args.desk.now in
    let between = c.loop-connection.desk in
    let after = c.replies_to.new.desk in
    let text = c.in-Ok-replies_to.text.items in
    subst (λ written. Tells view desk after (λ this. AreServedInPart (IsKeptRun view desk after) this (map (λ t. t.items) c.args.connections.now) written))
    (ap (map (λ t. t.items)) (sym c.in-Err.ensures.items))
    (cut_next view desk between after c.loop-connection.invariant.goes c.replies_to.ensures.goes (λ v. v.items) c.args.connections.now
    (map (λ t. t.items) c.loop-connection.written.items) c.loop-connection.connection-index c.connection-item.result c.loop-connection-test.true c.connection-item.is c.loop-connection.invariant.so_far
    g.met.D.Desk.tables_in_order (acts_once c.repeats.ensures.once c.repeats.ensures.stale) c.isolation.ensures.alone c.isolation.ensures.alike
    (told_so (subst (λ b. Tells view between after (λ this. IsOneServed (IsKeptRun view between after) this b text)) c.as_slice.ensures.value c.in-Ok-replies_to.ensures.served)
    (λ this one. as_cut (IsKeptRun view between after) this c.connection-item.result.items text one)))

pub loop-connection-preserved : goal.loop-connection-preserved
loop-connection-preserved g c =
    let view = g.D.Desk.tables_view in
    let desk = c.args.desk.now in
    let between = c.loop-connection.desk in
    let after = c.replies_to.new.desk in
    let text = c.in-Ok-replies_to.text.items in
    record {
      goes = goes_on c.loop-connection.invariant.goes c.replies_to.ensures.goes;
      so_far = subst (λ written. Tells view desk after (λ this. AreSoFar (IsKeptRun view desk after) this (map (λ t. t.items) (take (c.loop-connection.connection-index + 1) c.args.connections.now)) written))
          (sym (ap (map (λ t. t.items)) c.in-Ok-push.ensures.items ∙ map-append (λ t. t.items) c.loop-connection.written.items _))
          (served_next view desk between after c.loop-connection.invariant.goes c.replies_to.ensures.goes (λ v. v.items) c.args.connections.now
          (map (λ t. t.items) c.loop-connection.written.items) c.loop-connection.connection-index c.connection-item.result c.loop-connection-test.true c.connection-item.is c.loop-connection.invariant.so_far text
          (subst (λ b. Tells view between after (λ this. IsOneServed (IsKeptRun view between after) this b text)) c.as_slice.ensures.value c.in-Ok-replies_to.ensures.served));
    }

pub returns-clause-served : goal.returns-clause-served
returns-clause-served g c = record {
  told = λ ours clean this stand.
      let view = g.D.Desk.tables_view in
      let desk = c.args.desk.now in
      let between = c.loop-connection.desk in
      let whole = IsKeptRun view desk between in
      let texts = map (λ t. t.items) c.loop-connection.written.items in
      let so = c.loop-connection.invariant.so_far.told ours clean this stand in
      let all = ap (map (λ t. t.items)) (take_all c.loop-connection.connection-index c.args.connections.now c.loop-connection-test.false) in
      subst (λ cs. AreServed whole this cs texts) all
      (all_served whole (kept_plain view desk between) (kept_once view desk between (acts_once c.repeats.ensures.once c.repeats.ensures.stale)) this
      (map (λ t. t.items) (take c.loop-connection.connection-index c.args.connections.now)) texts c.isolation.ensures.alone c.isolation.ensures.alike
      (kept_known view desk between g.met.D.Desk.tables_in_order ours this stand) so);
}
