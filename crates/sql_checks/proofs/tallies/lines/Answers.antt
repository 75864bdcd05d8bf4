use Rattle.std.proofs.Common.{◌≡◌, ◌+◌, ◌++◌, ◌∷◌, ◌∙◌, [], Ok, Err, IfErr, ap, rules, subst, sym, take}
use Rattle.std.proofs.lemmas.List.{take_all, take_more}
use Rattle.bureau_store.specs.declared.caller.CallerRow.{CallerRow}
use Rattle.sqlite.specs.Held.{state}
use Rattle.sqlite.specs.State.{HasCleanDisk}
use Rattle.sql_reads.specs.declared.fault.ReadFault.TheVariants.{Device, Memory}
use Rattle.sql_checks.specs.Checked.{Looks}
use Rattle.sql_checks.specs.Refused.{AreUntallied, IsCausedBy}
use Rattle.sql_checks.specs.Tally.{HasTallied}
use Rattle.sql_checks.proofs.TallyFacts.{all_tallied, in_list, none_tallied, one_more, one_untallied, refused_later}
use Rattle.sql_checks.proofs.tallies.lines.Goals as goal

pub loop-caller-init : goal.loop-caller-init
loop-caller-init g c = record {
  looks = none_tallied (state g.S.Store c.args.conn.now) c.in_ok-lines.lines.items c.in_ok-lines.ensures.items;
  mode = c.requires.rest;
}

pub loop-caller-preserved : goal.loop-caller-preserved
loop-caller-preserved g c =
    let at = c.loop-caller.caller-index in
    let callers = c.args.callers.now in
    let caller = c.caller-item.result in
    let next : take (at + 1) callers ≡ take at callers ++ caller ∷ [] = take_more callers at caller c.loop-caller-test.true ∙ ap (λ (one : CallerRow). take at callers ++ one ∷ []) (sym c.caller-item.is) in
    record {
      looks = one_more (state g.S.Store c.args.conn.now) (state g.S.Store c.loop-caller.conn) (state g.S.Store c.caller_tally.new.conn) callers at caller c.loop-caller.lines.items c.push.new.self.items
          c.in_ok-has.has next c.loop-caller.invariant.looks c.in_ok-has.ensures.finds c.in_ok-push.ensures.items;
      mode = c.in_ok-has.ensures.mode;
    }

pub returns-in_err-has-clause-looks : goal.returns-in_err-has-clause-looks
returns-in_err-has-clause-looks g c =
    let is : c.from_residual-in_err-has.result ≡ Err c.in_err-has.field-0.0 = search (rules, c.from_residual-in_err-has.ensures) in
    subst (λ result. Looks (state g.S.Store c.args.conn.now) (state g.S.Store c.caller_tally.new.conn) result (λ database lines. HasTallied c.args.callers.now database lines.items)) (sym is)
    (refused_later (state g.S.Store c.args.conn.now) (state g.S.Store c.loop-caller.conn) (state g.S.Store c.caller_tally.new.conn) c.in_err-has.field-0.0 _ c.loop-caller.invariant.looks.reads
    c.in_err-has.ensures.finds.reads)

pub returns-in_err-has-clause-cause : goal.returns-in_err-has-clause-cause
returns-in_err-has-clause-cause g c =
    let old = state g.S.Store c.args.conn.now in
    let new = state g.S.Store c.caller_tally.new.conn in
    let is : c.from_residual-in_err-has.result ≡ Err c.in_err-has.field-0.0 = search (rules, c.from_residual-in_err-has.ensures) in
    subst (λ result. IfErr result (λ fault. fault ≡ Device → HasCleanDisk new → IsCausedBy (AreUntallied c.args.callers.now) old new)) (sym is)
    (one_untallied old (state g.S.Store c.loop-caller.conn) new c.args.callers.now c.loop-caller.caller-index c.caller-item.result c.in_err-has.field-0.0 c.loop-caller-test.true c.caller-item.is
    c.loop-caller.invariant.looks.reads c.loop-caller.invariant.looks.is_open c.in_err-has.ensures.finds.reads c.in_err-has.ensures.cause)

pub returns-in_err-push-clause-looks : goal.returns-in_err-push-clause-looks
returns-in_err-push-clause-looks g c =
    let is : c.from_residual-in_err-push.result ≡ Err Memory = search (rules, c.from_residual-in_err-push.ensures) in
    subst (λ result. Looks (state g.S.Store c.args.conn.now) (state g.S.Store c.caller_tally.new.conn) result (λ database lines. HasTallied c.args.callers.now database lines.items)) (sym is)
    (refused_later (state g.S.Store c.args.conn.now) (state g.S.Store c.loop-caller.conn) (state g.S.Store c.caller_tally.new.conn) Memory _ c.loop-caller.invariant.looks.reads
    c.in_ok-has.ensures.finds.reads)

pub returns-clause-looks : goal.returns-clause-looks
returns-clause-looks g c =
    in_list (state g.S.Store c.args.conn.now) (state g.S.Store c.loop-caller.conn) c.args.callers.now c.loop-caller.lines
    (all_tallied (state g.S.Store c.args.conn.now) (state g.S.Store c.loop-caller.conn) c.args.callers.now (take c.loop-caller.caller-index c.args.callers.now) (Ok c.loop-caller.lines.items)
    (take_all c.loop-caller.caller-index c.args.callers.now c.loop-caller-test.false) c.loop-caller.invariant.looks)
