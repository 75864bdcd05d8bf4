use Rattle.std.proofs.Common.{◌∙◌, ◌++◌, [], ap, option_map}
use Rattle.std.specs.Borrow.{Bor}
use Rattle.std.specs.List.{cons_option}
use Rattle.holddata.specs.declared.hold.Hold.{Hold}
use Rattle.reports.specs.Found.{found_with, named_by, resolved_by}
use Rattle.reports.proofs.ResolverFacts.{filter_map_more, named_asked}
use Rattle.reports.proofs.resolvers.found_answered.Goals as goal

pub loop-hold-preserved : goal.loop-hold-preserved
loop-hold-preserved c = λ content rows are asked.
    let by = c.args.by in
    let holds = c.args.holds.now in
    let i = c.loop-hold.hold-index in
    let hold = c.hold-item.result in
    let ids = c.in_ok-ids.ensures content rows are (λ id named. named_asked (λ (hold : Bor Hold). named_by by hold.now) holds i hold c.args.asked.now id c.loop-hold-test.true c.hold-item.is asked named) in
    filter_map_more (λ (hold : Bor Hold). option_map (found_with hold.now) (resolved_by by content rows hold.now)) holds i hold c.loop-hold.found.items c.put_found.new.found.items c.loop-hold-test.true c.hold-item.is
    (c.loop-hold.invariant content rows are asked)
    (c.in_ok-put_found.ensures ∙ ap (λ o. c.loop-hold.found.items ++ cons_option (option_map (found_with hold.now) o) []) ids)
