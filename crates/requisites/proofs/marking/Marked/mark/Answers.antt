use Rattle.std.proofs.Common.{◌<◌, length, arith}
use Rattle.requisites.proofs.MarkingFacts.{marked_now}
use Rattle.requisites.proofs.marking.Marked.mark.Goals as goal

pub returns-in_ok-push : goal.returns-in_ok-push
returns-in_ok-push c =
    let inside : c.args.node < length c.args.self.now.marks.items = omega arith in
    marked_now c.args.node c.args.self.now.marks.items c.args.self.now.order.items c.push.new.self.items inside c.in_ok-push.ensures.items
