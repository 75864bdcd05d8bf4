use Rattle.std.proofs.Common.{◌∙◌, ℕ, List, ap, get_or, length, replicate, take, arith}
use Rattle.requisites.specs.Rows.{blank_rows}
use Rattle.requisites.proofs.RowsFacts.{blank_taken, ends_pushed, rows_pushed}
use Rattle.requisites.proofs.rows.Rows.blank.Goals as goal

pub loop-count-preserved : goal.loop-count-preserved
loop-count-preserved c =
    let i = c.loop-count.count-index in
    let own : List ℕ = replicate (get_or c.args.counts.now i 0) 0 in
    record {
      ends = ends_pushed c.loop-count.entries.items own c.loop-count.ends.items c.push_blanks.new.entries.items c.push.new.self.items c.in_ok-end.end
          c.loop-count.invariant.ends c.in_ok-push_blanks.ensures (omega (arith, c.in_ok-end.ensures, ap length c.deref.ensures.value)) c.in_ok-push.ensures.items;
      rows = rows_pushed c.loop-count.entries.items own c.loop-count.ends.items c.push_blanks.new.entries.items c.push.new.self.items c.in_ok-end.end (blank_rows (take i c.args.counts.now))
          c.loop-count.invariant.ends c.loop-count.invariant.rows c.in_ok-push_blanks.ensures (omega (arith, c.in_ok-end.ensures, ap length c.deref.ensures.value)) c.in_ok-push.ensures.items
          ∙ blank_taken c.args.counts.now i (omega arith);
    }
