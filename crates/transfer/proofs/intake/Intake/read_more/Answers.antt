use Rattle.std.proofs.Common.{◌++◌, take, drop, ap, ◌∙◌}
use Rattle.transfer.proofs.IntakeFacts.{view_of_grown, length_of_read}
use Rattle.transfer.proofs.intake.Intake.read_more.Goals as goal

pub returns-clause-bytes : goal.returns-clause-bytes
returns-clause-bytes g c =
    let read = c.in_ok-count.ensures in
    let new = c.read_into_room.new.room.items in
    let end = c.self.inside.end in
    record {
      bytes = take c.in_ok-count.count (drop end new);
      count = length_of_read new end c.in_ok-count.count read.fits;
      grown =
          view_of_grown c.self.inside.room.items new c.self.inside.start end c.in_ok-count.count c.self.invariant.0 read.fits read.kept
          ∙ ap (λ bytes. bytes ++ take c.in_ok-count.count (drop end new)) c.self.view_is;
      consumed = read.bytes;
    }
