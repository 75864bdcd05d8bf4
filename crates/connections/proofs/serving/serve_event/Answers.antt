use Rattle.connections.specs.Items.{event_of, slot_of}
use Rattle.connections.proofs.MemoryFacts.{reply_counted}
use Rattle.connections.proofs.SideFacts.{onward_same}
use Rattle.connections.proofs.serving.serve_event.Goals as goal

pub returns : goal.returns
returns g c = record {
  onward = onward_same g.D.Desk.tables_view c.args.desk.now c.tell.new.desk (event_of c.args.event.now) c.args.connections.now c.tell.new.connections c.give_back.new.self
      c.tell.ensures.onward c.give_back.ensures.slots c.give_back.ensures.within;
  replies = reply_counted c.slot.result (slot_of (event_of c.args.event.now)) c.args.connections.now c.tell.new.connections c.give_back.new.self c.tell.ensures.replies c.slot.ensures c.give_back.ensures.replies;
}
