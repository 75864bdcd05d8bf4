use Rattle.std.proofs.Common.{◌∙◌}
use Rattle.connections.specs.Items.{event_of}
use Rattle.connections.specs.declared.event.Told.TheVariants.{Done, Missed, Stray}
use Rattle.connections.proofs.SideFacts.{event_done, event_missed, event_stray, told_as}
use Rattle.connections.proofs.serving.tell.Goals as goal

pub returns-in-Done : goal.returns-in-Done
returns-in-Done g c = record {
  onward = event_done g.D.Desk.tables_view c.args.desk.now c.go_on.new.desk (event_of c.args.event.now) c.args.connections.now c.happens.new.self c.go_on.new.connections
      (told_as c.happens.result Done (event_of c.args.event.now) c.args.connections.now.slots.items c.happens.new.self.slots.items c.in-Done.is c.happens.ensures.told)
      c.happens.ensures.within c.go_on.ensures.goes c.go_on.ensures.so_far c.slot.ensures c.go_on.ensures.settled c.go_on.ensures.within;
  replies = c.go_on.ensures.replies ∙ c.happens.ensures.replies;
}

pub returns-in-Missed : goal.returns-in-Missed
returns-in-Missed g c = record {
  onward = event_missed g.D.Desk.tables_view c.args.desk.now (event_of c.args.event.now) c.args.connections.now c.happens.new.self
      (told_as c.happens.result Missed (event_of c.args.event.now) c.args.connections.now.slots.items c.happens.new.self.slots.items c.in-Missed.is c.happens.ensures.told)
      c.happens.ensures.within;
  replies = c.happens.ensures.replies;
}

pub returns-in-Stray : goal.returns-in-Stray
returns-in-Stray g c = record {
  onward = event_stray g.D.Desk.tables_view c.args.desk.now (event_of c.args.event.now) c.args.connections.now c.happens.new.self
      (told_as c.happens.result Stray (event_of c.args.event.now) c.args.connections.now.slots.items c.happens.new.self.slots.items c.in-Stray.is c.happens.ensures.told)
      c.happens.ensures.within;
  replies = c.happens.ensures.replies;
}
