use Rattle.std.proofs.Common.{map}
use Rattle.bureau_http.proofs.NextFacts.{acts_once}
use Rattle.connections.specs.Items.{event_of}
use Rattle.connections.proofs.MemoryFacts.{memory}
use Rattle.connections.proofs.SideFacts.{lawful_side}
use Rattle.connections.proofs.serving.serve_events.Goals as goal

pub returns-clause-served : goal.returns-clause-served
returns-clause-served g c =
    lawful_side g.D.Desk.tables_view c.args.desk.now c.go_through.new.desk c.later_bytes.ensures c.isolation.ensures.alone c.isolation.ensures.alike
    (acts_once c.repeats.ensures.once c.repeats.ensures.stale) (map event_of c.args.events.now) c.args.connections.now c.go_through.new.connections c.go_through.ensures.onward

pub returns-clause-memory : goal.returns-clause-memory
returns-clause-memory g c within = memory c.args.connections.now c.go_through.new.connections c.go_through.ensures.onward.within c.add_up.ensures within
