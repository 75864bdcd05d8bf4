use Rattle.std.proofs.Common.{ap, drop, sym, take-append-drop}
use Rattle.connections.proofs.connection.Connection.wrote.Goals as goal

pub returns : goal.returns
returns c =
    let self = c.args.self.now in (
      drop c.args.count self.out,
      sym (take-append-drop c.args.count self.out),
      ap (λ l. record { held = self.held; out = l; note = self.note; ordinal = self.ordinal; phase = self.phase }) c.wrote.ensures,
    )
