use Rattle.sql_reads.proofs.CutFacts.{id_of_text, takes}
use Rattle.sql_reads.proofs.queue.Queue.take.Goals as goal

pub returns : goal.returns
returns g c =
    let t = g.T.Scanned in
    let text = c.as_bytes.ensures in
    takes t.scan_shown t.at c.place.result c.args.id.now c.as_bytes.result.now c.args.self.now.rows.now c.cut.result.0.now c.cut.result.1.now c.place.ensures text.value
    (id_of_text c.args.id.now c.as_bytes.result.now text.value text.allowed text.whole) c.cut.ensures
