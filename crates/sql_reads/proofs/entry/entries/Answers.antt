use Rattle.std.proofs.Common.{◌≡◌, None, rules}
use Rattle.sql_reads.proofs.UnsaidFacts.{disordered}
use Rattle.sql_reads.proofs.entry.entries.Goals as goal

pub returns-in-Ok-clause-unsaid : goal.returns-in-Ok-clause-unsaid
returns-in-Ok-clause-unsaid g c device entries said ascend =
    let none : c.ascending.result ≡ None = search (device, c.ok_or.ensures, rules) in
    disordered g.E.Entry.found g.E.Ordered.ascend c.args.rows.now c.in-Ok.entries.items entries c.in-Ok.ensures.said (c.ascending.ensures.none none) said ascend
