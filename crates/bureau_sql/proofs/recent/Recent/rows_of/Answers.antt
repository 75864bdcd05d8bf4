use Rattle.std.proofs.Common.{ap, refl, subst}
use Rattle.std.specs.Global.{Vec}
use Rattle.zone_lists.specs.declared.zones.ZoneRow.{ZoneRow}
use Rattle.bureau_sql.specs.Recent.{HasNoMore, RecentLists}
use Rattle.bureau_sql.proofs.RecentFacts.{read_before}
use Rattle.bureau_sql.proofs.recent.Recent.rows_of.Goals as goal

pub returns-clause-read : goal.returns-clause-read
returns-clause-read c =
    read_before (λ (rows : Vec ZoneRow). record { client = c.args.client.now; zone = c.args.zone.now; rows = rows.items }) c.self.inside.rows c.use_now.new.self c.args.self.now.rows (ap (λ (it : RecentLists). it.rows) c.self.view_is) c.use_now.ensures c.rows_kept.result c.rows_kept.ensures.read

pub returns-clause-fewer : goal.returns-clause-fewer
returns-clause-fewer c =
    let left : RecentLists = record { tokens = c.self.inside.tokens; zones = c.self.inside.zones; rows = c.use_now.new.self; counts = c.self.inside.counts; book = c.self.inside.book } in
    subst (λ it. HasNoMore it left) c.self.view_is (record { tokens = λ read inside. inside; zones = λ read inside. inside; rows = c.use_now.ensures; counts = refl; book = refl })
