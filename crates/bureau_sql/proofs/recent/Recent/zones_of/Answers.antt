use Rattle.std.proofs.Common.{ℕ, List, ap, refl, subst}
use Rattle.std.specs.Global.{Vec}
use Rattle.bureau_sql.specs.Recent.{HasNoMore, RecentLists}
use Rattle.bureau_sql.proofs.RecentFacts.{read_before}
use Rattle.bureau_sql.proofs.recent.Recent.zones_of.Goals as goal

pub returns-clause-read : goal.returns-clause-read
returns-clause-read c =
    read_before (λ (zones : Vec (List ℕ × ℕ)). record { client = c.args.client.now; zones = zones.items }) c.self.inside.zones c.use_now.new.self c.args.self.now.zones (ap (λ (it : RecentLists). it.zones) c.self.view_is) c.use_now.ensures c.zones_kept.result c.zones_kept.ensures.read

pub returns-clause-fewer : goal.returns-clause-fewer
returns-clause-fewer c =
    let left : RecentLists = record { tokens = c.self.inside.tokens; zones = c.use_now.new.self; rows = c.self.inside.rows; counts = c.self.inside.counts; book = c.self.inside.book } in
    subst (λ it. HasNoMore it left) c.self.view_is (record { tokens = λ read inside. inside; zones = c.use_now.ensures; rows = λ read inside. inside; counts = refl; book = refl })
