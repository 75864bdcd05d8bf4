use Rattle.std.proofs.Common.{ap, refl, subst}
use Rattle.bureau_sql.specs.Recent.{HasNoMore, RecentLists}
use Rattle.bureau_sql.proofs.RecentFacts.{read_before}
use Rattle.bureau_sql.proofs.recent.Recent.caller_of.Goals as goal

pub returns-clause-read : goal.returns-clause-read
returns-clause-read c =
    read_before (λ caller. record { token = c.args.token.now; caller = caller }) c.self.inside.tokens c.use_now.new.self c.args.self.now.tokens (ap (λ (it : RecentLists). it.tokens) c.self.view_is) c.use_now.ensures c.caller_kept.result c.caller_kept.ensures.read

pub returns-clause-fewer : goal.returns-clause-fewer
returns-clause-fewer c =
    let left : RecentLists = record { tokens = c.use_now.new.self; zones = c.self.inside.zones; rows = c.self.inside.rows; counts = c.self.inside.counts; book = c.self.inside.book } in
    subst (λ it. HasNoMore it left) c.self.view_is (record { tokens = c.use_now.ensures; zones = λ read inside. inside; rows = λ read inside. inside; counts = refl; book = refl })
