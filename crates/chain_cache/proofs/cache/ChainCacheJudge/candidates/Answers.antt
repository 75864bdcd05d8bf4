use Rattle.std.proofs.Common.{subst, sym}
use Rattle.lemmas.proofs.ResultFacts.{ok_so}
use Rattle.catalogue.proofs.SourceFacts.{told_sooner}
use Rattle.catalogue.proofs.TellingFacts.{told_by_two}
use Rattle.chain_cache.specs.Cache.{AreSurveys, CacheLists}
use Rattle.chain_cache.proofs.cache.ChainCacheJudge.candidates.Goals as goal

pub returns-clause-candidates : goal.returns-clause-candidates
returns-clause-candidates g c =
    let law = g.met.P.Published.lawful in
    ok_so c.candidates.result c.candidates.ensures.candidates (λ found tells.
    told_by_two (law.keeps _ _ c.in_ok-read_for_many.ensures.asks.keeps) (law.keeps _ _ c.candidates.ensures.asks.keeps) c.in_ok-read_for_many.ensures.right tells (λ content right are. λ were.
    let P : CacheLists → Type 0 = λ cache. AreSurveys content cache.surveys in
    are (subst P (sym c.self.view_is) (right were).surveys)))

pub returns-clause-right : goal.returns-clause-right
returns-clause-right g c =
    told_sooner c.in_ok-read_for_many.ensures.right (g.met.P.Published.lawful.keeps _ _ c.candidates.ensures.asks.keeps)
