use Rattle.bureau_http.proofs.ReplayFacts.{from_same}
use Rattle.bureau_http.proofs.replaying.serve_rows.Goals as goal

pub returns-clause-served : goal.returns-clause-served
returns-clause-served g c = λ rights. from_same _ _ _ _ _ c.in_ok-store.ensures.opened (c.serve_store.ensures.served rights)
