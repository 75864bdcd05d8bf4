use Rattle.bureau_http.proofs.ReplayFacts.{replayed}
use Rattle.bureau_http.proofs.replaying.replay.Goals as goal

pub returns-clause-replayed : goal.returns-clause-replayed
returns-clause-replayed g c = λ rights.
    replayed _ c.serve_rows.result _ _ c.in_ok-rows.rows.items _ c.as_slice.ensures.value c.in_ok-rows.ensures.rows (c.serve_rows.ensures.served rights)
