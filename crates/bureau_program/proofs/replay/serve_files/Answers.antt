use Rattle.bureau_http.proofs.ReplayFacts.{untold}
use Rattle.bureau_program.proofs.ReplayFacts.{device_not_served, memory_not_served}
use Rattle.bureau_program.proofs.replay.serve_files.Goals as goal

pub returns-in-Ok-clause-served : goal.returns-in-Ok-clause-served
returns-in-Ok-clause-served g c = record {
  told = λ ours clean this stands. untold _ (λ at next calls run. run.run) _ _ _ (c.in-Ok.ensures.served.told ours clean this stands);
}

pub returns-then-device_failed-clause-fault : goal.returns-then-device_failed-clause-fault
returns-then-device_failed-clause-fault g c = device_not_served c.of_store.result c.of_store.ensures

pub returns-clause-fault : goal.returns-clause-fault
returns-clause-fault g c = memory_not_served c.in-Err.fault c.from.result c.from.ensures
