use Rattle.std.proofs.Common.{◌∙◌, Bool, List, ℕ, ap, ap₂, cond}
use Rattle.sqlite_disk.specs.Events.{Event, replay}
use Rattle.sqlite_wal.specs.Recovery.{Image}
use Rattle.store_runs.proofs.EndFacts.{fresh_only, memory_or_device, refused_by, told_why}
use Rattle.bureau_main.proofs.stores.StoreFilesStores.connect.Goals as goal

abbrev image : List ℕ → List ℕ → Image
image log db = record { log = log; db = db }

abbrev held : List ℕ → List ℕ → Bool → List ℕ
held log db is_log = cond is_log log db

abbrev seen : List ℕ → List ℕ → Bool → List Event → List ℕ
seen log db is_log history = (replay (cond is_log log db) history).seen

pub returns-in-Err-default-Some-clause-refused : goal.returns-in-Err-default-Some-clause-refused
returns-in-Err-default-Some-clause-refused g c =
    let from = g.D.Start in
    let h = rw c.in-Err-default-Some.field-0-1-is at c.in-Err-default-Some.ensures.cause in
    refused_by _ _ _ _ (memory_or_device _ _ c.fault_of.ensures) (record {
      files = h.0;
      seen = ap₂ image (ap₂ (seen from.log from.db) h.1.0 h.1.1) (ap₂ (seen from.log from.db) h.2.0 h.2.1);
      only = λ left may. ap₂ image
          (fresh_only _ from.is_mixing _ _ h.1.1 left.log may.0 ∙ ap (held from.log from.db) h.1.0)
          (fresh_only _ from.is_mixing _ _ h.2.1 left.db may.1 ∙ ap (held from.log from.db) h.2.0);
      leaves = λ clean. (h.3 clean).1;
    }) (λ clean. told_why h.0 c.in-Err-default-Some.left _ _ c.fault_of.ensures (h.3 clean).0)

pub returns-in-Err-default-None-clause-refused : goal.returns-in-Err-default-None-clause-refused
returns-in-Err-default-None-clause-refused g c = refused_by _ _ _ _ (memory_or_device _ _ c.fault_of-in-Err-default-None.ensures) tt tt
