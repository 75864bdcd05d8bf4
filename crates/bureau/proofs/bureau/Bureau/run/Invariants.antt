use Rattle.std.proofs.Common.{◌≡◌, ◌≤◌, length, take}
use Rattle.std.specs.Vec.{vec_capacity, vec_len}
use Rattle.catalogue.specs.View.{Goes, Tells}
use Rattle.bureau_store.specs.Tables.{Tables}
use Rattle.bureau.specs.Answering.{AreAmong, bureau_view, calls_of}
use Rattle.bureau.specs.Kept.{IsKeptRun}
use Rattle.bureau.proofs.bureau.Bureau.run.Given as goal

-- a run of the calls so far was made, and there is room for each answer
abbrev pub invariant-loop-asked : goal.invariant-loop-asked
invariant-loop-asked g l =
    let view = bureau_view g.S.Store.tables_view g.J.Judge.is_right in
    record {
      goes : Goes view l.initial.self l.self;
      answered : length l.replies.items ≡ length (take l.asked-index l.calls);
      counted : vec_len l.replies ≡ l.asked-index;
      room : length l.calls ≤ vec_capacity l.replies;
      run : Tells view l.initial.self l.self (λ this. AreAmong this.callers l.calls
          → (mid : Tables) × IsKeptRun view l.initial.self l.self this (calls_of (take l.asked-index l.calls) l.replies.items) mid);
    }
