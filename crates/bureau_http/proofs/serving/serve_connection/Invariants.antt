-- what is served so far
use Rattle.std.proofs.Common.{◌≤◌, ◌-◌, IfSome}
use Rattle.std.specs.Io.KnownBytes.{prepend_known}
use Rattle.catalogue.specs.View.{Goes, Tells}
use Rattle.bureau.specs.Kept.{IsKeptRun}
use Rattle.bureau_http.specs.Served.{HasRun, IsSoFar}
use Rattle.bureau_http.proofs.serving.serve_connection.Given as goal

abbrev pub invariant-loop-intake : goal.invariant-loop-intake
invariant-loop-intake g l =
    let view = g.D.Desk.tables_view in
    record {
      goes : Goes view l.initial.desk l.desk;
      first : 1 ≤ l.ordinal;
      last : l.ordinal ≤ 10000;
      ran : Tells view l.initial.desk l.desk (λ this. HasRun (IsKeptRun view l.initial.desk l.desk) this);
      so_far : Tells view l.initial.desk l.desk (λ this.
          IfSome (g.R.Read.remaining l.initial.reader)
          (IsSoFar (IsKeptRun view l.initial.desk l.desk) this l.ordinal (prepend_known l.intake (g.R.Read.remaining l.reader)) (g.W.Write.contents l.initial.writer) (g.W.Write.contents l.writer)));
    }

abbrev pub decreases-loop-intake : goal.decreases-loop-intake
decreases-loop-intake g l = 10000 - l.ordinal
