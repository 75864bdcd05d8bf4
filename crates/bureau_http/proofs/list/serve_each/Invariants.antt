-- the connections that were served so far
use Rattle.std.proofs.Common.{map, take}
use Rattle.catalogue.specs.View.{Goes, Tells}
use Rattle.bureau.specs.Kept.{IsKeptRun}
use Rattle.bureau_http.specs.List.{AreSoFar}
use Rattle.bureau_http.proofs.list.serve_each.Given as goal

abbrev pub invariant-loop-connection : goal.invariant-loop-connection
invariant-loop-connection g l = record {
  goes : Goes g.D.Desk.tables_view l.fn.desk l.desk;
  so_far : Tells g.D.Desk.tables_view l.fn.desk l.desk (λ this.
      AreSoFar (IsKeptRun g.D.Desk.tables_view l.fn.desk l.desk) this (map (λ c. c.items) (take l.connection-index l.connections)) (map (λ t. t.items) l.written.items));
}
