-- the routes so far
use Rattle.std.proofs.Common.{◌≡◌, take}
use Rattle.std.specs.List.{fold}
use Rattle.requests.specs.Routes.{with_entry}
use Rattle.requests.proofs.routes.put_all.Given as goal

abbrev pub invariant-loop-path : goal.invariant-loop-path
invariant-loop-path l = l.router ≡ fold with_entry l.fn.router (take l.path-index l.paths)
