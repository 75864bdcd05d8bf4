-- Routes that are put in one after the other.
use Rattle.std.proofs.Common.{◌≡◌, ℕ, List, Result, Ok, Err}
use Rattle.matchit.specs.Route.{Scan, parse_route}
use Rattle.matchit.specs.Router.{InsertsRead}
use Rattle.matchit.specs.declared.error.InsertError.{InsertError}
use Rattle.requests.specs.Routes.{Rows, with_route, with_scan}
use Rattle.requests.specs.declared.resource.Resource.{Resource}

scanned : (scan : Result Scan InsertError) (resource : Resource) (old new : Rows)
    → InsertsRead scan resource old new (Ok tt) → new ≡ with_scan old resource scan
scanned (Ok scan) resource old new h = h.1
scanned (Err error) resource old new h = h.0

pub inserted : (path : List ℕ) (resource : Resource) (old new : Rows)
    → InsertsRead (parse_route path) resource old new (Ok tt) → new ≡ with_route old (path, resource)
unfolding with_route
inserted path resource old new h = scanned (parse_route path) resource old new h
