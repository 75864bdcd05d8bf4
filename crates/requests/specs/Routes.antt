-- The paths of the bureau, as `matchit` matches them, and the methods of each.
use Rattle.std.specs.Prelude.{ℕ, ◌++◌, Bool, List, [], ◌∷◌, codes, Option, Result, Ok, Err}
use Rattle.std.specs.Borrow.{Bor}
use Rattle.std.specs.List.{fold, list_any}
use Rattle.std.specs.Option.{option_map}
use Rattle.std.specs.Str.{bytes_eq}
use Rattle.matchit.specs.Order.{placed}
use Rattle.matchit.specs.Route.{Scan, parse_route}
use Rattle.matchit.specs.Router.{RouteOf, route_from}
use Rattle.matchit.specs.Rows.{RowsOf}
use Rattle.matchit.specs.Seek.{first}
use Rattle.matchit.specs.declared.error.InsertError.{InsertError}
use Rattle.requests.specs.declared.resource.Resource.{Resource}
use Rattle.questions.specs.declared.report.Report.TheVariants.{ErrSysmods, MissingFix}
use Rattle.questions.specs.declared.wanted.Form.TheVariants.{Text, Json}
use Rattle.questions.specs.declared.wanted.Wanted.TheVariants as wanted

-- the paths, with the resources that they name
unfoldable pub table : List (List ℕ × Resource)
table =
    (codes "/publish", Resource.Publication)
    ∷ (codes "/published", Resource.Catalogue Text)
    ∷ (codes "/published.json", Resource.Catalogue Json)
    ∷ (codes "/zones", Resource.Zones Text)
    ∷ (codes "/zones.json", Resource.Zones Json)
    ∷ (codes "/zones/{zone}", Resource.Zone)
    ∷ (codes "/zones/{zone}/categories", Resource.Patterns)
    ∷ (codes "/received", Resource.Received)
    ∷ (codes "/zones/{zone}/errsysmods", Resource.Report ErrSysmods (wanted.Rows Text))
    ∷ (codes "/zones/{zone}/errsysmods.json", Resource.Report ErrSysmods (wanted.Rows Json))
    ∷ (codes "/zones/{zone}/missingfix", Resource.Report MissingFix (wanted.Rows Text))
    ∷ (codes "/zones/{zone}/missingfix.json", Resource.Report MissingFix (wanted.Rows Json))
    ∷ (codes "/zones/{zone}/errsysmods/plan", Resource.Report ErrSysmods (wanted.Plan Text))
    ∷ (codes "/zones/{zone}/errsysmods/plan.json", Resource.Report ErrSysmods (wanted.Plan Json))
    ∷ (codes "/zones/{zone}/missingfix/plan", Resource.Report MissingFix (wanted.Plan Text))
    ∷ (codes "/zones/{zone}/missingfix/plan.json", Resource.Report MissingFix (wanted.Plan Json))
    ∷ (codes "/zones/{zone}/counts.json", Resource.ZoneCounts)
    ∷ (codes "/zones/{zone}/chains/{sysmod}", Resource.Chain)
    ∷ []

-- a router's routes
abbrev pub Rows : Type 0
Rows = RowsOf (RouteOf Resource)

-- with one route more
abbrev pub with_scan : Rows → Resource → Result Scan InsertError → Rows
with_scan rows resource (Ok scan) = placed (scan.pattern, route_from scan resource) rows
with_scan rows resource (Err error) = rows

unfoldable pub with_route : Rows → List ℕ × Resource → Rows
with_route rows route = with_scan rows route.1 (parse_route route.0)

-- the same, of an entry as the code lends it
abbrev pub with_entry : Rows → Bor (List ℕ) × Resource → Rows
with_entry rows entry = with_route rows (entry.0.now, entry.1)

-- the routes of the table, put in one after the other
unfoldable pub routes : Rows
routes = fold with_route [] table

-- the resource that a path names, if it names one
abbrev pub resource_at : List ℕ → Option Resource
resource_at path = option_map (λ route. route.value) (first routes path)

-- the methods of a path, in alphabetical order
abbrev pub methods_of : Resource → List (List ℕ)
methods_of Resource.Publication = codes "POST" ∷ []
methods_of (Resource.Catalogue form) = codes "GET" ∷ []
methods_of (Resource.Zones form) = codes "GET" ∷ []
methods_of Resource.Zone = codes "DELETE" ∷ codes "PUT" ∷ []
methods_of Resource.Patterns = codes "PUT" ∷ []
methods_of Resource.Received = codes "PUT" ∷ []
methods_of (Resource.Report report wanted) = codes "GET" ∷ []
methods_of Resource.ZoneCounts = codes "GET" ∷ []
methods_of Resource.Chain = codes "GET" ∷ []

-- whether a method is one of these
abbrev pub is_among : List (List ℕ) → List ℕ → Bool
is_among names method = list_any (bytes_eq method) names

-- whether a path has such a method
abbrev pub takes : Resource → List ℕ → Bool
takes resource = is_among (methods_of resource)

-- names joined by a comma and a blank
abbrev pub joined : List (List ℕ) → List ℕ
joined [] = []
joined (name ∷ []) = name
joined (name ∷ next ∷ rest) = name ++ codes ", " ++ joined (next ∷ rest)

-- the methods of a path, as the line `allow` of a reply has them (RFC 9110, section 10.2.1)
abbrev pub allow_of : Resource → List ℕ
allow_of resource = joined (methods_of resource)
