use Rattle.std.proofs.Common.{◌∙◌, sym, ap}
use Rattle.matchit.specs.Seek.{first}
use Rattle.requests.proofs.PlaceFacts.{ids_taken}
use Rattle.requests.proofs.routes.Routes.place.Goals as goal

pub returns-in-Ok-clause-zone : goal.returns-in-Ok-clause-zone
returns-in-Ok-clause-zone c =
    let it = ids_taken c.args.path.now c.in-Ok.found.params c.in-Ok.found.value.now c.requires
    (ap (λ rows. first rows c.args.path.now) (sym c.args.self.now.whole) ∙ c.in-Ok.ensures.found) c.in-Ok.ensures.path in
    c.id_taken.ensures it.0 ∙ it.1

pub returns-in-Ok-clause-sysmod : goal.returns-in-Ok-clause-sysmod
returns-in-Ok-clause-sysmod c =
    let it = ids_taken c.args.path.now c.in-Ok.found.params c.in-Ok.found.value.now c.requires
    (ap (λ rows. first rows c.args.path.now) (sym c.args.self.now.whole) ∙ c.in-Ok.ensures.found) c.in-Ok.ensures.path in
    c.id_taken-in-Ok.ensures it.0 ∙ it.2
