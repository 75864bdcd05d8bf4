use Rattle.std.proofs.Common.{◌≡◌, ◌+◌, ◌≤◌, ap, ◌∙◌, length, drop, ◌++◌}
use Rattle.requests.specs.Head.{parts_at}
use Rattle.requests.specs.NextRequest.{HasBody, body_in, parts_in, request_len, whole}
use Rattle.requests.specs.declared.next_request.NextRequest.TheVariants.{Whole}
use Rattle.requests.proofs.NextRequestFacts.{nothing_told, read_as, same_front, whole_body}
use Rattle.requests.proofs.next_request.read_body.Goals as goal

pub returns-then-branch-clause-next : goal.returns-then-branch-clause-next
returns-then-branch-clause-next g c =
    let request = c.args.request in
    let old = c.args.intake.now in
    let new = c.read_whole.new.intake in
    let parts = parts_in old request in
    let same : parts_in new request ≡ parts = ap (λ bytes. parts_at bytes request.head) (same_front request.head_len old new c.requires.within c.in_ok-read_whole.ensures.grown) in
    let low : request.head_len + request.body_len ≤ length new = c.in_ok-read_whole.ensures.whole c.if-branch.true in
    read_as (HasBody parts request) _ _ _ new (Whole request) (nothing_told _) c.in_ok-read_whole.ensures.kept
    (λ more left told. ap (λ p. whole p (body_in new request) (drop (request_len request) new ++ more)) same
    ∙ whole_body parts request.head_len request.body_len new more low)
