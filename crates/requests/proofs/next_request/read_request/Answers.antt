use Rattle.std.proofs.Common.{◌≡◌, ap, sym, ◌∙◌, subst, Ok, Err, take, refl}
use Rattle.std.proofs.KnownBytes.{Keeps-refl}
use Rattle.lemmas.proofs.ResultFacts.{ok_so}
use Rattle.requests.specs.Head.{parts_at}
use Rattle.requests.specs.Order.{IsDecided}
use Rattle.requests.specs.NextRequest.{IsNextBy, parts_in}
use Rattle.requests.specs.declared.front.Front.TheVariants as front
use Rattle.requests.specs.declared.next_request.Request.{Request}
use Rattle.requests.proofs.NextRequestFacts.{held_front, passed_on, read_as, with_head}
use Rattle.requests.proofs.next_request.read_request.Goals as goal

pub returns-in-Ok-clause-next : goal.returns-in-Ok-clause-next
returns-in-Ok-clause-next g c =
    let n = c.args.head_len in
    let shown = c.split_at.ensures.front ∙ ap (take n) c.bytes.ensures in
    let decided = subst (λ s. IsDecided s (Ok (parts_at s c.in-Ok.head, c.in-Ok.length))) shown (c.in-Ok.ensures.decided) in
    let request : Request = record { head = c.in-Ok.head; head_len = n; body_len = c.in-Ok.length } in
    ok_so c.read_body.result c.read_body.ensures.next (λ next told.
    passed_on (λ bytes. take n bytes ≡ take n c.args.intake.now) _ _ _ _ (Keeps-refl _)
    (held_front n c.args.intake.now _ c.requires.within) told
    (λ bytes front read. with_head n (parts_in c.args.intake.now request) request (take n c.args.intake.now) _ _ next bytes refl front decided read))

pub returns-in-Err-clause-next : goal.returns-in-Err-clause-next
returns-in-Err-clause-next g c =
    let n = c.args.head_len in
    let shown = c.split_at.ensures.front ∙ ap (take n) c.bytes.ensures in
    let decided = subst (λ s. IsDecided s (Err (c.in-Err.refused.refusal, c.in-Err.refused.is_bare))) shown c.in-Err.ensures.decided in
    read_as (IsNextBy (front.Head n)) (λ bytes. take n bytes ≡ take n c.args.intake.now) _ _ c.args.intake.now _
    (held_front n c.args.intake.now _ c.requires.within) (Keeps-refl _)
    (λ more left front. (
      Err (c.in-Err.refused.refusal, c.in-Err.refused.is_bare),
      subst (λ s. IsDecided s (Err (c.in-Err.refused.refusal, c.in-Err.refused.is_bare))) (sym front) decided,
      refl,
    ))
