use Rattle.std.proofs.Common.{refl, ◌≡◌, ◌≤◌, length, take, subst, sym, ap, ◌∙◌, arith, length-append}
use Rattle.std.proofs.KnownBytes.{Keeps-refl}
use Rattle.std.proofs.lemmas.List.{take-append-le, take-take, take_all}
use Rattle.requests.specs.HeadEnd.{front_of, head_limit}
use Rattle.requests.specs.Search.{search}
use Rattle.requests.specs.declared.front.Front.TheVariants.{Head, TooLarge}
use Rattle.requests.specs.declared.head_end.Ending.TheVariants.{EmptyLines}
use Rattle.requests.proofs.FrontFacts.{any_err, at_end, ended_before, found, found_so_far, limit_is, no_end, none_read, not_at_hand, taken, told, told_at_end, too_large, too_large_so_far}
use Rattle.requests.proofs.SearchFacts.{search_nil}
use Rattle.requests.proofs.front.read_front.Goals as goal

pub loop-count-init : goal.loop-count-init
loop-count-init g c = record {
  kept = Keeps-refl _;
  within = omega arith;
  limit = omega arith;
  at_hand = λ at. (refl, refl);
  no_further = λ limit most short. short;
  none = search_nil EmptyLines;
  counted = omega arith;
}

pub find_on-requires-clause-seen : goal.find_on-requires-clause-seen
find_on-requires-clause-seen g c =
    let n = c.loop-count.seen in
    let low : n ≤ head_limit = subst (λ m. n ≤ m) limit_is c.loop-count.invariant.limit in
    ap (λ bytes. search EmptyLines (take n bytes)) (c.within_limit-shown.ensures.value ∙ ap (take head_limit) c.bytes.ensures)
    ∙ ap (search EmptyLines) (take-take n head_limit c.loop-count.intake low) ∙ c.loop-count.invariant.none

pub returns-in-Ok-clause-front : goal.returns-in-Ok-clause-front
returns-in-Ok-clause-front g c =
    let shown = c.within_limit-shown.ensures.value ∙ ap (take head_limit) c.bytes.ensures in
    told (λ bytes. Head c.in-Ok.count ≡ front_of head_limit bytes) _ _ _ c.loop-count.invariant.kept
    (λ more. found head_limit c.in-Ok.count c.loop-count.intake more
    (ap (search EmptyLines) (sym shown) ∙ sym c.find_on.ensures.found ∙ c.in-Ok.is))

pub returns-then-seen-eq-HEAD_LIMIT-clause-front : goal.returns-then-seen-eq-HEAD_LIMIT-clause-front
returns-then-seen-eq-HEAD_LIMIT-clause-front g c =
    let shown = c.within_limit-shown.ensures.value ∙ ap (take head_limit) c.bytes.ensures in
    let count : length c.bytes.result.now ≡ length c.loop-count.intake = ap length c.bytes.ensures in
    let full : 16384 ≤ length c.loop-count.intake = omega arith in
    told (λ bytes. TooLarge ≡ front_of head_limit bytes) _ _ _ c.loop-count.invariant.kept
    (λ more. too_large head_limit c.loop-count.intake more c.in-Err.next
    (ap (search EmptyLines) (sym shown) ∙ sym c.find_on.ensures.found ∙ c.in-Err.is)
    (subst (λ m. m ≤ length c.loop-count.intake) limit_is full))

pub returns-in-Ok-clause-came : goal.returns-in-Ok-clause-came
returns-in-Ok-clause-came g c =
    let shown = c.within_limit-shown.ensures.value ∙ ap (take head_limit) c.bytes.ensures in
    found_so_far head_limit c.in-Ok.count c.loop-count.intake (ap (search EmptyLines) (sym shown) ∙ sym c.find_on.ensures.found ∙ c.in-Ok.is)

pub returns-then-seen-eq-HEAD_LIMIT-clause-came : goal.returns-then-seen-eq-HEAD_LIMIT-clause-came
returns-then-seen-eq-HEAD_LIMIT-clause-came g c =
    let shown = c.within_limit-shown.ensures.value ∙ ap (take head_limit) c.bytes.ensures in
    let count : length c.bytes.result.now ≡ length c.loop-count.intake = ap length c.bytes.ensures in
    let full : 16384 ≤ length c.loop-count.intake = omega arith in
    too_large_so_far head_limit c.loop-count.intake c.in-Err.next
    (ap (search EmptyLines) (sym shown) ∙ sym c.find_on.ensures.found ∙ c.in-Err.is)
    (subst (λ m. m ≤ length c.loop-count.intake) limit_is full)

pub returns-then-branch-eq0-clause-came : goal.returns-then-branch-eq0-clause-came
returns-then-branch-eq0-clause-came g c =
    let held = no_end _ _ c.loop-count.intake _ c.within_limit-shown.ensures.all c.bytes.ensures (omega arith) (sym c.find_on.ensures.found ∙ c.in-Err.is) in
    let read = c.in_ok-read_more.ensures.bytes in
    let same : c.read_more.new.self ≡ c.loop-count.intake = none_read _ _ read.bytes read.grown (read.count ∙ c.if-branch-eq0.true) in
    c.at_end.ensures
    ∙ at_end head_limit c.loop-count.intake c.in-Err.next held.none held.short
    ∙ ap (front_of head_limit) (sym same)

pub returns-in_err-read_more-clause-none_came : goal.returns-in_err-read_more-clause-none_came
returns-in_err-read_more-clause-none_came g c =
    let held = no_end _ _ c.loop-count.intake _ c.within_limit-shown.ensures.all c.bytes.ensures (omega arith) (sym c.find_on.ensures.found ∙ c.in-Err.is) in
    any_err _ (not_at_hand head_limit c.loop-count.intake c.read_more.new.self c.in-Err.next held.none held.short (sym c.in_err-read_more.ensures.err))

pub returns-then-branch-eq0-clause-front : goal.returns-then-branch-eq0-clause-front
returns-then-branch-eq0-clause-front g c =
    let held = no_end _ _ c.loop-count.intake _ c.within_limit-shown.ensures.all c.bytes.ensures (omega arith) (sym c.find_on.ensures.found ∙ c.in-Err.is) in
    let read = c.in_ok-read_more.ensures.bytes in
    told_at_end (λ bytes. c.at_end.result ≡ front_of head_limit bytes) _ _ c.loop-count.intake c.loop-count.invariant.kept
    (ended_before _ _ read.bytes read.consumed (read.count ∙ c.if-branch-eq0.true) (c.in_ok-read_more.ensures.end c.if-branch-eq0.true))
    (c.at_end.ensures
    ∙ at_end head_limit c.loop-count.intake c.in-Err.next held.none held.short)

pub loop-count-smaller : goal.loop-count-smaller
loop-count-smaller g c =
    let held = no_end _ _ c.loop-count.intake _ c.within_limit-shown.ensures.all c.bytes.ensures (omega arith) (sym c.find_on.ensures.found ∙ c.in-Err.is) in
    let read = c.in_ok-read_more.ensures.bytes in
    omega (arith, held.count, read.count, ap length read.grown ∙ length-append c.loop-count.intake read.bytes)

pub returns-in_err-read_more-clause-at_hand : goal.returns-in_err-read_more-clause-at_hand
returns-in_err-read_more-clause-at_hand g c at =
    let held = no_end _ _ c.loop-count.intake _ c.within_limit-shown.ensures.all c.bytes.ensures (omega arith) (sym c.find_on.ensures.found ∙ c.in-Err.is) in
    absurd (not_at_hand head_limit c.loop-count.intake c.args.intake.now c.in-Err.next held.none held.short (c.loop-count.invariant.at_hand at).0 at)

pub returns-then-branch-eq0-clause-at_hand : goal.returns-then-branch-eq0-clause-at_hand
returns-then-branch-eq0-clause-at_hand g c at =
    let held = no_end _ _ c.loop-count.intake _ c.within_limit-shown.ensures.all c.bytes.ensures (omega arith) (sym c.find_on.ensures.found ∙ c.in-Err.is) in
    absurd (not_at_hand head_limit c.loop-count.intake c.args.intake.now c.in-Err.next held.none held.short (c.loop-count.invariant.at_hand at).0 at)

pub loop-count-preserved : goal.loop-count-preserved
loop-count-preserved g c =
    let held = no_end _ _ c.loop-count.intake _ c.within_limit-shown.ensures.all c.bytes.ensures (omega arith) (sym c.find_on.ensures.found ∙ c.in-Err.is) in
    let count = held.count in
    let read = c.in_ok-read_more.ensures.bytes in
    let longer = ap length read.grown ∙ length-append c.loop-count.intake read.bytes in
    let some = read.count in
    let bound = c.in_ok-read_more.ensures.bound in
    record {
      kept = taken _ _ _ _ _ read.bytes c.loop-count.invariant.kept read.grown read.consumed;
      within = omega arith;
      limit = omega arith;
      at_hand = λ at. absurd (not_at_hand head_limit c.loop-count.intake c.args.intake.now c.in-Err.next held.none held.short
          (c.loop-count.invariant.at_hand at).0 at);
      no_further = λ limit most low. omega arith;
      none = ap (search EmptyLines) (ap (take (length c.within_limit-shown.result.now)) read.grown
          ∙ take-append-le (length c.within_limit-shown.result.now) c.loop-count.intake read.bytes (omega arith)
          ∙ take_all (length c.within_limit-shown.result.now) c.loop-count.intake (omega arith)) ∙ held.none;
      counted = omega (arith, c.loop-count.invariant.counted, c.read_more.ensures);
    }
