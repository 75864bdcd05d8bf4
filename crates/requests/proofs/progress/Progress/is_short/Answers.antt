use Rattle.std.proofs.Common.{◌≤◌, ◌<◌, length, sym, ◌∙◌, arith}
use Rattle.std.proofs.lemmas.Bool.Decides.{nat_tests}
use Rattle.requests.proofs.ProgressFacts.{enough_head, enough_now, fewer_head, fewer_now, fewer_without, full_without, refused_head, sees_head, shown_seen, shown_within}
use Rattle.requests.proofs.progress.Progress.is_short.Goals as goal

pub returns-then-self-gt0-clause-short : goal.returns-then-self-gt0-clause-short
returns-then-self-gt0-clause-short c e =
    let less : length c.args.bytes.now < c.args.self.now.wanted = grind (arith, nat_tests) in
    fewer_now c.args.bytes.now c.args.self.now c.requires (omega arith) less

pub returns-then-self-gt0-clause-whole : goal.returns-then-self-gt0-clause-whole
returns-then-self-gt0-clause-whole c e =
    let enough : c.args.self.now.wanted ≤ length c.args.bytes.now = grind (arith, nat_tests) in
    enough_now c.args.bytes.now c.args.self.now c.requires (omega arith) enough

pub find_on-requires-clause-within : goal.find_on-requires-clause-within
find_on-requires-clause-within c =
    shown_within c.args.bytes.now c.within_limit-shown.result.now c.args.self.now c.requires c.within_limit-shown.ensures.value c.within_limit-shown.ensures.most

pub find_on-requires-clause-seen : goal.find_on-requires-clause-seen
find_on-requires-clause-seen c =
    shown_seen c.args.bytes.now c.within_limit-shown.result.now c.args.self.now c.requires c.within_limit-shown.ensures.value

pub returns-in-Some-clause-sees : goal.returns-in-Some-clause-sees
returns-in-Some-clause-sees c =
    sees_head c.args.bytes.now c.within_limit-shown.result.now c.args.self.now c.requires c.within_limit-shown.ensures.value c.in-Ok.head_len c.in-Some.len
    (sym c.find_on.ensures.found ∙ c.in-Ok.is) (omega (arith, c.in-Ok.ensures.part, c.within_limit-shown.ensures.part)) c.in-Some.ensures.some

pub returns-in-Some-clause-short : goal.returns-in-Some-clause-short
returns-in-Some-clause-short c e =
    let less : length c.args.bytes.now < c.in-Some.len = grind (arith, nat_tests) in
    fewer_head c.args.bytes.now c.within_limit-shown.result.now c.args.self.now c.requires c.within_limit-shown.ensures.value c.in-Ok.head_len c.in-Some.len
    (sym c.find_on.ensures.found ∙ c.in-Ok.is) (omega (arith, c.in-Ok.ensures.part, c.within_limit-shown.ensures.part)) c.in-Some.ensures.some less

pub returns-in-Some-clause-whole : goal.returns-in-Some-clause-whole
returns-in-Some-clause-whole c e =
    let enough : c.in-Some.len ≤ length c.args.bytes.now = grind (arith, nat_tests) in
    enough_head c.args.bytes.now c.within_limit-shown.result.now c.args.self.now c.requires c.within_limit-shown.ensures.value c.in-Ok.head_len c.in-Some.len
    (sym c.find_on.ensures.found ∙ c.in-Ok.is) (omega (arith, c.in-Ok.ensures.part, c.within_limit-shown.ensures.part)) c.in-Some.ensures.some enough

pub returns-in-None-clause-whole : goal.returns-in-None-clause-whole
returns-in-None-clause-whole c e =
    refused_head c.args.bytes.now c.within_limit-shown.result.now c.args.self.now c.requires c.within_limit-shown.ensures.value c.in-Ok.head_len
    (sym c.find_on.ensures.found ∙ c.in-Ok.is) c.in-None.ensures.none

pub returns-in-Err-clause-short : goal.returns-in-Err-clause-short
returns-in-Err-clause-short c e =
    let less : length c.within_limit-shown.result.now < 16384 = grind (arith, nat_tests) in
    fewer_without c.args.bytes.now c.within_limit-shown.result.now c.args.self.now c.requires c.within_limit-shown.ensures.value c.in-Err.ending
    (sym c.find_on.ensures.found ∙ c.in-Err.is) c.within_limit-shown.ensures.all less

pub returns-in-Err-clause-whole : goal.returns-in-Err-clause-whole
returns-in-Err-clause-whole c e =
    let full : 16384 ≤ length c.within_limit-shown.result.now = grind (arith, nat_tests) in
    full_without c.args.bytes.now c.within_limit-shown.result.now c.args.self.now c.requires c.within_limit-shown.ensures.value c.in-Err.ending
    (sym c.find_on.ensures.found ∙ c.in-Err.is) (omega (arith, full, c.within_limit-shown.ensures.part))
