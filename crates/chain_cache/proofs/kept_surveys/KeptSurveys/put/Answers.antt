use Rattle.std.proofs.Common.{◌≡◌, ap, arith, inl, inr, subst}
use Rattle.chain_cache.specs.Cache.{ZoneSurvey, survey_bytes}
use Rattle.chain_cache.proofs.kept_surveys.KeptSurveys.put.Goals as goal

pub returns-clause-each : goal.returns-clause-each
returns-clause-each c = λ one inside.
    elim (c.push.ensures.each one inside) [
      | inl earlier ↦ inl (c.make_room-has_room.ensures.fewer one earlier)
      | inr now ↦ inr (subst (λ rows. one ≡ record { rows = rows; survey = c.args.survey }) c.in-Ok.ensures now)
    ]

pub returns-clause-bounded : goal.returns-clause-bounded
returns-clause-bounded c = λ was.
    let room = c.make_room-has_room.ensures.room c.if-not-has_room.false in
    let bytes = c.in-Some.ensures in
    let same = ap (λ rows. survey_bytes (record { rows = rows; survey = c.args.survey })) c.in-Ok.ensures in
    omega (arith, c.push.ensures.bytes, room, bytes, same)
