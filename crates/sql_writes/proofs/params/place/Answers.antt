use Rattle.std.proofs.Common.{◌≡◌, ◌<◌, ◌+◌, ◌++◌, ◌∷◌, ◌∙◌, [], ap, append_assoc, arith, get_or, length, slice_set, sym, take}
use Rattle.std.proofs.lemmas.List.{append-nil, length-set, map-append, take_all, take_more, take_more_set}
use Rattle.sqlite.specs.Values.{bound, bound_value}
use Rattle.sqlite_value.specs.Value.{owned}
use Rattle.sqlite_value.specs.declared.value.ValueRef.TheVariants.{Null}
use Rattle.sql_writes.proofs.params.place.Goals as goal

pub loop-i-init : goal.loop-i-init
loop-i-init c =
    let same : c.args.at + 0 ≡ c.args.at = omega arith in
    record { long = c.requires.long; placed = ap (λ n. bound (take n c.args.params.now)) same ∙ sym (append-nil (bound (take c.args.at c.args.params.now))) }

pub loop-i-preserved : goal.loop-i-preserved
loop-i-preserved c =
    let at = c.args.at in
    let i = c.loop-i.i in
    let values = c.args.values.now in
    let value = get_or values i Null in
    let params = c.loop-i.params in
    let low : at + i < length params = omega (arith, c.loop-i.invariant.long, c.requires.room, c.loop-i-test.true) in
    let next : at + (i + 1) ≡ (at + i) + 1 = omega arith in
    let before = bound (take at c.args.params.now) in
    let one = bound_value (owned value) ∷ [] in
    record {
      long = length-set params (at + i) value ∙ c.loop-i.invariant.long;
      placed = ap (λ n. bound (take n (slice_set params (at + i) value))) next
          ∙ ap bound (take_more_set params (at + i) value low) ∙ map-append (λ v. bound_value (owned v)) (take (at + i) params) (value ∷ [])
          ∙ ap (λ some. some ++ one) c.loop-i.invariant.placed
          ∙ append_assoc before (bound (take i values)) one
          ∙ ap (λ some. before ++ some) (sym (ap bound (take_more values i Null c.loop-i-test.true) ∙ map-append (λ v. bound_value (owned v)) (take i values) (value ∷ [])));
    }

pub returns-clause-placed : goal.returns-clause-placed
returns-clause-placed c =
    let ended : c.loop-i.i ≡ length c.args.values.now = omega (arith, c.loop-i-test.false, c.loop-i.auto.i-end) in
    let whole = ap (λ n. bound (take (c.args.at + n) c.loop-i.params)) (sym ended) in
    whole ∙ c.loop-i.invariant.placed ∙ ap (λ some. bound (take c.args.at c.args.params.now) ++ bound some) (take_all c.loop-i.i c.args.values.now c.loop-i-test.false)
