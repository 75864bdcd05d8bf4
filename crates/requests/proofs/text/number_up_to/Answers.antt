use Rattle.std.proofs.Common.{◌≡◌, ◌+◌, ◌-◌, ◌*◌, true, get_or, take, ℕ, refl, sym, ap, ◌∙◌, arith}
use Rattle.std.proofs.lemmas.Bool.Decides.{nat_tests}
use Rattle.std.proofs.lemmas.Int.Digits.{digits_value_more}
use Rattle.std.proofs.lemmas.List.Sums.{AllPass-from_list_all}
use Rattle.std.specs.Char.{is_ascii_digit, digit_value}
use Rattle.std.specs.Str.Parse.{digits_value}
use Rattle.requests.proofs.TextFacts.{IsUpTo, digit_more}
use Rattle.requests.proofs.text.number_up_to.Goals as goal
use Rattle.requests.proofs.text.number_up_to.Goals.{then-next-most, else-next-most}

digit_value_is : (x : ℕ) → is_ascii_digit x ≡ true → digit_value x ≡ x - 48
digit_value_is x h = grind (arith, nat_tests)

pub loop-digit-preserved : goal.loop-digit-preserved
loop-digit-preserved c =
    let ds = c.args.digits.now in
    let i = c.loop-digit.digit-index in
    let so_far = digits_value 10 (take i ds) in
    let digit : is_ascii_digit (get_or ds i 0) ≡ true = AllPass-from_list_all is_ascii_digit ds c.requires i 0 c.loop-digit-test.true in
    let value : so_far * 10 + c.from.result ≡ digits_value 10 (take (i + 1) ds) =
    ap (λ d. so_far * 10 + d) (c.from.ensures ∙ sym (digit_value_is _ digit)) ∙ sym (digits_value_more 10 ds i c.loop-digit-test.true) in
    let before : IsUpTo c.args.most so_far c.loop-digit.number =
    record { exact = c.loop-digit.invariant.value; over = λ high. omega (arith, c.loop-digit.invariant.over high) } in
    let now : IsUpTo c.args.most (so_far * 10 + c.from.result) c.saturating_add-next.result =
    digit_more c.args.most so_far c.loop-digit.number c.from.result 18446744073709551615 c.saturating_mul.result _
    (omega arith) c.loop-digit.invariant.most before c.saturating_mul.ensures c.saturating_add-next.ensures in
    elim c.if-next-most.branch [
      | then-next-most w ↦ rw (w.number-is, ← value) (record {
        most = omega arith;
        value = now.exact;
        over = λ high. omega (arith, now.over high);
      })
      | else-next-most w ↦ rw (w.number-is, ← value) (record {
        most = omega arith;
        value = λ low. omega (arith, now.exact low);
        over = λ high. refl;
      })
    ]
