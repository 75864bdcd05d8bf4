use Rattle.std.proofs.Common.{◌≡◌, ℕ, ◌-◌, ◌+◌, ◌<◌, ◌*◌, ◌^◌, true, arith, get_or, take, sym, ap, ◌∙◌, add-one}
use Rattle.std.proofs.Math.Nat.{pow-suc}
use Rattle.std.proofs.lemmas.Int.Digits.{digits_value_more}
use Rattle.std.proofs.lemmas.List.Sums.{AllPass-from_list_all}
use Rattle.std.proofs.lemmas.Bool.Decides.{nat_tests}
use Rattle.std.specs.Char.{is_ascii_digit, digit_value}
use Rattle.std.specs.Str.Parse.{digits_value}
use Rattle.holddata.proofs.date.number_of.Goals as goal

-- what a digit says, and that it is below ten
digit_value_is : (x : ℕ) → is_ascii_digit x ≡ true → digit_value x ≡ x - 48
digit_value_is x h = grind (arith, nat_tests)

digit_below : (x : ℕ) → is_ascii_digit x ≡ true → x - 48 < 10
digit_below x h = grind (arith, nat_tests)

next_power : (n d i : ℕ) → n < 10 ^ i → d < 10 → n * 10 + d < 10 ^ (i + 1)
next_power n d i h g = rw (add-one, pow-suc) (omega arith)

pub loop-digit-preserved : goal.loop-digit-preserved
loop-digit-preserved c =
    let ds = c.args.digits.now in
    let i = c.loop-digit.digit-index in
    let digit : is_ascii_digit (get_or ds i 0) ≡ true = AllPass-from_list_all is_ascii_digit ds c.requires.allowed i 0 c.loop-digit-test.true in
    record {
      value = (λ k. c.loop-digit.invariant.value k * 10 + c.from.result)
          ∙ ap (λ n. digits_value 10 (take i ds) * 10 + n) (c.from.ensures ∙ sym (digit_value_is _ digit))
          ∙ sym (digits_value_more 10 ds i c.loop-digit-test.true);
      small = rw c.from.ensures (next_power _ _ i c.loop-digit.invariant.small (digit_below _ digit));
    }
