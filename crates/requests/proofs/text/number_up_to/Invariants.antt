-- the number that the digits so far write, as far as it goes
use Rattle.std.proofs.Common.{◌≡◌, ◌<◌, ◌≤◌, take}
use Rattle.std.specs.Str.Parse.{digits_value}
use Rattle.requests.proofs.text.number_up_to.Given as goal

abbrev pub invariant-loop-digit : goal.invariant-loop-digit
invariant-loop-digit l = record {
  most : l.number ≤ l.most;
  value : digits_value 10 (take l.digit-index l.digits) ≤ l.most → l.number ≡ digits_value 10 (take l.digit-index l.digits);
  over : l.most < digits_value 10 (take l.digit-index l.digits) → l.number ≡ l.most;
}
