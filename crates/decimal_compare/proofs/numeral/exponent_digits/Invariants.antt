use Rattle.std.proofs.Common.{◌≡◌, ◌≤◌, take, length, true}
use Rattle.std.specs.List.{list_all, fold}
use Rattle.decimal_compare.specs.Digits.{is_digit, with_digit}
use Rattle.decimal_compare.proofs.numeral.exponent_digits.Given as goal

abbrev pub invariant-loop-b : goal.invariant-loop-b
invariant-loop-b l = record {
  size_is : l.size ≡ fold with_digit 0 (take l.b-index l.digits);
  digits : list_all is_digit (take l.b-index l.digits) ≡ true;
  few : length l.digits ≤ 4;
}
