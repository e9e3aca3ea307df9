use Rattle.std.proofs.Common.{◌≡◌, ◌≤◌, take, true}
use Rattle.std.specs.List.{list_all}
use Rattle.farm_model.specs.Numbers.{value_from, is_digit}
use Rattle.command_text.proofs.numbers.leading_digits.Given as goal

abbrev pub invariant-loop-i : goal.invariant-loop-i
invariant-loop-i l = record {
  value_is : l.value ≡ value_from 0 (take l.i l.text);
  digits : list_all is_digit (take l.i l.text) ≡ true;
  small : l.value ≤ l.limit;
}
