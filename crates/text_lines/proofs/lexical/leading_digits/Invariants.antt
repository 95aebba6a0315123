use Rattle.std.proofs.Common.{◌≡◌, ◌-◌, ◌<◌, ◌≤◌, ◌^◌, length, take, true}
use Rattle.std.specs.Prelude.{nat_lt}
use Rattle.std.specs.List.{list_all}
use Rattle.text_lines.specs.Numbers.{digit_of, value_of}
use Rattle.text_lines.proofs.lexical.leading_digits.Given as goal

abbrev pub invariant-loop-len : goal.invariant-loop-len
invariant-loop-len l = record {
  so_far : l.value ≡ value_of l.base (take l.len l.text);
  within : l.len ≤ length l.text;
  fits : l.value < 2 ^ 64;
  digits : list_all (λ b. nat_lt (digit_of b) l.base) (take l.len l.text) ≡ true;
}

abbrev pub decreases-loop-len : goal.decreases-loop-len
decreases-loop-len l = length l.text - l.len
