use Rattle.std.proofs.Common.{◌≡◌, ◌-◌, ◌<◌, ◌≤◌, ◌^◌, take, true}
use Rattle.std.specs.Prelude.{nat_lt}
use Rattle.std.specs.List.{list_all}
use Rattle.text_lines.specs.Numbers.{digit_of, value_of}
use Rattle.text_lines.proofs.lexical.leading_decimals.Given as goal

abbrev pub invariant-loop-len : goal.invariant-loop-len
invariant-loop-len l = record {
  so_far : l.value ≡ value_of 10 (take l.len l.text);
  within : l.len ≤ l.end;
  fits : l.value < 10 ^ l.len;
  digits : list_all (λ b. nat_lt (digit_of b) 10) (take l.len l.text) ≡ true;
}

abbrev pub decreases-loop-len : goal.decreases-loop-len
decreases-loop-len l = l.end - l.len
