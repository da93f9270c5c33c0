use Rattle.std.proofs.Common.{◌-◌, ◌≡◌, ◌≤◌, ◌<◌, ◌^◌, drop}
use Rattle.std.specs.Char.{is_ascii_digit}
use Rattle.std.specs.Str.Parse.{digits_value, digits_value_after}
use Rattle.sparse_parser.specs.Bytes.{leading, after}
use Rattle.sparse_parser.proofs.digit_runs.first_digits_at.Given as goal

abbrev pub invariant-loop-at : goal.invariant-loop-at
invariant-loop-at l = record {
  from : l.from ≤ l.at;
  room : l.at ≤ l.end;
  fits : l.number < 10 ^ (l.at - l.from);
  rest : after is_ascii_digit (drop l.at l.text) ≡ after is_ascii_digit (drop l.from l.text);
  number : digits_value_after 10 l.number (leading is_ascii_digit (drop l.at l.text))
      ≡ digits_value 10 (leading is_ascii_digit (drop l.from l.text));
}

abbrev pub decreases-loop-at : goal.decreases-loop-at
decreases-loop-at l = l.end - l.at
