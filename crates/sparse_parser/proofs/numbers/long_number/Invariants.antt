use Rattle.std.proofs.Common.{◌≡◌, length, drop, ◌-◌, ◌<◌, ◌^◌}
use Rattle.std.specs.Char.{is_ascii_digit}
use Rattle.std.specs.Str.Parse.{digits_value_after}
use Rattle.sparse_parser.specs.Bytes.{leading}
use Rattle.sparse_parser.proofs.LeadingBytes.{IsPassed}
use Rattle.sparse_parser.proofs.numbers.long_number.Given as goal

abbrev pub invariant-loop-at : goal.invariant-loop-at
invariant-loop-at l = record {
  passed : IsPassed is_ascii_digit l.text l.at;
  number : digits_value_after 10 l.number (leading is_ascii_digit (drop l.at l.text))
      ≡ digits_value_after 10 l.before (leading is_ascii_digit l.text);
  fits : l.number < 2 ^ 64;
}

abbrev pub decreases-loop-at : goal.decreases-loop-at
decreases-loop-at l = length l.text - l.at
