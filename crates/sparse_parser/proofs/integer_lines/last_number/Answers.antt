use Rattle.std.proofs.Common.{◌≡◌, ◌-◌, get_or, length-drop, drop, sym, ◌∙◌, arith}
use Rattle.sparse_parser.proofs.IntegerLaws.{one_digit}
use Rattle.sparse_parser.proofs.integer_lines.last_number.Goals as goal

pub returns-then-text-from-eq10-clause-number : goal.returns-then-text-from-eq10-clause-number
returns-then-text-from-eq10-clause-number c =
    let is : c.from-number.result ≡ get_or c.args.text.now c.args.from 0 - 48 = omega arith in
    one_digit c.args.text.now c.args.from c.from-number.result (omega arith)
    (sym c.is_ascii_digit.ensures.value ∙ c.if-is_ascii_digit.true) c.if-text-from-eq10.true is

pub returns-clause-number : goal.returns-clause-number
returns-clause-number c =
    record {
      behind = drop c.long_digits_at-number.result.1 c.args.text.now;
      read = c.long_digits_at-number.ensures.read;
      some = omega (
        arith,
        length-drop c.long_digits_at-number.result.1 c.args.text.now,
        length-drop c.args.from c.args.text.now,
      );
      word = c.in_ok-end.ensures.word;
      line = c.in_ok-end.ensures.line;
    }
