use Rattle.std.proofs.Common.{◌≡◌, [], drop, sym, ◌∙◌}
use Rattle.std.specs.Char.{is_ascii_digit}
use Rattle.sparse_parser.specs.Bytes.{leading}
use Rattle.sparse_parser.proofs.LeadingBytes.{leading-drop_all, leading-drop_stop}
use Rattle.sparse_parser.proofs.Digits.{too_long, fits_all}
use Rattle.sparse_parser.proofs.numbers.long_number.Goals as goal
use Rattle.sparse_parser.proofs.numbers.long_number.Goals.{then-loop-at-test+else-is_ascii_digit}
use Rattle.sparse_parser.proofs.numbers.long_number.Goals.{else-loop-at-test}

pub returns-in-None-clause-number : goal.returns-in-None-clause-number
returns-in-None-clause-number c =
    too_long c.loop-at.number c.args.text.now c.loop-at.at _ c.loop-at-test.true
    (sym c.is_ascii_digit.ensures.value ∙ c.if-is_ascii_digit.true) c.in-None.ensures
    c.loop-at.invariant.number

pub returns-clause-number : goal.returns-clause-number
returns-clause-number c = fits_all c.loop-at.number c.args.text.now c.loop-at.at _ none_left
    c.loop-at.invariant.fits c.loop-at.invariant.number
  where
    none_left : leading is_ascii_digit (drop c.loop-at.at c.args.text.now) ≡ []
    none_left =
        elim c.loop-at-test.branch [
          | then-loop-at-test+else-is_ascii_digit w ↦ leading-drop_stop is_ascii_digit c.args.text.now
              c.loop-at.at w.loop-at-test.true (sym w.is_ascii_digit.ensures.value
              ∙ w.if-is_ascii_digit.false)
          | else-loop-at-test w ↦ leading-drop_all is_ascii_digit c.args.text.now c.loop-at.at
              w.loop-at-test.false
        ]
