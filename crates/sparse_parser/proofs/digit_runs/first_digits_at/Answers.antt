use Rattle.std.proofs.Common.{◌≡◌, ◌<◌, ◌≤◌, ◌+◌, ◌-◌, ◌*◌, ◌^◌, get_or, length, sym, subst, ◌∙◌}
use Rattle.std.proofs.Common.{arith, rules, ℕ, true, inl}
use Rattle.std.specs.Char.{is_ascii_digit}
use Rattle.sparse_parser.proofs.Digits.{digit_small, short_fits, stopped_end}
use Rattle.sparse_parser.proofs.LeadingBytes.{leading-drop_stop}
use Rattle.sparse_parser.proofs.TextOffsets.{after_passed, digit_read, digits_below}
use Rattle.sparse_parser.proofs.digit_runs.first_digits_at.Goals as goal

pub overflow_mul-number : goal.overflow_mul-number
overflow_mul-number c =
    let h = short_fits c.loop-at.number (c.loop-at.at - c.args.from) 0 c.loop-at.invariant.fits
    (omega arith) (omega arith) in
    search rules

pub overflow_add-number : goal.overflow_add-number
overflow_add-number c =
    let d = digit_small (get_or c.args.text.now c.loop-at.at 0)
    (sym c.is_ascii_digit.ensures.value ∙ c.if-is_ascii_digit.true) in
    let small : c.from.result ≤ 9 = omega arith in
    let h = short_fits c.loop-at.number (c.loop-at.at - c.args.from) c.from.result
    c.loop-at.invariant.fits (omega arith) small in
    search rules

pub loop-at-preserved : goal.loop-at-preserved
loop-at-preserved c =
    let digit : is_ascii_digit (get_or c.args.text.now c.loop-at.at 0) ≡ true =
    sym c.is_ascii_digit.ensures.value ∙ c.if-is_ascii_digit.true in
    let d = digit_small (get_or c.args.text.now c.loop-at.at 0) digit in
    let is : c.from.result ≡ get_or c.args.text.now c.loop-at.at 0 - 48 = omega arith in
    let inside : c.loop-at.at < length c.args.text.now = omega arith in
    let below = digits_below c.loop-at.number (c.loop-at.at - c.args.from) c.from.result
    c.loop-at.invariant.fits (omega arith) in
    let next : c.loop-at.at - c.args.from + 1 ≡ c.loop-at.at + 1 - c.args.from = omega arith in
    record {
      from = omega arith;
      room = omega arith;
      fits = subst (λ (k : ℕ). c.loop-at.number * 10 + c.from.result < 10 ^ k) next below;
      rest = after_passed is_ascii_digit _ _ inside digit ∙ c.loop-at.invariant.rest;
      number = rw is (digit_read c.loop-at.number _ _ inside digit ∙ c.loop-at.invariant.number);
    }

pub returns-after-loop-at-clause-stopped : goal.returns-after-loop-at-clause-stopped
returns-after-loop-at-clause-stopped c =
    stopped_end c.args.text.now c.args.from c.loop-at.at _ c.requires (omega arith)
    c.loop-at-test.false c.loop-at.invariant.room

pub returns-else-is_ascii_digit-clause-stopped : goal.returns-else-is_ascii_digit-clause-stopped
returns-else-is_ascii_digit-clause-stopped c =
    inl (leading-drop_stop is_ascii_digit c.args.text.now c.loop-at.at (omega arith)
    (sym c.is_ascii_digit.ensures.value ∙ c.if-is_ascii_digit.false))
