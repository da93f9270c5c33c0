use Rattle.std.proofs.Common.{◌≡◌, ◌∙◌, arith}
use Rattle.mtxkit_matrices.proofs.TrimmedDigits.{is_none, raised_more, raised_next}
use Rattle.mtxkit_matrices.proofs.decimals.mantissa.raised.Goals as goal

pub returns-in_err-raised : goal.returns-in_err-raised
returns-in_err-raised c = is_none _ _ _ c.from_residual.ensures
    (raised_more c.args.number c.loop.counter c.args.zeros c.loop.raised (omega arith)
    c.loop.invariant.value c.in_err-raised.ensures)

pub loop-preserved : goal.loop-preserved
loop-preserved c = record {
  value = c.in_ok-raised.ensures.1
      ∙ raised_next c.args.number c.loop.counter c.loop.raised c.loop.invariant.value;
  fits = omega (arith, c.in_ok-raised.ensures);
}

pub returns : goal.returns
returns c =
    let same : c.loop.counter ≡ c.args.zeros = omega arith in
    let v = rw same at c.loop.invariant.value in
    (rw v at c.loop.invariant.fits, v)
