use Rattle.std.proofs.Common.{sym, ◌∙◌}
use Rattle.mtxkit_matrices.proofs.TrimmedDigits.{read_zero, read_digit, read_other}
use Rattle.mtxkit_matrices.proofs.decimals.mantissa.read_digits.Goals as goal
use Rattle.mtxkit_matrices.proofs.decimals.mantissa.read_digits.Goals.{then-byte-eq48}
use Rattle.mtxkit_matrices.proofs.decimals.mantissa.read_digits.Goals.{else-byte-eq48+then-is_ascii_digit}
use Rattle.mtxkit_matrices.proofs.decimals.mantissa.read_digits.Goals.{else-byte-eq48+else-is_ascii_digit}

pub loop-byte-preserved : goal.loop-byte-preserved
loop-byte-preserved c =
    let h = c.loop-byte.invariant in
    let lt = c.loop-byte-test.true in
    elim c.if-byte-eq48.branch [
      | then-byte-eq48 w ↦ rw (w.part-is, w.zeros-is) (read_zero h lt w.if-byte-eq48.true)
      | else-byte-eq48+then-is_ascii_digit w ↦ rw (w.part-is, w.zeros-is) (read_digit h lt
          (sym w.is_ascii_digit.ensures.value ∙ w.if-is_ascii_digit.true) w.if-byte-eq48.false
          (w.with_digit-part.ensures h.state.value h.state.known))
      | else-byte-eq48+else-is_ascii_digit w ↦ rw (w.part-is, w.zeros-is)
          (read_other h lt (sym w.is_ascii_digit.ensures.value ∙ w.if-is_ascii_digit.false))
    ]
