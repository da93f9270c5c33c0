use Rattle.std.proofs.Common.{sym, ◌∙◌, arith}
use Rattle.std.proofs.lemmas.Result.{IfOk-from_err}
use Rattle.sparse_compressed.proofs.IdentityArrays.{counting_is_identity}
use Rattle.sparse_compressed.proofs.CsMatrix.identity.Goals as goal

pub returns-in_err-offset_count : goal.returns-in_err-offset_count
returns-in_err-offset_count g c =
    let err = c.from_residual.ensures.0 in
    record {
      plain = IfOk-from_err _ _ err;
      sound = IfOk-from_err _ _ err;
    }

pub returns-in_err-numbers_below : goal.returns-in_err-numbers_below
returns-in_err-numbers_below g c =
    let err = c.from_residual-in_err-numbers_below.ensures.0 in
    record {
      plain = IfOk-from_err _ _ err;
      sound = IfOk-from_err _ _ err;
    }

pub returns-in_err-numbers_below-2 : goal.returns-in_err-numbers_below-2
returns-in_err-numbers_below-2 g c =
    let err = c.from_residual-in_err-numbers_below-2.ensures.0 in
    record {
      plain = IfOk-from_err _ _ err;
      sound = IfOk-from_err _ _ err;
    }

pub returns-in_err-ones : goal.returns-in_err-ones
returns-in_err-ones g c =
    let err = c.from_residual-in_err-ones.ensures.0 in
    record {
      plain = IfOk-from_err _ _ err;
      sound = IfOk-from_err _ _ err;
    }

pub from_pattern_and_values-requires : goal.from_pattern_and_values-requires
from_pattern_and_values-requires g c =
    let values = c.in_ok-ones in
    let indices = c.in_ok-numbers_below-2 in
    rw c.from_offset_and_indices_unchecked-pattern.ensures (sym values.field-0.ok.0
    ∙ values.ensures.count ∙ sym indices.ensures.count ∙ indices.field-0.ok.0)

pub returns-clause-sound : goal.returns-clause-sound
returns-clause-sound g c = c.from_pattern_and_values.ensures.sound

pub returns-clause-plain : goal.returns-clause-plain
returns-clause-plain g c =
    let made = c.from_pattern_and_values.ensures in
    let raw = c.from_offset_and_indices_unchecked-pattern.ensures in
    let offsets = c.in_ok-numbers_below.ensures in
    let indices = c.in_ok-numbers_below-2.ensures in
    let values = c.in_ok-ones.ensures in
    let sound = rw (made.is, raw) at made.sound in
    rw (made.is, raw) (counting_is_identity c.args.n c.in_ok-numbers_below.field-0.items
    c.in_ok-numbers_below-2.field-0.items
    (λ k lt. offsets.numbers k (omega (arith, sound.valid.count)))
    (λ k lt. indices.numbers k (omega (arith, indices.count)))
    g.T.Ring.ring g.T.Ring.value g.T.Zero.zero_value c.in_ok-ones.field-0.items sound
    (λ k lt. values.ones k g.T.Zero.zero_value (omega (arith, values.count))))
