use Rattle.std.proofs.Common.{ap, sym, ◌∙◌}
use Rattle.sparse_algebra.specs.Plain.{plain_transpose}
use Rattle.sparse_algebra.proofs.PlainLaws.{proper_transpose, within_transpose}
use Rattle.sparse_permutation.specs.PermutedPlain.{plain_permuted}
use Rattle.sparse_permutation.proofs.PermutedPlain.{determined, transpose_permuted}
use Rattle.sparse_permutation.proofs.laws.symmetric_law.Goals as goal

pub returns : goal.returns
returns g c = λ p a order rows cols proper within.
    let R = g.T.Ring.ring in
    let moved = transpose_permuted R p a in (
      λ symmetric. determined R order (plain_transpose R a) a cols (proper_transpose R a proper)
          (within_transpose R a within) proper within (cols ∙ sym rows) (rows ∙ sym cols)
          (sym moved ∙ symmetric),
      λ symmetric. moved ∙ ap (plain_permuted R p) symmetric,
    )
