use Rattle.std.proofs.Common.{ap, sym, ◌∙◌}
use Rattle.sparse_algebra.specs.Plain.{plain_product}
use Rattle.sparse_algebra.proofs.PlainLemmas.{proper_product}
use Rattle.sparse_algebra.proofs.PlainLaws.{within_product}
use Rattle.sparse_permutation.specs.PermutedPlain.{plain_rows_permuted}
use Rattle.sparse_permutation.proofs.PermutedPlain.{rows_determined}
use Rattle.sparse_permutation.proofs.PermutedProducts.{permuted-product}
use Rattle.sparse_permutation.proofs.laws.permuted_system_law.Goals as goal

pub returns : goal.returns
returns g c = λ p a x b order rows cols inner proper_a within_a proper_x within_x proper_b within_b.
    let R = g.T.Ring.ring in
    let moved = permuted-product R order a x rows cols inner in (
      λ solves. moved ∙ ap (plain_rows_permuted R p) solves,
      λ solves. rows_determined R order (plain_product R a x) b rows
          (proper_product R a x proper_a proper_x) (within_product R a x within_a within_x)
          proper_b within_b (sym moved ∙ solves),
    )
