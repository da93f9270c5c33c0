use Rattle.std.proofs.Common.{◌≡◌, ap, subst, ◌∙◌}
use Rattle.sparse_pattern.specs.Raw.{Raw}
use Rattle.sparse_algebra.specs.ZeroRing.{zero_ring}
use Rattle.sparse_permutation.specs.PermutedPatterns.{IsPermutedPattern}
use Rattle.sparse_permutation.proofs.PermutedEntries.{permuted_entries}
use Rattle.sparse_permutation.proofs.symmetric.permuted_pattern.Goals as goal

pub returns : goal.returns
returns c =
    let p = c.args.permutation.now in
    let matrix = c.from_pattern_and_values_unchecked-matrix in
    let permuted = c.in_ok-permuted in
    let same : matrix.result.pattern ≡ c.args.pattern.now =
    ap (λ m. m.pattern) matrix.ensures.is ∙ c.in_ok-copy.ensures in
    rw c.into_pattern_and_values-permuted_pattern.ensures.pattern
    (subst (λ (d : Raw). IsPermutedPattern p d permuted.permuted.pattern) same
    (permuted_entries zero_ring (λ _. tt) p matrix.result permuted.permuted matrix.ensures.sound
    permuted.ensures.sound permuted.ensures.plain))
