-- The entries of a permuted matrix.
use Rattle.std.proofs.Common.{◌≡◌, ℕ, ◌<◌, List, get_or, ap, sym, ◌∙◌}
use Rattle.sparse_algebra.specs.Algebra.{CommRing}
use Rattle.sparse_algebra.proofs.Cases.{and_both, and_parts}
use Rattle.sparse_compressed.specs.Compressed.{Compressed, IsSound}
use Rattle.sparse_compressed.specs.PlainOfLanes.{plain_of_rows}
use Rattle.sparse_compressed.proofs.ArraysDeterminePlain.{plain_of_rows-has_lanes}
use Rattle.sparse_permutation.specs.PermutedPlain.{plain_permuted}
use Rattle.sparse_permutation.specs.PermutedPatterns.{IsPermutedPattern}
use Rattle.sparse_permutation.proofs.PermutedPlain.{below_is, both_below}

pub permuted_entries : (R : CommRing) {T : Type 0} (f : T → R.Carrier) (p : List ℕ)
    (a m : Compressed T) → IsSound a → IsSound m
    → plain_of_rows R f m ≡ plain_permuted R p (plain_of_rows R f a)
    → IsPermutedPattern p a.pattern m.pattern
permuted_entries R f p a m sound_a sound_m same = record {
  valid = sound_m.valid;
  major_dim = ap (λ x. x.rows) same;
  minor_dim = ap (λ x. x.cols) same;
  entries = λ i j.
      let here = (plain_of_rows-has_lanes R f m sound_m).places i j in
      let there = (plain_of_rows-has_lanes R f a sound_a).places (get_or p i 0) (get_or p j 0) in
      let places = ap (λ x. x.has i j) same in
      let n = a.pattern.major_dim in
      let k = a.pattern.minor_dim in (
        λ entry.
            let both = and_parts _ _ (sym places ∙ here.0 entry) in
            let inside = and_parts _ _ both.0 in
            (below_is i n inside.0, below_is j k inside.1, there.1 both.1),
        λ h. here.1 (places ∙ and_both _ _ (both_below i n j k h.0 h.1) (there.0 h.2)),
      );
}
