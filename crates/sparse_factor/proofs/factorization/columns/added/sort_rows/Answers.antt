use Rattle.std.specs.Cmp.{nat_eq_equiv}
use Rattle.std.proofs.Math.Dec.{eqb}
use Rattle.std.proofs.lemmas.Bool.Decides.{Decides-eqb}
use Rattle.std.proofs.lemmas.Map.Made.{IsDistinct-from_AllPairs}
use Rattle.std.proofs.lemmas.Map.Keys.{IsDistinct-IsPermutation, IsStrictlyIncreasing-from_distinct}
use Rattle.std.proofs.lemmas.List.Sorted.{IsNonDecreasingBy-from_sort, Contains-permutation}
use Rattle.std.proofs.lemmas.List.Sorted.{IsPermutation-sym}
use Rattle.sparse_factor.proofs.factorization.columns.added.sort_rows.Goals as goal

pub returns : goal.returns
returns c =
    let old = c.args.rows.now.items in
    let sorted = c.sort_unstable.new.self.items in
    let permuted = c.sort_unstable.ensures.permutation in
    record {
      rising = IsStrictlyIncreasing-from_distinct sorted
          (IsNonDecreasingBy-from_sort (λ x. x) sorted c.sort_unstable.ensures.sorted)
          (IsDistinct-IsPermutation eqb nat_eq_equiv.symm old sorted permuted
          (IsDistinct-from_AllPairs Decides-eqb old c.requires.once));
      same = λ row. (
        Contains-permutation sorted old row (IsPermutation-sym old sorted permuted),
        Contains-permutation old sorted row permuted,
      );
    }
