-- The plain matrices of lists by columns: public laws, for proofs of crates above too.
-- - `plain_of_transposed_list`: the transposed triplets have the transposed plain matrix
-- - `columns-list`: the list of a CSC matrix has its plain matrix
use Rattle.std.proofs.Common.{◌≡◌, ℕ, List, map, nat_eq, ap, refl, ◌∙◌}
use Rattle.sparse_algebra.specs.Algebra.{CommRing}
use Rattle.sparse_algebra.specs.Sums.{where_true}
use Rattle.sparse_algebra.specs.Plain.{is_at, plain_of_triplets, plain_transpose}
use Rattle.sparse_algebra.proofs.PlainLemmas.{and_comm, same_plain}
use Rattle.sparse_algebra.proofs.SumLemmas.{sum_by-same}
use Rattle.sparse_coo_dense.specs.CooPlain.{plain_of_coo}
use Rattle.sparse_compressed.specs.Compressed.{Compressed, lane_triplets, transposed}
use Rattle.sparse_compressed.specs.PlainOfLanes.{plain_of_cols}
use Rattle.sparse_convert.specs.OneMatrix.{coo_of_cols}
use Rattle.sparse_convert.proofs.Folds.{any-map, any-same, sum_by-map}

module _ (R : CommRing) {T : Type 0} (f : T → R.Carrier) where
  pub plain_of_transposed_list : (rows cols : ℕ) (ts : List (ℕ × ℕ × T))
      → plain_of_triplets R f cols rows (map transposed ts)
      ≡ plain_transpose R (plain_of_triplets R f rows cols ts)
  plain_of_transposed_list rows cols ts = same_plain _ _ refl refl
      (λ i j. any-map (is_at i j) transposed ts
      ∙ any-same _ _ (λ t. and_comm (nat_eq t.1 i) (nat_eq t.0 j)) ts)
      (λ i j. sum_by-map R (λ t. where_true R (is_at i j t) (f t.2)) transposed ts
      ∙ sum_by-same R _ _ (λ t. ap (λ b. where_true R b (f t.2))
      (and_comm (nat_eq t.1 i) (nat_eq t.0 j))) ts)

  pub columns-list : (m : Compressed T) → plain_of_coo R f (coo_of_cols m) ≡ plain_of_cols R f m
  columns-list m = plain_of_transposed_list m.pattern.major_dim m.pattern.minor_dim (lane_triplets m)
