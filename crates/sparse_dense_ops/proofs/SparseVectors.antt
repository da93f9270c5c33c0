-- Sparse vectors of which the first entries are dropped.
use Rattle.std.proofs.Common.{◌≡◌, ◌≢◌, ℕ, zero, suc, ◌+◌, ◌-◌, ◌<◌, ◌≤◌, List, [], ◌∷◌, length}
use Rattle.std.proofs.Common.{get_or, take, drop, slice_range, ap, sym, ◌∙◌, refl, arith}
use Rattle.std.specs.Prelude.{nat_eq}
use Rattle.std.proofs.lemmas.List.{drop-take, drop-drop}
use Rattle.sparse_algebra.proofs.Cases.{nat_eq_no}
use Rattle.sparse_algebra.specs.Algebra.{CommRing}
use Rattle.sparse_algebra.proofs.RingLemmas.{zero_add}
use Rattle.sparse_algebra.proofs.SumLemmas.{where_no}
use Rattle.sparse_compressed.proofs.LaneValues.{lane_value_none}
use Rattle.sparse_dense_ops.specs.SparseVectors.{sparse_elements}

module _ (R : CommRing) {T : Type 0} (f : T → R.Carrier) (i : ℕ) where
  no_values : (ks : List ℕ) → sparse_elements R f ks [] i ≡ R.zero
  no_values [] = refl
  no_values (k ∷ ks) = refl

  -- dropping entries whose index is not i keeps element i
  pub sparse_elements-drop : (p : ℕ) (ks : List ℕ) (vs : List T)
      → ((q : ℕ) → q < p → q < length ks → get_or ks q 0 ≢ i)
      → sparse_elements R f (drop p ks) (drop p vs) i ≡ sparse_elements R f ks vs i
  sparse_elements-drop zero ks vs others = refl
  sparse_elements-drop (suc p) [] vs others = refl
  sparse_elements-drop (suc p) (k ∷ ks) [] others = no_values (drop p ks)
  sparse_elements-drop (suc p) (k ∷ ks) (v ∷ vs) others =
      sparse_elements-drop p ks vs (λ q lt within. others (suc q) (omega arith) (omega arith))
      ∙ sym (ap (λ c. R.add c (sparse_elements R f ks vs i))
      (where_no R (nat_eq k i) (f v)
      (nat_eq_no k i (others 0 (omega arith) (omega arith)))) ∙ zero_add R _)

  -- element i is zero if no entry has the index i
  pub sparse_elements-none : (ks : List ℕ) (vs : List T)
      → ((q : ℕ) → q < length ks → get_or ks q 0 ≢ i) → sparse_elements R f ks vs i ≡ R.zero
  sparse_elements-none ks vs none = lane_value_none R f i ks vs none

-- dropping n elements of a range starts the range n later
pub drop_range : {X : Type 0} (xs : List X) (begin end n : ℕ) → begin + n ≤ end
    → drop n (slice_range xs begin end) ≡ slice_range xs (begin + n) end
drop_range xs begin end n le =
    let parts : end - begin ≡ n + (end - (begin + n)) = omega (arith, le) in
    ap (λ m. drop n (take m (drop begin xs))) parts
    ∙ drop-take n (end - (begin + n)) (drop begin xs)
    ∙ ap (take (end - (begin + n))) (drop-drop n begin xs)
