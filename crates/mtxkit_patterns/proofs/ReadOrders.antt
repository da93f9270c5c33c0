-- An order that a text means, or the fault of its numbers.
use Rattle.std.proofs.Common.{◌≡◌, ℕ, ℤ, pos, ◌+◌, ◌<◌, ◌^◌, List, length, map, get_or, refl, sym, ap, subst}
use Rattle.std.proofs.Common.{◌∙◌, inl, arith}
use Rattle.std.proofs.lemmas.List.{length-map}
use Rattle.sparse_coo_dense.specs.Coo.{Coo}
use Rattle.sparse_permutation.specs.PermutationFaults.{IsFirstFault}
use Rattle.sparse_permutation.specs.Permutations.{IsOrder}
use Rattle.sparse_permutation.specs.declared.error.PermutationError.{PermutationError}
use Rattle.sparse_permutation.specs.declared.error.PermutationError.TheVariants.{IndexOutOfBounds}
use Rattle.sparse_permutation.specs.declared.error.PermutationError.TheVariants.{RepeatedIndex}
use Rattle.sparse_permutation.specs.declared.error.PermutationError.TheVariants as permutation
use Rattle.mtxkit_texts.specs.Loaded.{MeansIntegers}
use Rattle.mtxkit_patterns.specs.OrderLists.{IsColumn, numbers_of, index_of}
use Rattle.mtxkit_patterns.specs.Orders.{MeansOrder, IsMisordered, order_error}
use Rattle.mtxkit_patterns.proofs.CountedIndices.{counted_all}

module _ (text : List ℕ) (list : Coo ℤ) (indices : List ℕ) (means : MeansIntegers text list)
    (column : IsColumn list) (e : indices ≡ map index_of (numbers_of list)) where
  pub means_order : IsOrder indices → length list.triplets < 2 ^ 60 → MeansOrder text indices
  means_order valid short =
      let long : length (map index_of (numbers_of list)) ≡ length list.triplets =
      length-map (numbers_of list) index_of ∙ length-map list.triplets (λ (t : ℕ × ℕ × ℤ). t.2) in
      let few : (k : ℕ) → k < length (map index_of (numbers_of list))
      → get_or (map index_of (numbers_of list)) k 0 + 1 < 2 ^ 64 =
      λ k lt. omega (arith, (subst IsOrder e valid k lt).below, long, short) in
      record {
        list = list;
        means = means;
        column = column;
        numbers = counted_all (numbers_of list) few ∙ ap (map (λ i. pos (i + 1))) (sym e);
        valid = valid;
      }

  pub misordered : (number : ℕ) (error : PermutationError) → IsFirstFault indices error
      → IsMisordered number text (order_error number error)
  misordered number (IndexOutOfBounds k) fault = (
    refl,
    record {
      list = list;
      means = means;
      column = column;
      first = subst (λ xs. IsFirstFault xs (IndexOutOfBounds k)) e fault;
    },
  )
  misordered number (RepeatedIndex k) fault = (
    refl,
    record {
      list = list;
      means = means;
      column = column;
      first = subst (λ xs. IsFirstFault xs (RepeatedIndex k)) e fault;
    },
  )
  misordered number permutation.OutOfMemory fault = inl refl
