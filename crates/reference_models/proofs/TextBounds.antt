-- The bounds of triplets, tested before and after contracts see their values.
use Rattle.std.proofs.Common.{◌≡◌, ℕ, Bool, true, false, List, map, None, Ok, Err, refl, ◌∙◌}
use Rattle.std.specs.Prelude.{nat_lt, ◌&&◌}
use Rattle.std.specs.List.{list_all}
use Rattle.std.proofs.lemmas.List.Folds.{list_all-map}
use Rattle.sparse_pattern.specs.declared.error.SparseFormatErrorKind.TheVariants.{IndexOutOfBounds}
use Rattle.sparse_parser.specs.declared.error.MatrixMarketErrorKind.TheVariants.{SparseFormatError}
use Rattle.sparse_coo_dense.specs.Coo.{coo_of}
use Rattle.sparse_parser.specs.Scalars.{Scalar}
use Rattle.sparse_parser.specs.Meaning.{Triplet, value_triplet, is_inside, inside_of}

module _ (S : Scalar) {T : Type 0} (value : T → S.Value) (nrows ncols : ℕ)
    (ts : List (Triplet T)) where
  tested : (b : Bool) → list_all (λ t. nat_lt t.0 nrows && nat_lt t.1 ncols) ts ≡ b
      → list_all (is_inside S nrows ncols) (map (value_triplet value) ts) ≡ b
  tested b e = list_all-map (is_inside S nrows ncols) (value_triplet value) ts ∙ e

  pub all_inside : list_all (λ t. nat_lt t.0 nrows && nat_lt t.1 ncols) ts ≡ true
      → Ok (coo_of nrows ncols (map (value_triplet value) ts)) ≡ inside_of S (nrows, ncols, None)
      (map (value_triplet value) ts)
  all_inside e = rw (tested true e) refl

  pub some_outside : list_all (λ t. nat_lt t.0 nrows && nat_lt t.1 ncols) ts ≡ false
      → Err (SparseFormatError IndexOutOfBounds) ≡ inside_of S (nrows, ncols, None)
      (map (value_triplet value) ts)
  some_outside e = rw (tested false e) refl
