-- A list whose integers are replaced by values of `W128` with the same numbers.
use Rattle.std.proofs.Common.{◌≡◌, ℤ, List, map, sym, ap, ◌∙◌, map-id}
use Rattle.std.specs.Int.{w128}
use Rattle.sparse_algebra.specs.Whole.{whole_ring, plain_wrapped}
use Rattle.sparse_algebra.specs.WrappingValues.{w128_number}
use Rattle.sparse_algebra.specs.declared.scalar.wide.W128.{W128}
use Rattle.sparse_algebra.proofs.WholeNumbers.{wrapped-triplets}
use Rattle.sparse_coo_dense.specs.Coo.{Coo}
use Rattle.sparse_coo_dense.specs.CooPlain.{plain_of_coo}
use Rattle.mtxkit_texts.specs.Loaded.{ring128, value128, sums_of}
use Rattle.mtxkit_texts.proofs.Revalued.{revalued, plain-revalued}

module _ (list : Coo ℤ) (vs : List W128) (same : map w128_number vs ≡ map (λ t. t.2) list.triplets) where
  wide-whole : plain_of_coo whole_ring w128_number (revalued list vs) ≡ sums_of list
  wide-whole = plain-revalued list vs whole_ring w128_number (λ z. z) (same ∙ sym (map-id _))

  pub wide-wrapped : plain_of_coo ring128 value128 (revalued list vs) ≡ plain_wrapped w128 (sums_of list)
  wide-wrapped =
      let wide = revalued list vs in
      sym (wrapped-triplets w128 w128_number wide.nrows wide.ncols wide.triplets (λ x. x.in_range))
      ∙ ap (plain_wrapped w128) wide-whole
