-- Zipping the lists of the rows, columns and values of a matrix gives the matrix again.
use Rattle.std.proofs.Common.{◌≡◌, ℕ, ◌<◌, All, List, length, map, ap, subst, sym, ◌∙◌}
use Rattle.std.proofs.lemmas.List.{length-map}
use Rattle.std.proofs.lemmas.List.Elements.{All-map}
use Rattle.sparse_coo_dense.specs.Coo.{Coo, coo_of, zip_triplets, AreParts, IsInside}
use Rattle.sparse_coo_dense.proofs.TripletRuns.{zip-split}

module _ {T : Type 0} where
  pub coo-split : (m : Coo T) (rows cols : List ℕ) (values : List T)
      → rows ≡ map (λ t. t.0) m.triplets → cols ≡ map (λ t. t.1) m.triplets
      → values ≡ map (λ t. t.2) m.triplets
      → coo_of m.nrows m.ncols (zip_triplets rows cols values) ≡ m
  coo-split m rows cols values er ec ev =
      ap (coo_of m.nrows m.ncols) (zip-split rows cols values m.triplets er ec ev)

  same_length : {X : Type 0} (f : ℕ × ℕ × T → X) (ts : List (ℕ × ℕ × T)) (xs : List X)
      (values : List T)
      → xs ≡ map f ts → values ≡ map (λ t. t.2) ts → length xs ≡ length values
  same_length f ts xs values e ev = rw (e, ev) (length-map ts f ∙ sym (length-map ts (λ t. t.2)))

  pub parts-split : (m : Coo T) (rows cols : List ℕ) (values : List T)
      → rows ≡ map (λ t. t.0) m.triplets → cols ≡ map (λ t. t.1) m.triplets
      → values ≡ map (λ t. t.2) m.triplets → IsInside m
      → AreParts m.nrows m.ncols rows cols values
  parts-split m rows cols values er ec ev inside = record {
    row_count = same_length (λ t. t.0) m.triplets rows values er ev;
    col_count = same_length (λ t. t.1) m.triplets cols values ec ev;
    rows_bounded = subst (All (λ i. i < m.nrows)) (sym er)
        (All-map (λ i. i < m.nrows) (λ t. t.0) m.triplets (λ k d lt. (inside k d lt).0));
    cols_bounded = subst (All (λ j. j < m.ncols)) (sym ec)
        (All-map (λ j. j < m.ncols) (λ t. t.1) m.triplets (λ k d lt. (inside k d lt).1));
  }
