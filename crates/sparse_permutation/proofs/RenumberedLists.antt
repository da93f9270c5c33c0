-- Lists of triplets whose indices are renumbered.
use Rattle.std.proofs.Common.{◌≡◌, ℕ, ◌<◌, List, [], ◌∷◌, length, map, get_or, All, ap, sym, ◌∙◌}
use Rattle.std.proofs.Common.{refl, arith}
use Rattle.std.proofs.lemmas.List.{length-map}
use Rattle.std.proofs.lemmas.List.Elements.{All-map}
use Rattle.sparse_coo_dense.specs.Coo.{Coo, AreParts, IsInside, zip_triplets}
use Rattle.sparse_permutation.specs.Permutations.{IsOrder}
use Rattle.sparse_permutation.specs.InnerRenumbered.{renumbered}
use Rattle.sparse_permutation.proofs.Orders.{order_below}

module _ {T : Type 0} where
  pub rows_below : (n m : ℕ) (ts : List (ℕ × ℕ × T)) → All (λ t. (t.0 < n) × (t.1 < m)) ts
      → All (λ i. i < n) (map (λ t. t.0) ts)
  rows_below n m ts inside = All-map (λ i. i < n) (λ t. t.0) ts (λ k d less. (inside k d less).0)

  pub cols_below : (n m : ℕ) (ts : List (ℕ × ℕ × T)) → All (λ t. (t.0 < n) × (t.1 < m)) ts
      → All (λ j. j < m) (map (λ t. t.1) ts)
  cols_below n m ts inside = All-map (λ j. j < m) (λ t. t.1) ts (λ k d less. (inside k d less).1)

  -- the renumbered rows and columns, with the values, are the renumbered triplets
  pub zip_renumbered : (q : List ℕ) (ts : List (ℕ × ℕ × T))
      → zip_triplets (map (λ i. get_or q i 0) (map (λ t. t.0) ts))
      (map (λ i. get_or q i 0) (map (λ t. t.1) ts)) (map (λ t. t.2) ts)
      ≡ map (renumbered q) ts
  zip_renumbered q [] = refl
  zip_renumbered q (t ∷ ts) = ap (λ l. renumbered q t ∷ l) (zip_renumbered q ts)

  pub parts_renumbered : (q : List ℕ) (m : Coo T) → IsOrder q → m.nrows ≡ length q
      → m.ncols ≡ length q → IsInside m
      → AreParts m.nrows m.ncols (map (λ i. get_or q i 0) (map (λ t. t.0) m.triplets))
      (map (λ i. get_or q i 0) (map (λ t. t.1) m.triplets)) (map (λ t. t.2) m.triplets)
  parts_renumbered q m order rows cols inside =
      let ts = m.triplets in
      let number : ℕ → ℕ = λ i. get_or q i 0 in
      let row : ℕ × ℕ × T → ℕ = λ t. t.0 in
      let col : ℕ × ℕ × T → ℕ = λ t. t.1 in
      let value : ℕ × ℕ × T → T = λ t. t.2 in
      record {
        row_count = length-map (map row ts) number ∙ length-map ts row ∙ sym (length-map ts value);
        col_count = length-map (map col ts) number ∙ length-map ts col ∙ sym (length-map ts value);
        rows_bounded = All-map (λ i. i < m.nrows) number (map row ts)
            (All-map (λ i. number i < m.nrows) row ts (λ k d less.
            omega (
              arith,
              rows,
              order_below order (row (get_or ts k d))
                  (omega (arith, rows, (inside k d less).0)),
            )));
        cols_bounded = All-map (λ j. j < m.ncols) number (map col ts)
            (All-map (λ j. number j < m.ncols) col ts (λ k d less.
            omega (
              arith,
              cols,
              order_below order (col (get_or ts k d))
                  (omega (arith, cols, (inside k d less).1)),
            )));
      }

  -- lists of rows, columns and values that are renumbered
  pub lists_renumbered : (q : List ℕ) (m : Coo T) (rows cols new_rows new_cols : List ℕ)
      (values : List T)
      → IsOrder q → m.nrows ≡ length q → m.ncols ≡ length q → IsInside m
      → rows ≡ map (λ t. t.0) m.triplets → cols ≡ map (λ t. t.1) m.triplets
      → values ≡ map (λ t. t.2) m.triplets → new_rows ≡ map (λ i. get_or q i 0) rows
      → new_cols ≡ map (λ i. get_or q i 0) cols
      → AreParts m.nrows m.ncols new_rows new_cols values
      × (zip_triplets new_rows new_cols values ≡ map (renumbered q) m.triplets)
  lists_renumbered q m rows cols new_rows new_cols values order nrows ncols inside er ec ev fr fc =
      rw (fr, fc, er, ec, ev)
      (parts_renumbered q m order nrows ncols inside, zip_renumbered q m.triplets)
