-- A list whose values are replaced by others that represent the same ring elements has the same plain matrix.
use Rattle.std.proofs.Common.{◌≡◌, ◌<◌, List, length, map, ap, sym, ◌∙◌, refl}
use Rattle.std.proofs.lemmas.List.{length-map}
use Rattle.std.proofs.lemmas.List.Elements.{All-map}
use Rattle.sparse_algebra.specs.Algebra.{CommRing}
use Rattle.sparse_algebra.specs.Plain.{plain_of_triplets}
use Rattle.sparse_coo_dense.specs.Coo.{Coo, IsInside, AreParts, coo_of, zip_triplets}
use Rattle.sparse_coo_dense.specs.CooPlain.{plain_of_coo}
use Rattle.sparse_coo_dense.proofs.TripletRuns.{zip-split}
use Rattle.sparse_coo_dense.proofs.Meanings.{list-meant, same_length}

module _ {X Y : Type 0} (list : Coo Y) (vs : List X) where
  -- the list with the values `vs`
  abbrev pub revalued : Coo X
  revalued = coo_of list.nrows list.ncols
      (zip_triplets (map (λ t. t.0) list.triplets) (map (λ t. t.1) list.triplets) vs)

  pub plain-revalued : (R : CommRing) (f : X → R.Carrier) (g : Y → R.Carrier)
      → map f vs ≡ map g (map (λ t. t.2) list.triplets)
      → plain_of_coo R f revalued ≡ plain_of_coo R g list
  plain-revalued R f g e =
      let is = map (λ t. t.0) list.triplets in
      let js = map (λ t. t.1) list.triplets in
      let ys = map (λ t. t.2) list.triplets in
      list-meant R f g list.nrows list.ncols is js vs ys e
      ∙ ap (plain_of_triplets R g list.nrows list.ncols)
      (zip-split is js ys list.triplets refl refl refl)

  pub length-revalued : (R : CommRing) (f : X → R.Carrier) (g : Y → R.Carrier)
      → map f vs ≡ map g (map (λ t. t.2) list.triplets) → length vs ≡ length list.triplets
  length-revalued R f g e = same_length R f g vs (map (λ t. t.2) list.triplets) e
      ∙ length-map list.triplets (λ t. t.2)

  -- the rows, the columns and other values of a list are parts of a list of triplets
  pub parts-revalued : length vs ≡ length list.triplets → IsInside list
      → AreParts list.nrows list.ncols (map (λ t. t.0) list.triplets)
      (map (λ t. t.1) list.triplets) vs
  parts-revalued same inside = record {
    row_count = length-map list.triplets (λ t. t.0) ∙ sym same;
    col_count = length-map list.triplets (λ t. t.1) ∙ sym same;
    rows_bounded = All-map (λ i. i < list.nrows) (λ t. t.0) list.triplets
        (λ k d lt. (inside k d lt).0);
    cols_bounded = All-map (λ j. j < list.ncols) (λ t. t.1) list.triplets
        (λ k d lt. (inside k d lt).1);
  }
