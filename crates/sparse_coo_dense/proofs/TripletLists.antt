-- Lists of triplets, zipped from lists of rows, columns and values.
use Rattle.std.proofs.Common.{◌≡◌, ℕ, zero, suc, ◌+◌, ◌<◌, List, [], ◌∷◌, ◌++◌, length, take}
use Rattle.std.proofs.Common.{get_or, map, All, refl, ap, sym, ◌∙◌, arith}
use Rattle.std.proofs.lemmas.List.{take_more, length-append}
use Rattle.std.proofs.lemmas.List.Elements.{All-push}
use Rattle.sparse_coo_dense.specs.Coo.{coo_of, zip_triplets, AreParts, IsInside}

module _ {T : Type 0} where
  pub length-triplets : (is js : List ℕ) (vs : List T) → length is ≡ length vs
      → length js ≡ length vs → length (zip_triplets is js vs) ≡ length vs
  length-triplets [] js [] e f = refl
  length-triplets [] js (v ∷ vs) e f = absurd (omega arith)
  length-triplets (i ∷ is) js [] e f = absurd (omega arith)
  length-triplets (i ∷ is) [] (v ∷ vs) e f = absurd (omega arith)
  length-triplets (i ∷ is) (j ∷ js) (v ∷ vs) e f =
      omega (arith, length-triplets is js vs (omega arith) (omega arith))

  pub triplets-push : (is js : List ℕ) (vs : List T) (i j : ℕ) (v : T) → length is ≡ length vs
      → length js ≡ length vs
      → zip_triplets (is ++ i ∷ []) (js ++ j ∷ []) (vs ++ v ∷ []) ≡ zip_triplets is js vs
      ++ (i, j, v) ∷ []
  triplets-push [] [] [] i j v e f = refl
  triplets-push [] (x ∷ js) [] i j v e f = absurd (omega arith)
  triplets-push [] js (x ∷ vs) i j v e f = absurd (omega arith)
  triplets-push (x ∷ is) js [] i j v e f = absurd (omega arith)
  triplets-push (x ∷ is) [] (z ∷ vs) i j v e f = absurd (omega arith)
  triplets-push (x ∷ is) (y ∷ js) (z ∷ vs) i j v e f =
      ap (λ ts. (x, y, z) ∷ ts) (triplets-push is js vs i j v (omega arith) (omega arith))

  pub sound_push : (n m : ℕ) (is js : List ℕ) (vs : List T) (i j : ℕ) (v : T)
      → AreParts n m is js vs → i < n → j < m
      → AreParts n m (is ++ i ∷ []) (js ++ j ∷ []) (vs ++ v ∷ [])
  sound_push n m is js vs i j v sound row col = record {
    row_count = omega (
      arith,
      length-append is (i ∷ []),
      length-append vs (v ∷ []),
      sound.row_count,
    );
    col_count = omega (
      arith,
      length-append js (j ∷ []),
      length-append vs (v ∷ []),
      sound.col_count,
    );
    rows_bounded = All-push (λ i. i < n) is i sound.rows_bounded row;
    cols_bounded = All-push (λ j. j < m) js j sound.cols_bounded col;
  }

module _ {T : Type 0} where
  pub row_at : (is js : List ℕ) (vs : List T) (k : ℕ) (t : ℕ × ℕ × T) → length is ≡ length vs
      → length js ≡ length vs → k < length vs
      → ((get_or (zip_triplets is js vs) k t).0 ≡ get_or is k 0)
      × ((get_or (zip_triplets is js vs) k t).1 ≡ get_or js k 0)
  row_at [] js [] k t e f lt = absurd (omega arith)
  row_at [] js (v ∷ vs) k t e f lt = absurd (omega arith)
  row_at (i ∷ is) js [] k t e f lt = absurd (omega arith)
  row_at (i ∷ is) [] (v ∷ vs) k t e f lt = absurd (omega arith)
  row_at (i ∷ is) (j ∷ js) (v ∷ vs) zero t e f lt = (refl, refl)
  row_at (i ∷ is) (j ∷ js) (v ∷ vs) (suc k) t e f lt =
      row_at is js vs k t (omega arith) (omega arith) (omega arith)

  pub bounded : (n m : ℕ) (is js : List ℕ) (vs : List T) → AreParts n m is js vs
      → All (λ t. (t.0 < n) × (t.1 < m)) (zip_triplets is js vs)
  bounded n m is js vs sound k t lt =
      let long = length-triplets is js vs sound.row_count sound.col_count in
      let within : k < length vs = omega (arith, long, lt) in
      let both = row_at is js vs k t sound.row_count sound.col_count within in (
        rw both.0 (sound.rows_bounded k 0 (omega (arith, sound.row_count))),
        rw both.1 (sound.cols_bounded k 0 (omega (arith, sound.col_count))),
      )

  pub triplet_at : (is js : List ℕ) (vs : List T) (k : ℕ) (i j : ℕ) (v : T) → length is ≡ length vs
      → length js ≡ length vs → k < length vs → i ≡ get_or is k i → j ≡ get_or js k j
      → v ≡ get_or vs k v
      → take (k + 1) (zip_triplets is js vs) ≡ take k (zip_triplets is js vs) ++ (i, j, v) ∷ []
  triplet_at is js vs k i j v e f lt ei ej ev =
      take_more (zip_triplets is js vs) k (i, j, v) (rw (length-triplets is js vs e f) lt)
      ∙ ap (λ t. take k (zip_triplets is js vs) ++ t ∷ []) (read is js vs k i j v e f lt ei ej ev)
    where
      read : (is js : List ℕ) (vs : List T) (k : ℕ) (i j : ℕ) (v : T) → length is ≡ length vs
          → length js ≡ length vs → k < length vs → i ≡ get_or is k i → j ≡ get_or js k j
          → v ≡ get_or vs k v → get_or (zip_triplets is js vs) k (i, j, v) ≡ (i, j, v)
      read [] js [] k i j v e f lt ei ej ev = absurd (omega arith)
      read [] js (x ∷ vs) k i j v e f lt ei ej ev = absurd (omega arith)
      read (a ∷ is) js [] k i j v e f lt ei ej ev = absurd (omega arith)
      read (a ∷ is) [] (x ∷ vs) k i j v e f lt ei ej ev = absurd (omega arith)
      read (a ∷ is) (b ∷ js) (x ∷ vs) zero i j v e f lt ei ej ev = cc
      read (a ∷ is) (b ∷ js) (x ∷ vs) (suc k) i j v e f lt ei ej ev =
          read is js vs k i j v (omega arith) (omega arith) (omega arith) ei ej ev

  -- the rows, columns and values of the zipped triplets are the three lists
  pub rows-zip : (is js : List ℕ) (vs : List T) → length is ≡ length vs → length js ≡ length vs
      → map (λ (t : ℕ × ℕ × T). t.0) (zip_triplets is js vs) ≡ is
  rows-zip [] js vs e f = refl
  rows-zip (i ∷ is) js [] e f = absurd (omega arith)
  rows-zip (i ∷ is) [] (v ∷ vs) e f = absurd (omega arith)
  rows-zip (i ∷ is) (j ∷ js) (v ∷ vs) e f =
      ap (λ l. i ∷ l) (rows-zip is js vs (omega arith) (omega arith))

  pub cols-zip : (is js : List ℕ) (vs : List T) → length is ≡ length vs → length js ≡ length vs
      → map (λ (t : ℕ × ℕ × T). t.1) (zip_triplets is js vs) ≡ js
  cols-zip [] [] vs e f = refl
  cols-zip [] (j ∷ js) vs e f = absurd (omega arith)
  cols-zip (i ∷ is) js [] e f = absurd (omega arith)
  cols-zip (i ∷ is) [] (v ∷ vs) e f = absurd (omega arith)
  cols-zip (i ∷ is) (j ∷ js) (v ∷ vs) e f =
      ap (λ l. j ∷ l) (cols-zip is js vs (omega arith) (omega arith))

  pub values-zip : (is js : List ℕ) (vs : List T) → length is ≡ length vs → length js ≡ length vs
      → map (λ (t : ℕ × ℕ × T). t.2) (zip_triplets is js vs) ≡ vs
  values-zip [] js [] e f = refl
  values-zip [] js (v ∷ vs) e f = absurd (omega arith)
  values-zip (i ∷ is) js [] e f = absurd (omega arith)
  values-zip (i ∷ is) [] (v ∷ vs) e f = absurd (omega arith)
  values-zip (i ∷ is) (j ∷ js) (v ∷ vs) e f =
      ap (λ l. v ∷ l) (values-zip is js vs (omega arith) (omega arith))

  -- the same for the three lists of a matrix
  module _ {nrows ncols : ℕ} {is js : List ℕ} {vs : List T} where
    pub rows_back : AreParts nrows ncols is js vs → is ≡ map (λ t. t.0) (zip_triplets is js vs)
    rows_back parts = sym (rows-zip is js vs parts.row_count parts.col_count)

    pub cols_back : AreParts nrows ncols is js vs → js ≡ map (λ t. t.1) (zip_triplets is js vs)
    cols_back parts = sym (cols-zip is js vs parts.row_count parts.col_count)

    pub values_back : AreParts nrows ncols is js vs → vs ≡ map (λ t. t.2) (zip_triplets is js vs)
    values_back parts = sym (values-zip is js vs parts.row_count parts.col_count)

    pub parts_inside : AreParts nrows ncols is js vs
        → IsInside (coo_of nrows ncols (zip_triplets is js vs))
    parts_inside = bounded nrows ncols is js vs
