-- The value of a `CooMatrix` in contracts.
use Rattle.std.specs.Prelude.{◌≡◌, ℕ, ◌<◌, List, [], ◌∷◌, ◌++◌, All, length, refl}
use Rattle.std.specs.Coded.{Coded, code_by, coded×, coded_ℕ, coded_list}

-- the shape, and the triplets in order
pub record Coo (T : Type 0) : Type 0 where
  pub nrows : ℕ
  pub ncols : ℕ
  pub triplets : List (ℕ × ℕ × T)

abbrev pub triplet_code : {T : Type 0} → Coded T → Coded (ℕ × ℕ × T)
triplet_code {T} code = code_by (ℕ × (ℕ × T)) (coded× coded_ℕ (coded× coded_ℕ code))
    (λ t. (t.0, (t.1, t.2))) (λ p. (p.0, p.1.0, p.1.1)) (λ _. refl)

abbrev pub coo_code : {T : Type 0} → Coded T → Coded (Coo T)
coo_code {T} code = code_by (ℕ × (ℕ × List (ℕ × ℕ × T)))
    (coded× coded_ℕ (coded× coded_ℕ (coded_list (triplet_code code))))
    (λ m. (m.nrows, (m.ncols, m.triplets)))
    (λ p. record { nrows = p.0; ncols = p.1.0; triplets = p.1.1 }) (λ _. refl)

module _ {T : Type 0} where
  abbrev pub coo_of : ℕ → ℕ → List (ℕ × ℕ × T) → Coo T
  coo_of nrows ncols triplets = record { nrows = nrows; ncols = ncols; triplets = triplets }

  -- the triplets given by a list of rows, one of columns and one of values
  abbrev pub zip_triplets : List ℕ → List ℕ → List T → List (ℕ × ℕ × T)
  zip_triplets (i ∷ is) (j ∷ js) (v ∷ vs) = (i, j, v) ∷ zip_triplets is js vs
  zip_triplets _ _ _ = []

  -- m with more triplets appended
  abbrev pub appended : Coo T → List (ℕ × ℕ × T) → Coo T
  appended m more = coo_of m.nrows m.ncols (m.triplets ++ more)

  -- each triplet lies within the shape
  abbrev pub IsInside : Coo T → Type 0
  IsInside m = All (λ t. (t.0 < m.nrows) × (t.1 < m.ncols)) m.triplets

  -- three lists of the same length, with indices within the shape
  pub record AreParts (nrows ncols : ℕ) (rows cols : List ℕ) (values : List T) : Type 0 where
    pub row_count : length rows ≡ length values
    pub col_count : length cols ≡ length values
    pub rows_bounded : All (λ i. i < nrows) rows
    pub cols_bounded : All (λ j. j < ncols) cols
