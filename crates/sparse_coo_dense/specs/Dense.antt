-- The value of a `DMatrix` in contracts.
use Rattle.std.specs.Prelude.{◌≡◌, ℕ, ◌+◌, ◌*◌, ◌<◌, List, length, slice_index_or, slice_set}
use Rattle.std.specs.Prelude.{slice_range, refl}
use Rattle.std.specs.Coded.{Coded, code_by, coded×, coded_ℕ, coded_list}
use Rattle.sparse_pattern.specs.Refill.{refill, refill_from}

-- the shape, and the values column by column
pub record Dense (T : Type 0) : Type 0 where
  pub nrows : ℕ
  pub ncols : ℕ
  pub values : List T

abbrev pub dense_code : {T : Type 0} → Coded T → Coded (Dense T)
dense_code {T} code = code_by (ℕ × (ℕ × List T)) (coded× coded_ℕ (coded× coded_ℕ (coded_list code)))
    (λ d. (d.nrows, (d.ncols, d.values)))
    (λ p. record { nrows = p.0; ncols = p.1.0; values = p.1.1 }) (λ _. refl)

module _ {T : Type 0} where
  abbrev pub dense_of : ℕ → ℕ → List T → Dense T
  dense_of nrows ncols values = record { nrows = nrows; ncols = ncols; values = values }

  -- the value at (i, j), or z if none is stored
  abbrev pub value_at : Dense T → ℕ → ℕ → T → T
  value_at d i j z = slice_index_or d.values (j * d.nrows + i) z

  -- the values of column j
  abbrev pub column_of : Dense T → ℕ → List T
  column_of d j = slice_range d.values (j * d.nrows) (j * d.nrows + d.nrows)

  -- the matrix with another value at (i, j)
  abbrev pub with_value_at : Dense T → ℕ → ℕ → T → Dense T
  with_value_at d i j w = record d { values = slice_set d.values (j * d.nrows + i) w }

  -- the matrix with the values ws written from the beginning of column j on
  abbrev pub with_column : Dense T → ℕ → List T → Dense T
  with_column d j ws = record d { values = refill_from d.values (j * d.nrows) ws }

  -- the matrix with other values
  abbrev pub with_values : Dense T → List T → Dense T
  with_values d ws = record d { values = refill d.values ws }

  -- d has this shape, and the value `value i j z` at each (i, j) within it
  pub record HasValues (nrows ncols : ℕ) (value : ℕ → ℕ → T → T) (d : Dense T) : Type 0 where
    pub rows : d.nrows ≡ nrows
    pub cols : d.ncols ≡ ncols
    pub count : length d.values ≡ nrows * ncols
    pub values : (i j : ℕ) (z : T) → i < nrows → j < ncols → value_at d i j z ≡ value i j z
