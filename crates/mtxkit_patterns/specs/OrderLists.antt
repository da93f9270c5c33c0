-- Lists of triplets that are columns of numbers.
use Rattle.std.specs.Prelude.{◌≡◌, ℕ, ℤ, pos, negsuc, ◌-◌, ◌^◌, ◌&&◌, nat_lt, if◌then◌else◌, List}
use Rattle.std.specs.Prelude.{map, length, slice_index, EachIndex}
use Rattle.sparse_coo_dense.specs.Coo.{Coo}

-- the triplets are those of a column from the top, one in each row
pub record IsColumn (list : Coo ℤ) : Type 0 where
  pub cols : list.ncols ≡ 1
  pub rows : length list.triplets ≡ list.nrows
  pub order : EachIndex (map (λ t. t.0) list.triplets)
      (λ k. slice_index (map (λ t. t.0) list.triplets) k ≡ k)

-- the values of the triplets, in order
abbrev pub numbers_of : Coo ℤ → List ℤ
numbers_of list = map (λ t. t.2) list.triplets

-- the index that a number counts from 1, or 2 ^ 64 - 1 if it counts none below
abbrev pub index_of : ℤ → ℕ
index_of (pos n) = if nat_lt 0 n && nat_lt n (2 ^ 64) then n - 1 else 2 ^ 64 - 1
index_of (negsuc n) = 2 ^ 64 - 1
