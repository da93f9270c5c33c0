-- The lanes of a pattern, counted by their numbers of entries.
use Rattle.std.specs.Prelude.{◌≡◌, ℕ, zero, suc, ◌+◌, ◌*◌, ◌<◌, Bool, ◌&&◌, nat_lt, nat_le, List}
use Rattle.std.specs.Prelude.{◌/◌, max, length, slice_index, sum, if◌then◌else◌}
use Rattle.sparse_pattern.specs.Raw.{Raw, IsValid, lane_of}
use Rattle.sparse_pattern.specs.TransposedPattern.{IsTransposedPattern}

-- the number of k < n that pass the test
abbrev pub count_below : ℕ → (ℕ → Bool) → ℕ
count_below zero test = 0
count_below (suc n) test = count_below n test + (if test n then 1 else 0)

-- the number of entries of lane k
abbrev pub size_of : Raw → ℕ → ℕ
size_of p k = length (lane_of p k)

-- the number of entries of the longest lane below n, or 0
abbrev pub longest_below : Raw → ℕ → ℕ
longest_below p zero = 0
longest_below p (suc n) = max (longest_below p n) (size_of p n)

-- the width of a line of the histogram, such that ten lines cover all lanes
abbrev pub line_width : Raw → ℕ
line_width p = longest_below p p.major_dim / 10 + 1

-- lane k has at least `from` and fewer than `to` entries
abbrev pub has_size_in : Raw → ℕ → ℕ → ℕ → Bool
has_size_in p from to k = nat_le from (size_of p k) && nat_lt (size_of p k) to

-- `count` is the number of empty lanes of the transposed pattern
pub record HasEmptyColumns (p : Raw) (count : ℕ) : Type 0 where
  pub transposed : Raw
  pub is : IsTransposedPattern p transposed
  pub valid : IsValid transposed
  pub counted : count ≡ count_below transposed.major_dim (has_size_in transposed 0 1)

-- count b is the number of lanes with at least b * `width` and fewer than (b + 1) * `width` entries,
-- for b < 10; the counts add up to the number of lanes
pub record IsHistogram (p : Raw) (width : ℕ) (counts : List ℕ) : Type 0 where
  pub exact : width ≡ line_width p
  pub lines : length counts ≡ 10
  pub each : (b : ℕ) → b < 10 → slice_index counts b
      ≡ count_below p.major_dim (has_size_in p (b * width) ((b + 1) * width))
  pub total : sum counts ≡ p.major_dim
