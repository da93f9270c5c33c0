-- The fill of the factor of a square pattern.
use Rattle.std.specs.Prelude.{◌≡◌, ℕ, ◌-◌, ◌*◌, ◌/◌, ◌%◌, ◌==◌, if◌then◌else◌, List, ◌++◌, codes}
use Rattle.std.specs.Prelude.{length}
use Rattle.std.specs.Fmt.{decimal}
use Rattle.sparse_pattern.specs.Raw.{Raw, entries_of}
use Rattle.mtxkit_matrices.specs.FactLines.{line, count_line}
use Rattle.mtxkit_matrices.specs.Lanes.{longest_below}
use Rattle.mtxkit_patterns.specs.Columns.{IsHeight, count_lower, products_below}
use Rattle.mtxkit_patterns.specs.Factors.{IsFactor, IsSymmetrised}
use Rattle.mtxkit_patterns.specs.declared.counts.FillCounts.{FillCounts}

-- the counts are those of the pattern and of its factor
pub record AreFillCounts (a : Raw) (s : FillCounts) : Type 0 where
  pub union : Raw
  pub factor : Raw
  pub is_union : IsSymmetrised a union
  pub is_factor : IsFactor a factor
  pub places : s.places ≡ length a.indices
  pub lower : s.lower ≡ count_lower (entries_of union)
  pub factor_places : s.factor ≡ length factor.indices
  pub products : s.products ≡ products_below factor factor.major_dim
  pub longest : s.longest ≡ longest_below factor factor.major_dim
  pub height : IsHeight factor s.height

-- a quotient with two decimals, rounded down, or 1.00 if the divisor is 0
abbrev pub hundredths : ℕ → ℕ → ℕ
hundredths a b = if b == 0 then 100 else a * 100 / b

unfoldable pub ratio : ℕ → ℕ → List ℕ
ratio a b = decimal (hundredths a b / 100) ++ (codes "."
    ++ (decimal (hundredths a b / 10 % 10) ++ decimal (hundredths a b % 10)))

-- ---- the lines of `mtxkit fill`

-- the places of the pattern, of its lower triangle and of its factor
abbrev pub place_lines : FillCounts → List ℕ
place_lines s = count_line (codes "places") s.places
    ++ (count_line (codes "places of the lower triangle") s.lower
    ++ count_line (codes "places of the factor") s.factor)

abbrev pub cost_lines : FillCounts → List ℕ
cost_lines s = count_line (codes "multiplications") s.products
    ++ (count_line (codes "longest column") s.longest
    ++ count_line (codes "height of the elimination tree") s.height)

abbrev pub fill_lines : FillCounts → List ℕ
fill_lines s = place_lines s ++ (count_line (codes "fill") (s.factor - s.lower)
    ++ (line (codes "factor to lower triangle") (ratio s.factor s.lower) ++ cost_lines s))
