-- The text of `mtxkit fill`.
use Rattle.std.specs.Prelude.{◌≡◌, ◌⊎◌, ℕ, List, length, Option, Some, None}
use Rattle.sparse_pattern.specs.Raw.{Raw}
use Rattle.sparse_permutation.specs.PermutedPatterns.{IsPermutedPattern}
use Rattle.sparse_permutation.specs.Permutations.{IsOrder}
use Rattle.mtxkit_facts.specs.declared.facts.ReportFormat.{ReportFormat}
use Rattle.mtxkit_facts.specs.declared.facts.ReportFormat.TheVariants.{Lines, Json}
use Rattle.mtxkit_patterns.specs.FillJson.{fill_json}
use Rattle.mtxkit_patterns.specs.Fills.{AreFillCounts, fill_lines}
use Rattle.mtxkit_patterns.specs.Orders.{MeansOrder, MeansPattern, IsMisordered}
use Rattle.mtxkit_patterns.specs.Permuted.{IsMisfitPattern}
use Rattle.mtxkit_patterns.specs.declared.counts.FillCounts.{FillCounts}
use Rattle.mtxkit_patterns.specs.declared.order_error.OrderError.{OrderError}
use Rattle.mtxkit_patterns.specs.declared.square.Method.{Method}

-- the counts as lines, or as an object in JSON
abbrev pub fill_in : ReportFormat → FillCounts → List ℕ
fill_in Lines s = fill_lines s
fill_in Json s = fill_json s

-- the facts about the fill of a square pattern, in this form
pub record SaysFill (form : ReportFormat) (pattern : Raw) (written : List ℕ) : Type 0 where
  pub counts : FillCounts
  pub are : AreFillCounts pattern counts
  pub is : written ≡ fill_in form counts

-- the facts about the fill of P A Pᵀ, for the pattern of A, which has as many rows as P
abbrev pub SaysFillIn : ReportFormat → List ℕ → Raw → List ℕ → Type 0
SaysFillIn form order pattern written = (pattern.major_dim ≡ length order) × ((permuted : Raw)
    × (IsPermutedPattern order pattern permuted × SaysFill form permuted written))

-- the same for the square pattern that the text means, in its own order, or in some order if a method is given
abbrev pub SaysFillBy : ReportFormat → Option Method → Raw → List ℕ → Type 0
SaysFillBy form None pattern written = SaysFill form pattern written
SaysFillBy form (Some method) pattern written =
    (order : List ℕ) × (IsOrder order × SaysFillIn form order pattern written)

abbrev pub WritesFill : ReportFormat → Option Method → List ℕ → List ℕ → Type 0
WritesFill form method text written = (pattern : Raw) × (MeansPattern text pattern
    × ((pattern.major_dim ≡ pattern.minor_dim) × SaysFillBy form method pattern written))

-- the same in the order that the first text means
abbrev pub WritesFillIn : ReportFormat → List ℕ → List ℕ → List ℕ → Type 0
WritesFillIn form first text written = (order : List ℕ) × (pattern : Raw)
    × (MeansOrder first order × (MeansPattern text pattern
    × ((pattern.major_dim ≡ pattern.minor_dim) × SaysFillIn form order pattern written)))

-- why the fill of the second text is not counted in the order of the first one: that means no order, or it means one
-- and the second text is at fault
abbrev pub IsUnfilled : List ℕ → List ℕ → OrderError → Type 0
IsUnfilled first text error = IsMisordered 1 first error
    ⊎ ((order : List ℕ) × (MeansOrder first order × IsMisfitPattern order text error))
