-- Sums, differences, sums of multiples and products of two CSR matrices.
use Rattle.std.specs.Prelude.{◌≡◌, ℤ}
use Rattle.sparse_algebra.specs.Algebra.{CommRing}
use Rattle.sparse_algebra.specs.Integers.{element_of}
use Rattle.sparse_algebra.specs.Plain.{Plain, plain_sum, plain_difference}
use Rattle.sparse_algebra.specs.Plain.{plain_product, plain_scaled}
use Rattle.sparse_compressed.specs.Compressed.{Compressed, IsSound}
use Rattle.sparse_c.specs.Rooms.{WritesIn}
use Rattle.sparse_c.specs.Scalars.{Scalars}
use Rattle.sparse_c.specs.declared.arguments.Combination.{Combination}
use Rattle.sparse_c.specs.declared.arguments.Combination.TheVariants.{Sum, Difference}
use Rattle.sparse_c.specs.declared.arguments.Combination.TheVariants.{Multiples, Product}
use Rattle.sparse_c.specs.declared.arguments.Pair.{Pair}
use Rattle.sparse_c.specs.declared.arguments.OutputArrays.{OutputArrays}
use Rattle.c_arrays.specs.Arrays.{plain_by_rows}
use Rattle.c_arrays.specs.Refused.{IsFaultOfPair}

-- the matrices have the same shape
abbrev pub HaveOneShape : Compressed ℤ → Compressed ℤ → Type 0
HaveOneShape a b = (a.pattern.major_dim ≡ b.pattern.major_dim)
    × (a.pattern.minor_dim ≡ b.pattern.minor_dim)

-- the combination is defined for the shapes of the matrices
abbrev pub HaveShapesFor : Combination → Compressed ℤ → Compressed ℤ → Type 0
HaveShapesFor Sum a b = HaveOneShape a b
HaveShapesFor Difference a b = HaveOneShape a b
HaveShapesFor Multiples a b = HaveOneShape a b
HaveShapesFor Product a b = a.pattern.minor_dim ≡ b.pattern.major_dim

-- the combination is defined only for matrices of the same shape
abbrev pub IsOfOneShape : Combination → Type 0
IsOfOneShape how = (a b : Compressed ℤ) → HaveShapesFor how a b → HaveOneShape a b

abbrev pub CanCombine : Pair → Type 0
CanCombine p = HaveShapesFor p.how p.a p.b

module _ (R : CommRing) where
  -- the combination of two matrices; s and t are the scales of Multiples
  abbrev pub combined_by : Combination → R.Carrier → Plain R → R.Carrier → Plain R → Plain R
  combined_by Sum s a t b = plain_sum R a b
  combined_by Difference s a t b = plain_difference R a b
  combined_by Multiples s a t b = plain_sum R (plain_scaled R s a) (plain_scaled R t b)
  combined_by Product s a t b = plain_product R a b

  abbrev pub combination_of : Pair → Plain R
  combination_of p = combined_by p.how (element_of R p.alpha) (plain_by_rows R p.a)
      (element_of R p.beta) (plain_by_rows R p.b)

  -- the combination with the scales s and t is alpha a + beta b, for all a and b
  abbrev pub IsSumOf : Combination → R.Carrier → R.Carrier → R.Carrier → R.Carrier → Type 0
  IsSumOf how s t alpha beta = (a b : Plain R)
      → combined_by how s a t b ≡ plain_sum R (plain_scaled R alpha a) (plain_scaled R beta b)

-- the contract of a call that combines a pair: its ring, the arrays before and after the call, and its status
abbrev pub Combines : Scalars → Pair → OutputArrays → OutputArrays → ℤ → Type 0
Combines S p =
    WritesIn S (IsSound p.a × IsSound p.b) (IsFaultOfPair p.a p.b) (combination_of S.ring p)
