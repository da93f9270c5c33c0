-- Systems whose matrices are lists of integers.
use Rattle.std.specs.Prelude.{◌≡◌, ◌⊎◌, ℕ, ℤ, pos, List, All, codes, map, Option}
use Rattle.std.specs.Prelude.{Result, Ok, Err}
use Rattle.std.specs.Fmt.{signed_decimal}
use Rattle.std.specs.Int.{w128}
use Rattle.sparse_algebra.specs.Algebra.{CommRing}
use Rattle.sparse_algebra.specs.Plain.{Plain, plain_product}
use Rattle.sparse_coo_dense.specs.Coo.{Coo}
use Rattle.sparse_coo_dense.specs.CooPlain.{plain_of_coo}
use Rattle.sparse_algebra.specs.Integers.{element_of}
use Rattle.sparse_io.specs.Written.{text_with}
use Rattle.sparse_io.specs.declared.banner.Banner.TheVariants.{MixedCase}
use Rattle.sparse_market_scalar.specs.ScalarTypes.{signed_scalar}
use Rattle.sparse_dense_ops.specs.Solutions.{HasSameValues}
use Rattle.mtxkit_matrices.specs.Coordinates.{dimensions_of}
use Rattle.mtxkit_matrices.specs.Differences.{IsFirstDifference, IsFirstAsymmetry}
use Rattle.mtxkit_matrices.specs.Values.{IsSymmetricMatrix}
use Rattle.mtxkit_matrices.specs.Orders.{IsByColumns, coordinates_of}
use Rattle.mtxkit_matrices.specs.Pivots.{IsSingularPivot}
use Rattle.mtxkit_matrices.specs.Systems.{IsEquation, IsSystem}
use Rattle.mtxkit_matrices.specs.declared.orders.EliminationOrder.{EliminationOrder}
use Rattle.mtxkit_texts.specs.Loaded.{IsRefused, MeansIntegers}
use Rattle.mtxkit_texts.specs.declared.failure.Failure.{Failure}
use Rattle.mtxkit_texts.specs.declared.failure.Failure.TheVariants.{Shapes, ProductShapes}
use Rattle.mtxkit_texts.specs.declared.failure.Failure.TheVariants.{NotSymmetric, NoFactors}
use Rattle.mtxkit_texts.specs.declared.failure.Failure.TheVariants.{NotSolution, Modulus}
use Rattle.mtxkit_texts.specs.declared.failure.Failure.TheVariants.{OutOfMemory}
use Rattle.mtxkit_eval.specs.Moduli.{IsUnlisted}
use Rattle.mtxkit_eval.specs.Rings.{ring_of, reduced_by, ring_value}

-- ---- lists of integers, each of which represents a ring element: the integer times one

module _ (R : CommRing) where
  abbrev pub plain_of_integers : Coo ℤ → Plain R
  plain_of_integers list = plain_of_coo R (element_of R) list

  -- A X has the values of B in the ring
  abbrev pub IsProduct : Coo ℤ → Coo ℤ → Coo ℤ → Type 0
  IsProduct a x b = HasSameValues R b.nrows b.ncols
      (plain_product R (plain_of_integers a) (plain_of_integers x)) (plain_of_integers b)

  -- A X = B; X is ordered column by column, without zeros and duplicates, and its values are reduced
  pub record Solves (reduced : ℤ → ℤ) (a x b : Coo ℤ) : Type 0 where
    pub system : IsSystem a b
    pub symmetric : IsSymmetricMatrix R (plain_of_integers a)
    pub rows : x.nrows ≡ a.ncols
    pub cols : x.ncols ≡ b.ncols
    pub product : IsProduct a x b
    pub order : IsByColumns (coordinates_of x.triplets)
    pub nonzero : All (λ z. z ≡ pos 0 → ⊥) (map (λ t. t.2) x.triplets)
    pub values : All (λ z. reduced z ≡ z) (map (λ t. t.2) x.triplets)

  -- why the system is not solved: the shapes, which the failure has, do not fit; or they fit, and A differs from its
  -- transpose, at first where the failure says; or A is symmetric, and the pivot of the failure has no inverse in the
  -- order that is asked for, modulo the number m of the ring
  abbrev pub IsUnsolved : {T : Type 0} → (T → R.Carrier) → Option ℕ → EliminationOrder → Coo ℤ → Coo ℤ → Failure
      → Type 0
  IsUnsolved g m order a b (Shapes first second) =
      (IsSystem a b → ⊥) × (first ≡ dimensions_of a) × (second ≡ dimensions_of b)
  IsUnsolved g m order a b (NotSymmetric at) =
      IsSystem a b × IsFirstAsymmetry R (plain_of_integers a) at.row at.col
  IsUnsolved g m order a b (NoFactors modulus pivot) = IsSystem a b × (modulus ≡ m)
      × IsSymmetricMatrix R (plain_of_integers a)
      × IsSingularPivot R g order (plain_of_integers a) pivot
  IsUnsolved g m order a b OutOfMemory = Unit {0}
  IsUnsolved g m order a b failure = ⊥

  abbrev pub IsSolved : {T : Type 0} → (T → R.Carrier) → (ℤ → ℤ) → Option ℕ → EliminationOrder → Coo ℤ → Coo ℤ
      → Result (Coo ℤ) Failure → Type 0
  IsSolved g reduced m order a b (Ok x) = Solves reduced a x b
  IsSolved g reduced m order a b (Err failure) = IsUnsolved g m order a b failure

  -- why a solution is not confirmed: the shapes, which the failure has, do not fit; or they fit, and A X differs from
  -- B, at first where the failure says
  abbrev pub IsUntested : Coo ℤ → Coo ℤ → Coo ℤ → Failure → Type 0
  IsUntested a x b (ProductShapes first second third) =
      (IsEquation a x b → ⊥) × (first ≡ dimensions_of a) × (second ≡ dimensions_of x)
      × (third ≡ dimensions_of b)
  IsUntested a x b (NotSolution at) = IsEquation a x b
      × IsFirstDifference R b.nrows b.ncols
      (plain_product R (plain_of_integers a) (plain_of_integers x)) (plain_of_integers b) at.row
      at.col
  IsUntested a x b OutOfMemory = Unit {0}
  IsUntested a x b failure = ⊥

  -- A X = B, or why that is not confirmed
  abbrev pub IsTested : Coo ℤ → Coo ℤ → Coo ℤ → Result (Unit {0}) Failure → Type 0
  IsTested a x b (Ok done) = IsEquation a x b × IsProduct a x b
  IsTested a x b (Err failure) = IsUntested a x b failure

-- ---- by the modulus that a command gives, if any

-- no modulus is given, or one that the program is built for
abbrev pub IsListed : Option ℕ → Type 0
IsListed m = IsUnlisted m → ⊥

-- why the system is not solved: the modulus is not listed; or it is, and the system is not solved in its ring
abbrev pub IsUnsolvedBy : Option ℕ → EliminationOrder → Coo ℤ → Coo ℤ → Failure → Type 0
IsUnsolvedBy m order a b Modulus = IsUnlisted m
IsUnsolvedBy m order a b failure =
    IsListed m × IsUnsolved (ring_of m) (ring_value m) m order a b failure

abbrev pub IsSolvedBy : Option ℕ → EliminationOrder → Coo ℤ → Coo ℤ → Result (Coo ℤ) Failure → Type 0
IsSolvedBy m order a b (Ok x) = IsListed m × Solves (ring_of m) (reduced_by m) a x b
IsSolvedBy m order a b (Err failure) = IsUnsolvedBy m order a b failure

-- why a solution is not confirmed: the modulus is not listed; or it is, and the solution is not confirmed in its ring
abbrev pub IsUntestedBy : Option ℕ → Coo ℤ → Coo ℤ → Coo ℤ → Failure → Type 0
IsUntestedBy m a x b Modulus = IsUnlisted m
IsUntestedBy m a x b failure = IsListed m × IsUntested (ring_of m) a x b failure

abbrev pub IsTestedBy : Option ℕ → Coo ℤ → Coo ℤ → Coo ℤ → Result (Unit {0}) Failure → Type 0
IsTestedBy m a x b (Ok done) = IsListed m × IsEquation a x b × IsProduct (ring_of m) a x b
IsTestedBy m a x b (Err failure) = IsUntestedBy m a x b failure

-- ---- texts

-- the text with this number has an error, read as integers
abbrev pub IsNoList : ℕ → List ℕ → Failure → Type 0
IsNoList number text failure = IsRefused (signed_scalar w128) number text failure

-- the second text has an error, and the first one means a list
abbrev pub IsSecondNoList : List ℕ → List ℕ → Failure → Type 0
IsSecondNoList first second failure =
    (list : Coo ℤ) × MeansIntegers first list × IsNoList 2 second failure

-- the third text has an error, and the first two mean lists
abbrev pub IsThirdNoList : List ℕ → List ℕ → List ℕ → Failure → Type 0
IsThirdNoList first second third failure = (one two : Coo ℤ)
    × MeansIntegers first one × MeansIntegers second two × IsNoList 3 third failure

-- the text of a matrix X for which A X = B, where the two texts mean A and B and the modulus is listed
pub record WritesSolution (m : Option ℕ) (first second written : List ℕ) : Type 0 where
  pub listed : IsListed m
  pub a : Coo ℤ
  pub x : Coo ℤ
  pub b : Coo ℤ
  pub first_means : MeansIntegers first a
  pub second_means : MeansIntegers second b
  pub solves : Solves (ring_of m) (reduced_by m) a x b
  pub is : written ≡ text_with MixedCase (codes "integer") signed_decimal x

-- the system of the matrices that the two texts mean is not solved
pub record HasNoSolution (m : Option ℕ) (order : EliminationOrder) (first second : List ℕ)
    (failure : Failure) : Type 0 where
  pub a : Coo ℤ
  pub b : Coo ℤ
  pub first_means : MeansIntegers first a
  pub second_means : MeansIntegers second b
  pub why : IsUnsolvedBy m order a b failure

-- why `solve_text` fails: an allocation failed, a text has an error and those before it have none, or the system is not
-- solved
abbrev pub IsSolveFailure : Option ℕ → EliminationOrder → List ℕ → List ℕ → Failure → Type 0
IsSolveFailure m order first second failure =
    (failure ≡ OutOfMemory) ⊎ (IsNoList 1 first failure ⊎ (IsSecondNoList first second failure
    ⊎ HasNoSolution m order first second failure))

-- the modulus is listed, the three texts mean A, X and B, and A X = B
abbrev pub MeansProduct : Option ℕ → List ℕ → List ℕ → List ℕ → Type 0
MeansProduct m first second third = IsListed m × (a x b : Coo ℤ)
    × MeansIntegers first a × MeansIntegers second x × MeansIntegers third b
    × IsEquation a x b × IsProduct (ring_of m) a x b

-- the line that says that A X = B, and A X = B
abbrev pub SaysProduct : Option ℕ → List ℕ → List ℕ → List ℕ → List ℕ → Type 0
SaysProduct m first second third written =
    MeansProduct m first second third × (written ≡ codes "A X = B\n")

-- the solution of the matrices that the three texts mean is not confirmed
pub record IsNoEquation (m : Option ℕ) (first second third : List ℕ) (failure : Failure)
    : Type 0 where
  pub a : Coo ℤ
  pub x : Coo ℤ
  pub b : Coo ℤ
  pub first_means : MeansIntegers first a
  pub second_means : MeansIntegers second x
  pub third_means : MeansIntegers third b
  pub why : IsUntestedBy m a x b failure

-- why `check_text` fails: an allocation failed, a text has an error and those before it have none, or the solution is
-- not confirmed
abbrev pub IsCheckFailure : Option ℕ → List ℕ → List ℕ → List ℕ → Failure → Type 0
IsCheckFailure m first second third failure =
    (failure ≡ OutOfMemory) ⊎ (IsNoList 1 first failure ⊎ (IsSecondNoList first second failure
    ⊎ (IsThirdNoList first second third failure ⊎ IsNoEquation m first second third failure)))
