-- Orders of the rows and columns of matrices, and factors of matrices whose rows and columns are in a given order.
use Rattle.std.specs.Prelude.{◌≡◌, ◌≢◌, ◌⊎◌, ℕ, ◌<◌, List, length, take, Option, Some}
use Rattle.sparse_algebra.specs.Plain.{Plain}
use Rattle.sparse_algebra.specs.WrappingValues.{w64_value}
use Rattle.sparse_algebra.specs.declared.scalar.wrapping.W64.{W64}
use Rattle.c_arrays.specs.Arrays.{ring64}
use Rattle.c_arrays.specs.Rests.{KeepsBehind}
use Rattle.c_arrays.specs.declared.refusal.Refusal.{Refusal}
use Rattle.c_arrays.specs.declared.refusal.Refusal.TheVariants.{DuplicateEntry, IndexOutOfBounds}
use Rattle.c_arrays.specs.declared.refusal.Refusal.TheVariants.{InvalidStructure, Singular}
use Rattle.c_arrays.specs.declared.refusal.Refusal.TheVariants.{OutOfMemory as NoMemory, TooSmall}
use Rattle.sparse_compressed.specs.Compressed.{Compressed}
use Rattle.sparse_compressed.specs.PlainOfLanes.{plain_of_cols}
use Rattle.sparse_dense_ops.specs.Solutions.{HasSameValues}
use Rattle.sparse_factor.specs.Factorisations.{plain_symmetric, IsFactorisation}
use Rattle.sparse_factor.specs.Factors.{diagonal}
use Rattle.sparse_factor.specs.Fill.{InFill, PlainBase, StoresByColumns}
use Rattle.sparse_factor.specs.OrderedFactors.{plain_of_ordered, OrderedFactors}
use Rattle.sparse_permutation.specs.PermutationFaults.{IsFirstFault}
use Rattle.sparse_permutation.specs.Permutations.{IsOrder}
use Rattle.sparse_permutation.specs.PermutedPlain.{plain_permuted}
use Rattle.sparse_permutation.specs.declared.error.PermutationError.{PermutationError}
use Rattle.sparse_permutation.specs.declared.error.PermutationError.TheVariants as fault
use Rattle.c_handles.specs.Factored.{order_held, zero64}
use Rattle.c_handles.specs.Held.{plain_held, IsEmpty}
use Rattle.c_handles.specs.Solved.{IsNoSquare, IsSquare}
use Rattle.c_handles.specs.declared.held_factors.HeldFactors.{HeldFactors}
use Rattle.c_handles.specs.declared.held_factors.HeldFactors.TheVariants.{Ordered}

-- the array begins with the order, and is unchanged after it
pub record WritesOrder (order before after : List ℕ) : Type 0 where
  pub written : take (length order) after ≡ order
  pub rest : KeepsBehind (length order) before after

-- the array begins with some permutation of the numbers below n, and is unchanged after it
abbrev pub WritesSomeOrder : ℕ → List ℕ → List ℕ → Type 0
WritesSomeOrder n before after = (order : List ℕ) × IsOrder order × (length order ≡ n)
    × WritesOrder order before after

-- the matrix is square, and the array begins with some permutation of its rows
abbrev pub WritesOrderOf : Plain ring64 → List ℕ → List ℕ → Type 0
WritesOrderOf a before after = IsSquare a × WritesSomeOrder a.rows before after

-- the error of an array that is shorter than an order of n numbers
abbrev pub IsTooShort : ℕ → List ℕ → Refusal → Type 0
IsTooShort n room refusal = (refusal ≡ TooSmall) × (length room < n)

-- the error of a call that writes an order of the matrix of a handle: the handle holds no square matrix, or else the
-- array is too short
abbrev pub IsUnordered : Option (Compressed W64) → List ℕ → Refusal → Type 0
IsUnordered a room refusal = IsNoSquare a refusal
    ⊎ (IsSquare (plain_held a) × IsTooShort (plain_held a).rows room refusal)

-- the error of a call that writes the order of the factors of a handle: it is empty, or the array is too short
abbrev pub IsOrderUnwritten : Option HeldFactors → List ℕ → Refusal → Type 0
IsOrderUnwritten handle room refusal =
    IsEmpty handle refusal ⊎ IsTooShort (length (order_held handle)) room refusal

-- the error of a list with this fault
abbrev pub refusal_of_order : PermutationError → Refusal
refusal_of_order (fault.IndexOutOfBounds k) = IndexOutOfBounds
refusal_of_order (fault.RepeatedIndex k) = DuplicateEntry
refusal_of_order fault.OutOfMemory = NoMemory

-- the first fault of the list gives this error
pub record IsFaultOfOrder (order : List ℕ) (refusal : Refusal) : Type 0 where
  pub error : PermutationError
  pub first : IsFirstFault order error
  pub is : refusal ≡ refusal_of_order error

-- the error of a list that is no permutation of the numbers below n: its length is another, or else its first fault
abbrev pub IsNoOrder : ℕ → List ℕ → Refusal → Type 0
IsNoOrder n order refusal = ((refusal ≡ InvalidStructure) × (length order ≢ n))
    ⊎ ((length order ≡ n) × IsFaultOfOrder order refusal)

-- P A Pᵀ, where A is the symmetric matrix whose entries on and above the diagonal are those of a
abbrev pub permuted_symmetric : List ℕ → Plain ring64 → Plain ring64
permuted_symmetric p a = plain_permuted ring64 p (plain_symmetric ring64 a)

-- the matrix is square, p is a permutation of the rows of A, s has the factors of P A Pᵀ, where the entries of L are
-- exactly the fill, and so A is Pᵀ L D Lᵀ P
pub record AreFactorsInOrder (a : Plain ring64) (p : List ℕ) (s : OrderedFactors W64) : Type 0 where
  pub square : IsSquare a
  pub valid : IsOrder p
  pub count : length p ≡ a.rows
  pub order : s.order ≡ p
  pub entries : StoresByColumns (InFill (PlainBase (permuted_symmetric p a))) s.factors.l.pattern
  pub factors : IsFactorisation ring64 w64_value (permuted_symmetric p a)
      (plain_of_cols ring64 w64_value s.factors.l) (diagonal ring64 w64_value zero64 s.factors.d)
  pub equation : HasSameValues ring64 a.rows a.rows (plain_of_ordered ring64 w64_value zero64 s)
      (plain_symmetric ring64 a)

-- the handle holds such factors
abbrev pub HoldsFactorsInOrder : Option HeldFactors → List ℕ → Plain ring64 → Type 0
HoldsFactorsInOrder handle p a = (s : OrderedFactors W64) × (handle ≡ Some (Ordered s))
    × AreFactorsInOrder a p s

-- the error of a factorisation in the order p: the handle holds no square matrix, or else p is no permutation of its
-- rows, or else P A Pᵀ has no factors L and D
abbrev pub IsUnfactoredInOrder : Option (Compressed W64) → List ℕ → Refusal → Type 0
IsUnfactoredInOrder a p refusal = IsNoSquare a refusal ⊎ (IsSquare (plain_held a)
    × (IsNoOrder (plain_held a).rows p refusal ⊎ (IsOrder p × (length p ≡ (plain_held a).rows)
    × (refusal ≡ Singular) × ((l : Plain ring64) (d : ℕ → ring64.Carrier)
    → IsFactorisation ring64 w64_value (permuted_symmetric p (plain_held a)) l d → ⊥))))
