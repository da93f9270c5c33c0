-- Calls that factor a symmetric matrix A exactly as L D Lᵀ, and write L by columns and the diagonal of D to arrays. The
-- entries of A on and above the diagonal are those of a CSC matrix a. Calls that write the factors that a handle holds.
use Rattle.std.specs.Prelude.{◌≡◌, ◌≢◌, ◌≤◌, ◌<◌, ◌↔◌, ◌⊎◌, ℕ, ℤ, pos, true, List, length, map}
use Rattle.std.specs.Prelude.{slice_index_or, take, Option}
use Rattle.sparse_algebra.specs.Algebra.{CommRing}
use Rattle.sparse_algebra.specs.Plain.{Plain, plain_transpose}
use Rattle.sparse_compressed.specs.Compressed.{Compressed, IsSound}
use Rattle.sparse_compressed.specs.PlainOfLanes.{plain_of_rows}
use Rattle.sparse_factor.specs.Fill.{InFill, UpperBase}
use Rattle.sparse_factor.specs.Factorisations.{IsFactorisation}
use Rattle.c_handles.specs.Factored.{d_held, l_held}
use Rattle.c_handles.specs.Held.{IsEmpty}
use Rattle.c_handles.specs.declared.held_factors.HeldFactors.{HeldFactors}
use Rattle.sparse_c.specs.Rooms.{Shows}
use Rattle.sparse_c.specs.Scalars.{Scalars}
use Rattle.sparse_c.specs.Symmetric.{symmetric_by_cols, HasNoFactors}
use Rattle.sparse_c.specs.declared.arguments.FactorOutputArrays.{FactorOutputArrays}
use Rattle.sparse_c.specs.declared.arguments.Factored.{Factored}
use Rattle.c_arrays.specs.Arrays.{place_count, ring64, output_arrays, OutputArrays, HoldsCols, HoldsRows}
use Rattle.sparse_algebra.specs.Integers.{element_of}
use Rattle.c_arrays.specs.Refused.{IsFaultOf, IsRefusedFor, IsTooSmall}
use Rattle.c_arrays.specs.Rests.{KeepsBehind, KeepsRest}
use Rattle.c_arrays.specs.Statuses.{number_of, FindsNoFault}
use Rattle.c_arrays.specs.Untouched.{IsUntouched}
use Rattle.c_arrays.specs.declared.refusal.Refusal.{Refusal}
use Rattle.c_arrays.specs.declared.refusal.Refusal.TheVariants.{Singular, TooSmall}

-- the first n numbers as ring elements, followed by zeros
abbrev pub first_elements : (R : CommRing) → ℕ → List ℤ → ℕ → R.Carrier
first_elements R n numbers j = element_of R (slice_index_or (take n numbers) j (pos 0))

module _ (R : CommRing) {T : Type 0} (f : T → R.Carrier) where
  -- l and d are factors of A, and the places of l are exactly the fill
  pub record AreFactors (a : Compressed ℤ) (l : Plain R) (d : ℕ → R.Carrier) : Type 0 where
    pub factors : IsFactorisation R f (symmetric_by_cols R a) l d
    pub places : (i j : ℕ) → (l.has i j ≡ true) ↔ InFill (UpperBase a.pattern) i j

  -- the arrays start with the columns of L, and the array for the diagonal with that of D
  unfoldable pub WritesFactors : Compressed ℤ → OutputArrays → List ℤ → Type 0
  WritesFactors a room diagonal = (l : Plain R) × HoldsCols l room × (l.rows ≤ length diagonal)
      × AreFactors a l (first_elements R l.rows diagonal)

  -- the arrays start with the rows of the CSR matrix l, and the array for the diagonal with d
  abbrev pub HoldsFactors : Compressed T → List T → OutputArrays → List ℤ → Type 0
  HoldsFactors l d room pivots = HoldsRows (plain_of_rows R f l) room × (length d ≤ length pivots)
      × (map (element_of R) (take (length d) pivots) ≡ map f d)

  -- n is the number of places of a factor L of A
  abbrev pub CountsFactors : Compressed ℤ → ℕ → Type 0
  CountsFactors a n = (l : Plain R) × (d : ℕ → R.Carrier) × AreFactors a l d
      × (n ≡ place_count (plain_transpose R l))

  -- A has factors for which an array is too short
  abbrev pub AreFactorsTooLong : Compressed ℤ → OutputArrays → List ℤ → Type 0
  AreFactorsTooLong a room diagonal = (l : Plain R) × (d : ℕ → R.Carrier) × AreFactors a l d
      × (IsTooSmall (plain_transpose R l) room ⊎ (length diagonal < l.rows))

  -- the error of the first fault of the CSC matrix, or Singular if the matrix has no fault and A has no factors
  abbrev pub IsFaultOfFactors : Compressed ℤ → Refusal → Type 0
  IsFaultOfFactors a refusal =
      IsFaultOf a refusal ⊎ (IsSound a × (refusal ≡ Singular) × HasNoFactors R f a)

-- the contract of a call that factors A, with the arrays for L and the array for the diagonal before and after the
-- call, and its status. Fault: the error of the call
pub record Factorises (R : CommRing) {T : Type 0} (f : T → R.Carrier) (Fault : Refusal → Type 0)
    (a : Compressed ℤ) (before after : OutputArrays) (old new : List ℤ) (status : ℤ) : Type 0 where
  pub written : status ≡ pos 0 → WritesFactors R f a after new
  pub rest : status ≡ pos 0 → KeepsRest a.pattern.minor_dim before after
  pub rest_diagonal : status ≡ pos 0 → KeepsBehind a.pattern.minor_dim old new
  pub sound : FindsNoFault status → IsSound a
  pub untouched : status ≢ pos 0 → IsUntouched status before after
  pub untouched_diagonal : status ≢ pos 0 → new ≡ old
  pub needed : status ≡ number_of TooSmall → CountsFactors R f a after.places
  pub refused : status ≢ pos 0 → IsRefusedFor Fault (AreFactorsTooLong R f a before old) status

-- the contents of the arrays for L
abbrev pub l_in : FactorOutputArrays → OutputArrays
l_in r = output_arrays r.offsets.now r.indices.now r.values.now r.places.now

-- the same for a call over a ring, which writes only numbers that satisfy S.IsShown
pub record FactorisesIn (S : Scalars) (s : Factored) (before after : FactorOutputArrays) (status : ℤ)
    : Type 0 where
  pub answer : Factorises S.ring S.value (S.IsFault (IsFaultOfFactors S.ring S.value s.a)) s.a
      (l_in before) (l_in after) before.diagonal.now after.diagonal.now status
  pub shown : Shows S.IsShown after.places.now after.values.now status
  pub shown_diagonal : Shows S.IsShown s.a.pattern.minor_dim after.diagonal.now status
  pub offsets : after.offsets.ghost_name ≡ before.offsets.ghost_name
  pub indices : after.indices.ghost_name ≡ before.indices.ghost_name
  pub values : after.values.ghost_name ≡ before.values.ghost_name
  pub diagonal : after.diagonal.ghost_name ≡ before.diagonal.ghost_name
  pub places : after.places.ghost_name ≡ before.places.ghost_name

-- an array is too short for the factors that the handle holds
abbrev pub AreHeldFactorsTooLong : Option HeldFactors → OutputArrays → List ℤ → Type 0
AreHeldFactorsTooLong handle room diagonal = let l = l_held handle in
    IsTooSmall (plain_transpose ring64 l) room ⊎ (length diagonal < l.rows)

-- the contract of a call that writes the factors that the handle holds, with the arrays for L and the array for the
-- diagonal before and after the call, and its status
pub record WritesHeldFactors (handle : Option HeldFactors) (before after : OutputArrays)
    (old new : List ℤ) (status : ℤ) : Type 0 where
  -- at status 0 the arrays start with the columns of L, and the array for the diagonal with that of D
  pub columns : status ≡ pos 0 → HoldsCols (l_held handle) after
  pub room : status ≡ pos 0 → (l_held handle).rows ≤ length new
  pub diagonal : status ≡ pos 0
      → first_elements ring64 (l_held handle).rows new ≡ d_held handle
  pub rest : status ≡ pos 0 → KeepsRest (l_held handle).cols before after
  pub rest_diagonal : status ≡ pos 0 → KeepsBehind (l_held handle).rows old new
  pub untouched : status ≢ pos 0 → IsUntouched status before after
  pub untouched_diagonal : status ≢ pos 0 → new ≡ old
  pub needed : status ≡ number_of TooSmall
      → after.places ≡ place_count (plain_transpose ring64 (l_held handle))
  pub refused : status ≢ pos 0
      → IsRefusedFor (IsEmpty handle) (AreHeldFactorsTooLong handle before old) status
