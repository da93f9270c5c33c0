-- Arrays that are filled from the beginning.
use Rattle.std.specs.Prelude.{◌≡◌, ℕ, ℤ, ◌+◌, ◌-◌, ◌≤◌, List, length, map, take, min}
use Rattle.std.proofs.Common.{◌∙◌, refl, arith}
use Rattle.sparse_algebra.specs.Algebra.{CommRing}
use Rattle.sparse_algebra.specs.Integers.{element_of}
use Rattle.c_arrays.specs.Reduced.{FirstAre}
use Rattle.c_arrays.specs.Rests.{KeepsBehind}

module _ (R : CommRing) where
  -- the elements that the first n integers represent
  abbrev pub prefix_elements : ℕ → List ℤ → List R.Carrier
  prefix_elements n numbers = map (element_of R) (take n numbers)

  -- the elements that the integers represent, multiplied by s
  abbrev pub scaled_elements : R.Carrier → List ℤ → List R.Carrier
  scaled_elements s numbers = map (λ z. R.mul s (element_of R z)) numbers

-- the number of further entries that arrays of these lengths take from an offset on
abbrev pub room_from : ℕ → List ℕ → List ℤ → ℕ
room_from at indices numbers = min (length indices) (length numbers) - at

-- the arrays have been filled from one offset to another: the integers up to there satisfy P if those before did, and
-- the arrays are unchanged from there on
pub record IsFilled (P : ℤ → Type 0) (from to : ℕ) (is js : List ℕ) (us vs : List ℤ) : Type 0 where
  pub forward : from ≤ to
  pub shown : FirstAre P from us → FirstAre P to vs
  pub indices_count : length js ≡ length is
  pub values_count : length vs ≡ length us
  pub indices_rest : (k : ℕ) → to ≤ k → KeepsBehind k is js
  pub values_rest : (k : ℕ) → to ≤ k → KeepsBehind k us vs
  pub within : to + room_from to js vs ≡ from + room_from from is us

-- arrays are filled in steps: the laws that an impl has to give
module _ {P : ℤ → Type 0} where
  pub filled_none : (at : ℕ) (is : List ℕ) (us : List ℤ) → IsFilled P at at is is us us
  filled_none at is us = record {
    forward = omega arith;
    shown = λ h. h;
    indices_count = refl;
    values_count = refl;
    indices_rest = λ _ _. refl;
    values_rest = λ _ _. refl;
    within = refl;
  }

  pub filled_then : {a b c : ℕ} {is js ks : List ℕ} {us vs ws : List ℤ}
      → IsFilled P a b is js us vs → IsFilled P b c js ks vs ws → IsFilled P a c is ks us ws
  filled_then first second = record {
    forward = omega (arith, first.forward, second.forward);
    shown = λ h. second.shown (first.shown h);
    indices_count = second.indices_count ∙ first.indices_count;
    values_count = second.values_count ∙ first.values_count;
    indices_rest = λ k le. second.indices_rest k le
        ∙ first.indices_rest k (omega (arith, second.forward, le));
    values_rest = λ k le. second.values_rest k le
        ∙ first.values_rest k (omega (arith, second.forward, le));
    within = second.within ∙ first.within;
  }
