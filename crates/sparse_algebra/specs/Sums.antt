-- Finite sums in a commutative ring.
use Rattle.std.specs.Prelude.{ℕ, zero, suc, Bool, true, false, List, [], ◌∷◌, zip}
use Rattle.sparse_algebra.specs.Algebra.{CommRing}

-- f 0 + f 1 + .. + f (n - 1)
abbrev pub sum_below : (R : CommRing) → ℕ → (ℕ → R.Carrier) → R.Carrier
sum_below R zero f = R.zero
sum_below R (suc n) f = R.add (sum_below R n f) (f n)

-- the sum of f over the elements of a list
abbrev pub sum_by : (R : CommRing) {X : Type 0} → (X → R.Carrier) → List X → R.Carrier
sum_by R f [] = R.zero
sum_by R f (x ∷ xs) = R.add (f x) (sum_by R f xs)

-- c if the test holds, otherwise zero
abbrev pub where_true : (R : CommRing) → Bool → R.Carrier → R.Carrier
where_true R true c = c
where_true R false c = R.zero

-- the dot product of the sparse vector with these indices and values, and the dense vector x
abbrev pub dot_of : (R : CommRing) {T : Type 0} → (T → R.Carrier) → List ℕ → List T
    → (ℕ → R.Carrier) → R.Carrier
dot_of R f indices values x = sum_by R (λ t. R.mul (f t.1) (x t.0)) (zip indices values)
