-- Indices that numbers count from 1.
use Rattle.std.proofs.Common.{◌≡◌, ℕ, suc, ℤ, pos, negsuc, ◌+◌, ◌-◌, ◌<◌, ◌^◌, Bool, true, false}
use Rattle.std.proofs.Common.{List, [], ◌∷◌, length, get_or, map, refl, ap, ◌∙◌, arith}
use Rattle.std.specs.Prelude.{nat_lt, ◌&&◌}
use Rattle.std.proofs.lemmas.Bool.Decides.{nat_tests}
use Rattle.mtxkit_patterns.specs.OrderLists.{index_of}

counted_one : (z : ℤ) → index_of z + 1 < 2 ^ 64 → z ≡ pos (index_of z + 1)
counted_one (pos n) lt = by (nat_lt 0 n && nat_lt n (2 ^ 64)) refl
  where
    by : (t : Bool) → (nat_lt 0 n && nat_lt n (2 ^ 64)) ≡ t → pos n ≡ pos (index_of (pos n) + 1)
    by true e =
        let some : 0 < n = grind (arith, nat_tests) in
        rw e (ap pos (omega (arith, some)))
    by false e = let below : 2 ^ 64 - 1 + 1 < 2 ^ 64 = rw e at lt in absurd (omega (arith, below))
counted_one (negsuc n) lt = absurd (omega (arith, lt))

-- numbers whose indices are below 2 ^ 64 - 1 are these indices, counted from 1
pub counted_all : (numbers : List ℤ)
    → ((k : ℕ) → k < length (map index_of numbers) → get_or (map index_of numbers) k 0 + 1 < 2 ^ 64)
    → numbers ≡ map (λ i. pos (i + 1)) (map index_of numbers)
counted_all [] few = refl
counted_all (z ∷ numbers) few =
    ap (λ x. x ∷ numbers) (counted_one z (few 0 (omega arith)))
    ∙ ap (λ xs. pos (index_of z + 1) ∷ xs)
    (counted_all numbers (λ k lt. few (suc k) (omega (arith, lt))))
