-- Capped numbers, and the extents of matrices.
use Rattle.std.proofs.Common.{◌≡◌, ℕ, zero, suc, ◌+◌, ◌*◌, ◌≤◌, ◌<◌, ◌^◌, ◌-◌, inl, inr, refl, sym, ap, ◌∙◌, arith, List, [], ◌∷◌, ◌++◌, max}
use Rattle.std.proofs.Common.{◌≢◌, length, map, get_or, Some}
use Rattle.std.specs.Prelude.{slice_get}
use Rattle.std.proofs.Math.Nat.{mul_comm, le-mul_of_pos_right}
use Rattle.sparse_algebra.specs.declared.scalar.wide.W128.{W128}
use Rattle.sparse_algebra.proofs.Cases.{lt_or_ge}
use Rattle.sparse_compressed.specs.Compressed.{Compressed}
use Rattle.mtxkit_eval.specs.Extents.{cap, capped, extent_at, extent_from, found_extent, greatest}
use Rattle.mtxkit_eval.specs.Extents.{matrix_extent, product_extent}
use Rattle.mtxkit_eval.specs.declared.extents.Extent.{Extent}

cap-small : (n : ℕ) → n < 2 ^ 128 → cap n ≡ n
cap-small n small = grind arith

cap-large : (n : ℕ) → 2 ^ 128 ≤ n + 1 → cap n ≡ 2 ^ 128 - 1
cap-large n large = grind arith

cap-some : (n : ℕ) → 0 < cap (suc n)
cap-some n = grind arith

cap-mul_large : (a b : ℕ) → 2 ^ 128 ≤ a → cap (cap a * cap b) ≡ cap (a * b)
cap-mul_large a zero large = let none : cap a * 0 ≡ a * 0 = omega arith in ap cap none
cap-mul_large a (suc b) large =
    let is = cap-large a (omega (arith, large)) in
    let more = le-mul_of_pos_right (cap a) (cap-some b) in
    let some : 0 < suc b = omega arith in
    let most = le-mul_of_pos_right a some in
    cap-large (cap a * cap (suc b)) (omega (arith, is, more))
    ∙ sym (cap-large (a * suc b) (omega (arith, most, large)))

cap-mul : (a b : ℕ) → cap (cap a * cap b) ≡ cap (a * b)
cap-mul a b = elim (lt_or_ge a (2 ^ 128)) [
  | inl small ↦ elim (lt_or_ge b (2 ^ 128)) [
    | inl short ↦ ap (λ x. cap (x * cap b)) (cap-small a small)
        ∙ ap (λ y. cap (a * y)) (cap-small b short)
    | inr long ↦ ap cap (mul_comm (cap a) (cap b)) ∙ cap-mul_large b a long ∙ ap cap (mul_comm b a)
  ]
  | inr large ↦ cap-mul_large a b large
]

cap-idem : (a : ℕ) → cap (cap a) ≡ cap a
cap-idem a = grind arith

-- the greatest magnitude of a product of capped extents, which is multiplied by a number of terms
cap-terms : (a b n : ℕ) → cap ((cap a * cap b) * n) ≡ cap ((a * b) * n)
cap-terms a b n =
    sym (cap-mul (cap a * cap b) n) ∙ ap (λ x. cap (x * cap n)) (cap-mul a b) ∙ cap-mul (a * b) n

pub capped-product : (a b : Extent)
    → capped (product_extent (capped a) (capped b)) ≡ capped (product_extent a b)
capped-product a b = ap (extent_from a.rows b.cols) (cap-terms a.largest b.largest a.cols)

pub greatest-more : (ns : List ℕ) (n : ℕ) → greatest (ns ++ n ∷ []) ≡ max (greatest ns) n
greatest-more [] n = omega arith
greatest-more (m ∷ ns) n = omega (arith, greatest-more ns n)

-- the extent of the input with a number, counted from 1
pub extent-at : (ms : List (Compressed W128)) (n : ℕ) (m : Compressed W128) → n ≢ 0 → n ≤ length ms
    → m ≡ get_or ms (n - 1) m → extent_at (map matrix_extent ms) n ≡ matrix_extent m
extent-at ms zero m some le at = absurd (some refl)
extent-at ms (suc n) m some le at =
    ap found_extent (here ms n m (omega arith) (at ∙ ap (λ k. get_or ms k m) less))
  where
    less : suc n - 1 ≡ n
    less = omega arith

    here : (xs : List (Compressed W128)) (k : ℕ) (x : Compressed W128) → k < length xs
        → x ≡ get_or xs k x → slice_get (map matrix_extent xs) k ≡ Some (matrix_extent x)
    here [] k x lt at = absurd (omega arith)
    here (y ∷ ys) zero x lt at = ap (λ w. Some (matrix_extent w)) (sym at)
    here (y ∷ ys) (suc k) x lt at = here ys k x (omega arith) at
