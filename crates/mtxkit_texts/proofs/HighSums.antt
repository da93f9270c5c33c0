-- Let h be the sum of the high parts of n integers. The sum of the integers lies between h * 2 ^ 64 and (h + n) * 2 ^
-- 64. As these are fewer than 2 ^ 128 numbers, the residue modulo 2 ^ 128 determines the sum.
use Rattle.std.proofs.Common.{◌≡◌, ℕ, ℤ, pos, negsuc, ◌+◌, ◌-◌, ◌^◌, ◌<◌, ◌≤ℤ◌, ◌<ℤ◌, ◌+ℤ◌, ◌*ℤ◌}
use Rattle.std.proofs.Common.{All, Bool, true, false, List, [], ◌∷◌}
use Rattle.std.proofs.Common.{length, map, refl, sym, ap, subst, ◌∙◌}
use Rattle.std.proofs.Common.{arith}
use Rattle.std.specs.Prelude.{◌-ℤ◌, neg_ℤ}
use Rattle.std.specs.Int.{w64, w128, int_wrap}
use Rattle.std.specs.Int.RustNames.{FitsSigned}
use Rattle.std.proofs.lemmas.Int.{ints, by_lt_z, int_wrap_fits, int_wrap-add_left}
use Rattle.std.proofs.lemmas.Int.{int_wrap-sub_right, SFits-int_wrap}
use Rattle.std.proofs.lemmas.List.Elements.{All-nil, All-cons}
use Rattle.sparse_algebra.specs.Plain.{is_at}
use Rattle.sparse_algebra.specs.Sums.{sum_by, where_true}
use Rattle.sparse_algebra.specs.Whole.{whole_ring}
use Rattle.sparse_algebra.specs.WrappingValues.{w128_number}
use Rattle.sparse_algebra.specs.declared.scalar.wide.W128.{W128}
use Rattle.mtxkit_texts.specs.HighParts.{high_part, IsNear}

-- z lies between h * 2 ^ 64 and (h + n) * 2 ^ 64
abbrev pub IsAbove : ℕ → ℤ → ℤ → Type 0
IsAbove n h z = ((h *ℤ pos (2 ^ 64)) ≤ℤ z) × (z ≤ℤ ((h +ℤ pos n) *ℤ pos (2 ^ 64)))

above-entry : (z : ℤ) → IsAbove 1 (high_part z) z
above-entry (pos n) = (omega (arith, ints), omega (arith, ints))
above-entry (negsuc n) = (omega (arith, ints), omega (arith, ints))

above-none : (n : ℕ) → IsAbove n (pos 0) (pos 0)
above-none n = (omega (arith, ints), omega (arith, ints))

above-sum : (m n : ℕ) (h k x y : ℤ) → IsAbove m h x → IsAbove n k y → IsAbove (m + n) (h +ℤ k) (x +ℤ y)
above-sum m n h k x y p q = (omega (arith, ints, p.0, q.0), omega (arith, ints, p.1, q.1))

below-next : (z : ℤ) → z <ℤ ((high_part z +ℤ pos 1) *ℤ pos (2 ^ 64))
below-next (pos n) = omega (arith, ints)
below-next (negsuc n) = omega (arith, ints)

fits-range : (z : ℤ) → neg_ℤ (pos (2 ^ 127)) ≤ℤ z → z <ℤ pos (2 ^ 127) → FitsSigned w128 z
fits-range (pos n) from to = record { sfits = omega (arith, ints, from, to) }
fits-range (negsuc n) from to = record { sfits = omega (arith, ints, from, to) }

-- if z is a multiple of 2 ^ 128, and c and z + c fit in 128 bits, then z is 0
shifted : (z c : ℤ) → int_wrap w128 z ≡ pos 0 → FitsSigned w128 c → FitsSigned w128 (z +ℤ c) → z ≡ pos 0
shifted z c none f g =
    let same : z +ℤ c ≡ pos 0 +ℤ c = sym (int_wrap_fits w128 (z +ℤ c) g)
    ∙ sym (int_wrap-add_left w128 z c)
    ∙ ap (λ r. int_wrap w128 (r +ℤ c)) none
    ∙ int_wrap_fits w128 (pos 0 +ℤ c) (subst (FitsSigned w128) (omega (arith, ints)) f) in
    omega (arith, ints, same)

-- a multiple of 2 ^ 128 whose magnitude is less than 2 ^ 128 is 0
none-left : (z : ℤ) → neg_ℤ (pos (2 ^ 128)) <ℤ z → z <ℤ pos (2 ^ 128) → int_wrap w128 z ≡ pos 0
    → z ≡ pos 0
none-left z from to none =
    by_lt_z z (neg_ℤ (pos (2 ^ 127)))
    (λ low. shifted z (pos (2 ^ 127 - 1)) none (fits-range _ (omega (arith, ints)) (omega (arith, ints)))
    (fits-range _ (omega (arith, ints, from)) (omega (arith, ints, low))))
    (λ high. by_lt_z z (pos (2 ^ 127))
    (λ fits. sym (int_wrap_fits w128 z (fits-range z high fits)) ∙ none)
    (λ above. shifted z (neg_ℤ (pos (2 ^ 127))) none
    (fits-range _ (omega (arith, ints)) (omega (arith, ints)))
    (fits-range _ (omega (arith, ints, above)) (omega (arith, ints, to)))))

-- a sum fits in 128 bits if its residue is near the sum of the high parts
pub fits-from_near : (n : ℕ) (h s : ℤ) → n < 2 ^ 64 → IsAbove n h s → IsNear (int_wrap w128 s) h n
    → FitsSigned w128 s
fits-from_near n h s few above near =
    let w = int_wrap w128 s in
    let left : int_wrap w128 (s -ℤ w) ≡ pos 0 = int_wrap-sub_right w128 s s
    ∙ ap (int_wrap w128) (omega (arith, ints))
    ∙ int_wrap_fits w128 (pos 0) (fits-range (pos 0) (omega (arith, ints)) (omega (arith, ints))) in
    let here = above-entry w in
    let next = below-next w in
    let zero : s -ℤ w ≡ pos 0 = none-left (s -ℤ w)
    (omega (arith, ints, few, above.0, near.1, next))
    (omega (arith, ints, few, above.1, near.0, here.0)) left in
    let same : w ≡ s = omega (arith, ints, zero) in
    subst (FitsSigned w128) same (SFits-int_wrap w128 s)

pub near-from_fits : (n : ℕ) (h s : ℤ) → IsAbove n h s → FitsSigned w128 s
    → IsNear (int_wrap w128 s) h n
near-from_fits n h s above f =
    subst (λ w. IsNear w h n) (sym (int_wrap_fits w128 s f))
    (omega (arith, ints, above.0, below-next s), let e = above-entry s in omega (arith, ints, above.1, e.0))

high_fits : (z : ℤ) → FitsSigned w128 z → FitsSigned w64 (high_part z)
high_fits (pos n) f = let s = f.sfits in record { sfits = omega (arith, s) }
high_fits (negsuc n) f = let s = f.sfits in record { sfits = omega (arith, s) }

pub high_fits_wide : (z : ℤ) → FitsSigned w128 z → FitsSigned w128 (high_part z)
high_fits_wide (pos n) f = let s = f.sfits in record { sfits = omega (arith, s) }
high_fits_wide (negsuc n) f = let s = f.sfits in record { sfits = omega (arith, s) }

-- the high parts of the values
abbrev pub high_parts : List W128 → List ℤ
high_parts vs = map (λ v. high_part (w128_number v)) vs

pub parts_narrow : (vs : List W128) → All (FitsSigned w64) (high_parts vs)
parts_narrow [] = All-nil (FitsSigned w64)
parts_narrow (v ∷ vs) = All-cons (FitsSigned w64) (high_part (w128_number v)) (high_parts vs)
    (high_fits (w128_number v) v.in_range) (parts_narrow vs)

pub parts_of_numbers : (vs : List W128) → high_parts vs ≡ map high_part (map w128_number vs)
parts_of_numbers [] = refl
parts_of_numbers (v ∷ vs) = ap (λ zs. high_part (w128_number v) ∷ zs) (parts_of_numbers vs)

-- ---- the triplets with the same row and column

above-where : (b : Bool) (z : ℤ) → IsAbove 1 (where_true whole_ring b (high_part z))
    (where_true whole_ring b z)
above-where true z = above-entry z
above-where false z = above-none 1

pub above-sums : (i j : ℕ) (ts : List (ℕ × ℕ × ℤ)) → IsAbove (length ts)
    (sum_by whole_ring (λ t. where_true whole_ring (is_at i j t) (high_part t.2)) ts)
    (sum_by whole_ring (λ t. where_true whole_ring (is_at i j t) t.2) ts)
above-sums i j [] = above-none 0
above-sums i j (t ∷ ts) =
    subst (λ n. IsAbove n
    (sum_by whole_ring (λ u. where_true whole_ring (is_at i j u) (high_part u.2)) (t ∷ ts))
    (sum_by whole_ring (λ u. where_true whole_ring (is_at i j u) u.2) (t ∷ ts)))
    (omega arith)
    (above-sum 1 (length ts) _ _ _ _ (above-where (is_at i j t) t.2) (above-sums i j ts))
