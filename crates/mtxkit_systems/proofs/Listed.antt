-- Lists whose values are replaced: their rows and columns, and nonzero values.
use Rattle.std.proofs.Common.{◌≡◌, ℕ, zero, suc, ℤ, pos, All, List, []}
use Rattle.std.proofs.Common.{◌∷◌, length, map, refl, sym, ap, ◌∙◌, arith}
use Rattle.sparse_algebra.specs.Algebra.{CommRing}
use Rattle.sparse_algebra.specs.Integers.{element_of, times_one}
use Rattle.sparse_coo_dense.specs.Coo.{zip_triplets}
use Rattle.mtxkit_matrices.specs.Orders.{coordinates_of}

pub places-zipped : {S T : Type 0} (ts : List (ℕ × ℕ × S)) (vs : List T) → length vs ≡ length ts
    → coordinates_of (zip_triplets (map (λ t. t.0) ts) (map (λ t. t.1) ts) vs) ≡ coordinates_of ts
places-zipped [] vs e = refl
places-zipped (t ∷ ts) [] e = absurd (omega (arith, e))
places-zipped (t ∷ ts) (v ∷ vs) e =
    ap (λ ps. (t.0, t.1) ∷ ps) (places-zipped ts vs (omega (arith, e)))

module _ (R : CommRing) {T : Type 0} (f : T → R.Carrier) where
  element_of-zero : element_of R (pos 0) ≡ R.zero
  unfolding element_of times_one
  element_of-zero = refl

  -- integers of nonzero ring elements are not zero
  pub integers-nonzero : (ts : List (ℕ × ℕ × T)) (zs : List ℤ)
      → map (element_of R) zs ≡ map f (map (λ t. t.2) ts)
      → All (λ t. f t.2 ≡ R.zero → ⊥) ts → All (λ z. z ≡ pos 0 → ⊥) zs
  integers-nonzero [] [] meant nonzero k d lt is = absurd (omega (arith, lt))
  integers-nonzero [] (z ∷ zs) meant nonzero k d lt is = absurd (omega (arith, ap length meant))
  integers-nonzero (t ∷ ts) [] meant nonzero k d lt is = absurd (omega (arith, lt))
  integers-nonzero (t ∷ ts) (z ∷ zs) meant nonzero zero d lt is =
      let same : element_of R z ≡ f t.2 = cc in
      nonzero 0 t (omega arith) (sym same ∙ ap (element_of R) is ∙ element_of-zero)
  integers-nonzero (t ∷ ts) (z ∷ zs) meant nonzero (suc k) d lt is =
      let rest : map (element_of R) zs ≡ map f (map (λ (u : ℕ × ℕ × T). u.2) ts) = cc in
      integers-nonzero ts zs rest (λ n e below. nonzero (suc n) e (omega (arith, below))) k d
      (omega (arith, lt)) is
