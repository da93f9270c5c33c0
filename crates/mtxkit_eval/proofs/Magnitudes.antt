-- The integers of a matrix: what holds of each value holds at each row and column.
use Rattle.std.proofs.Common.{◌≡◌, ◌≤◌, ◌<◌, ◌^◌, ℕ, zero, suc, ℤ, pos, All, List, [], ◌∷◌, length, map, get_or}
use Rattle.std.proofs.Common.{inl, inr, refl, sym, ap, subst, arith}
use Rattle.std.specs.Prelude.{unsigned_abs}
use Rattle.std.specs.Int.{w128}
use Rattle.std.specs.Int.RustNames.{FitsSigned}
use Rattle.std.proofs.lemmas.Int.{fits_signed_from_abs}
use Rattle.sparse_algebra.specs.Plain.{Plain}
use Rattle.sparse_algebra.specs.Whole.{whole_ring}
use Rattle.sparse_algebra.specs.Wrapping.{fits_zero, wrapping_ring}
use Rattle.sparse_algebra.specs.WrappingValues.{w128_number}
use Rattle.sparse_algebra.specs.declared.scalar.wide.W128.{W128}
use Rattle.sparse_algebra.proofs.Cases.{true_or_false}
use Rattle.sparse_algebra.proofs.PlainLemmas.{same_plain}
use Rattle.sparse_compressed.specs.Compressed.{Compressed, IsSound, IsOffset}
use Rattle.sparse_compressed.proofs.Arrays.{offset_within}
use Rattle.sparse_compressed.proofs.ArraysDeterminePlain.{plain_of_rows-has_lanes}
use Rattle.mtxkit_eval.specs.Extents.{IsWithin, greatest, magnitude, matrix_extent}
use Rattle.mtxkit_eval.specs.Values.{exact_of, image_in}
use Rattle.mtxkit_eval.proofs.WideClasses.{same-wide}

none128 : W128
none128 = record { number = pos 0; in_range = fits_zero w128 }

module _ (m : Compressed W128) (sound : IsSound m) where
  -- what holds of 0 and of each value
  each : (P : ℤ → Type 0) → P (pos 0) → All (λ v. P (w128_number v)) m.values
      → (i j : ℕ) → P ((exact_of m).value i j)
  each P none all i j =
      let has = plain_of_rows-has_lanes whole_ring w128_number m sound in
      elim (true_or_false ((exact_of m).has i j)) [
        | inl held ↦
            let place = (has.places i j).1 held in
            let at : IsOffset m.pattern i j place.at = (place.in_lane, place.index) in
            let within = offset_within m.pattern sound.valid i j place.at at in
            subst P (has.values i j place.at none128 at)
            (all place.at none128 (omega (arith, within, sound.count)))
        | inr empty ↦ subst P (sym (has.proper i j empty)) none
      ]

  fits : (i j : ℕ) → FitsSigned w128 ((exact_of m).value i j)
  fits = each (FitsSigned w128) (fits_zero w128) (λ k d lt. (get_or m.values k d).in_range)

  pub within-extent : IsWithin (matrix_extent m) (exact_of m)
  within-extent = record {
    rows = refl;
    cols = refl;
    values = each (λ z. unsigned_abs z ≤ greatest (map magnitude m.values)) (omega arith)
        (λ k d lt. greatest-bounds m.values k d lt);
  }
    where
      greatest-bounds : (vs : List W128) (k : ℕ) (d : W128) → k < length vs
          → magnitude (get_or vs k d) ≤ greatest (map magnitude vs)
      greatest-bounds [] k d lt = absurd (omega arith)
      greatest-bounds (v ∷ vs) zero d lt = omega arith
      greatest-bounds (v ∷ vs) (suc k) d lt = omega (arith, greatest-bounds vs k d (omega arith))

  -- the integers of the matrix are those of z, if they are congruent modulo 2 ^ 128 and z is small
  pub exact : (z : Plain whole_ring) → image_in (wrapping_ring w128) (exact_of m) ≡ image_in (wrapping_ring w128) z
      → ((i j : ℕ) → unsigned_abs (z.value i j) < 2 ^ 127) → z ≡ exact_of m
  exact z same small =
      let R = wrapping_ring w128 in
      same_plain z (exact_of m) (sym (ap (λ (a : Plain R). a.rows) same))
      (sym (ap (λ (a : Plain R). a.cols) same))
      (λ i j. sym (ap (λ (a : Plain R). a.has i j) same))
      (λ i j. same-wide (z.value i j) ((exact_of m).value i j)
      (fits_signed_from_abs w128 (z.value i j) (small i j)) (fits i j)
      (sym (ap (λ (a : Plain R). a.value i j) same)))
