-- Matrices whose values are all zero, and differences of matrices with the same values.
use Rattle.std.proofs.Common.{◌≡◌, ℕ, ◌<◌, ◌≤◌, ◌⊎◌, inl, inr, length, slice_index_or}
use Rattle.std.proofs.Common.{refl, sym, ap, ◌∙◌, arith}
use Rattle.std.proofs.lemmas.Bool.{cases_Bool}
use Rattle.sparse_algebra.proofs.RingLemmas.{cancel}
use Rattle.sparse_pattern.proofs.OffsetsInLanes.{lane_of_offset}
use Rattle.sparse_compressed.proofs.Arrays.{offset_within}
use Rattle.sparse_compressed.proofs.ArraysDeterminePlain.{plain_of_rows-has_lanes}
use Rattle.sparse_algebra.specs.Algebra.{CommRing}
use Rattle.sparse_compressed.specs.Compressed.{Compressed, IsSound, IsOffset}
use Rattle.sparse_algebra.specs.Plain.{Plain, plain_difference}
use Rattle.sparse_compressed.specs.PlainOfLanes.{plain_of_rows}
use Rattle.sparse_dense_ops.specs.Solutions.{HasSameValues}
use Rattle.mtxkit_matrices.specs.Values.{AllZero}

module _ (R : CommRing) {T : Type 0} (f : T → R.Carrier) (z : T) (m : Compressed T)
    (sound : IsSound m) where
  pub zero_values : ((k : ℕ) → k < length m.values → f (slice_index_or m.values k z) ≡ R.zero)
      → AllZero R (plain_of_rows R f m)
  zero_values zeros i j =
      let have = plain_of_rows-has_lanes R f m sound in
      elim (cases_Bool ((plain_of_rows R f m).has i j)) [
        | inl is ↦
            let place = (have.places i j).1 is in
            let at : IsOffset m.pattern i j place.at = (place.in_lane, place.index) in
            let within = offset_within m.pattern sound.valid i j place.at at in
            sym (have.values i j place.at z at)
            ∙ zeros place.at (omega (arith, within, sound.count))
        | inr not ↦ have.proper i j not
      ]

  pub values_zero : AllZero R (plain_of_rows R f m) → (k : ℕ) → k < length m.values
      → f (slice_index_or m.values k z) ≡ R.zero
  values_zero all k lt =
      let have = plain_of_rows-has_lanes R f m sound in
      let found = lane_of_offset m.pattern sound.valid k (omega (arith, lt, sound.count)) in
      have.values found.0 (slice_index_or m.pattern.indices k 0) k z (found.1, refl)
      ∙ all found.0 (slice_index_or m.pattern.indices k 0)

-- ---- differences

pub same_of_zero : (R : CommRing) (a b d : Plain R) → d ≡ plain_difference R a b → AllZero R d
    → (n m : ℕ) → HasSameValues R n m a b
same_of_zero R a b d is zero n m i j _ _ =
    cancel R (a.value i j) (b.value i j) (R.neg (b.value i j))
    (sym (ap (λ (p : Plain R). p.value i j) is) ∙ zero i j
    ∙ sym (R.laws.add_neg (b.value i j)))
