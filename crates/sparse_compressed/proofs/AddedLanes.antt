-- Adding a multiple of a lane to a dense row, entry by entry.
use Rattle.std.proofs.Common.{◌≡◌, ℕ, zero, suc, ◌+◌, ◌*◌, ◌<◌, inl, inr, true, List, [], ◌∷◌}
use Rattle.std.proofs.Common.{length, get_or, set, take, Fits, w64, ap, sym, ◌∙◌, refl, arith}
use Rattle.std.specs.Prelude.{nat_eq, zip}
use Rattle.std.proofs.lemmas.Bool.{cases_eq}
use Rattle.std.proofs.lemmas.Bool.Decides.{Decides-eqb}
use Rattle.std.proofs.lemmas.List.{get_or-set_same, get_or-set_other, get_or_default}
use Rattle.sparse_algebra.proofs.Cases.{nat_eq_no}
use Rattle.sparse_algebra.specs.Algebra.{CommRing}
use Rattle.sparse_algebra.specs.Sums.{sum_by, where_true}
use Rattle.sparse_algebra.proofs.SumLemmas.{where_yes, where_no}
use Rattle.sparse_compressed.specs.InnerLaneValue.{lane_value}

pub offset_fits : (j n size : ℕ) → j < n → n * size < 9223372036854775808 → Fits w64 (j * size)
offset_fits j n size lt fits = grind arith

pub eq_refl : (n : ℕ) → nat_eq n n ≡ true
eq_refl n = (Decides-eqb n n).1 refl

module _ (R : CommRing) {T : Type 0} where
  sum_zip_suc : (g : ℕ × T → R.Carrier) (ks : List ℕ) (vs : List T) (n k : ℕ) (v : T)
      → n < length ks → n < length vs → k ≡ get_or ks n k → v ≡ get_or vs n v
      → sum_by R g (zip (take (suc n) ks) (take (suc n) vs)) ≡ R.add
      (sum_by R g (zip (take n ks) (take n vs))) (g (k, v))
  sum_zip_suc g [] vs n k v lt lt' is is' = absurd (omega arith)
  sum_zip_suc g (x ∷ ks) [] n k v lt lt' is is' = absurd (omega arith)
  sum_zip_suc g (x ∷ ks) (y ∷ vs) zero k v lt lt' is is' = R.laws.add_comm (g (x, y)) R.zero
      ∙ ap (R.add R.zero) (ap (λ x. g (x, y)) (sym is) ∙ ap (λ y. g (k, y)) (sym is'))
  sum_zip_suc g (x ∷ ks) (y ∷ vs) (suc n) k v lt lt' is is' =
      ap (R.add (g (x, y))) (sum_zip_suc g ks vs n k v (omega arith) (omega arith) is is')
      ∙ sym (R.laws.add_assoc (g (x, y)) (sum_by R g (zip (take n ks) (take n vs))) (g (k, v)))

  -- one more pair adds its term to the sum
  pub sum_zip_more : (g : ℕ × T → R.Carrier) (ks : List ℕ) (vs : List T) (n k : ℕ) (v : T)
      → n < length ks → n < length vs → k ≡ get_or ks n k → v ≡ get_or vs n v
      → sum_by R g (zip (take (n + 1) ks) (take (n + 1) vs)) ≡ R.add
      (sum_by R g (zip (take n ks) (take n vs))) (g (k, v))
  sum_zip_more g ks vs n k v lt lt' is is' =
      let e : n + 1 ≡ suc n = omega arith in
      ap (λ m. sum_by R g (zip (take m ks) (take m vs))) e ∙ sum_zip_suc g ks vs n k v lt lt' is is'

module _ (R : CommRing) {T : Type 0} (f : T → R.Carrier) where
  -- adding one more entry of the lane to the row
  pub lane_step : (scale : R.Carrier) (columns : List ℕ) (values row start : List T) (z : T)
      (n k : ℕ) (v old new : T)
      → n < length columns → n < length values → k ≡ get_or columns n k → v ≡ get_or values n v
      → k < length row → old ≡ get_or row k old → f new ≡ R.add (f old) (R.mul scale (f v))
      → ((j : ℕ) → j < length row → f (get_or row j z) ≡ R.add (f (get_or start j z))
      (R.mul scale (lane_value R f (take n columns) (take n values) j)))
      → (j : ℕ) → j < length row
      → f (get_or (set row k new) j z) ≡ R.add (f (get_or start j z))
      (R.mul scale (lane_value R f (take (n + 1) columns) (take (n + 1) values) j))
  lane_step scale columns values row start z n k v old new lt lt' is is' within read added so_far j
      j_lt =
      let base = f (get_or start j z) in
      let s = lane_value R f (take n columns) (take n values) j in
      let more : lane_value R f (take (n + 1) columns) (take (n + 1) values) j ≡ R.add s
      (where_true R (nat_eq k j) (f v)) = sum_zip_more R
      (λ t. where_true R (nat_eq t.0 j) (f t.1)) columns values n k v lt lt' is is' in
      elim (cases_eq j k) [
        | inl same ↦
            let hit : where_true R (nat_eq k j) (f v) ≡ f v = where_yes R (nat_eq k j) (f v)
            (rw same (eq_refl k)) in
            let old_is : old ≡ get_or row j z = read ∙ get_or_default row k old z within
            ∙ ap (λ m. get_or row m z) (sym same) in
            let written : get_or (set row k new) j z ≡ new = ap (λ m. get_or (set row k new) m z)
            same ∙ get_or-set_same row k new z within in
            ap f written ∙ added ∙ ap (λ x. R.add x (R.mul scale (f v)))
            (ap f old_is ∙ so_far j j_lt) ∙ R.laws.add_assoc base (R.mul scale s)
            (R.mul scale (f v)) ∙ ap (R.add base) (sym (R.laws.distrib scale s (f v))
            ∙ ap (R.mul scale) (ap (R.add s) (sym hit) ∙ sym more))
        | inr differs ↦
            let miss : where_true R (nat_eq k j) (f v) ≡ R.zero =
            where_no R (nat_eq k j) (f v)
            (nat_eq_no k j (λ e. differs (sym e))) in
            ap f (get_or-set_other row k j new z differs) ∙ so_far j j_lt
            ∙ ap (λ x. R.add base (R.mul scale x))
            (sym (more ∙ ap (R.add s) miss ∙ R.laws.add_zero s))
      ]
