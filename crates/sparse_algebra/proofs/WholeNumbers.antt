-- Results of wrapping operations are exact wherever the integer result fits the signed range.
use Rattle.std.proofs.Common.{◌≡◌, ℕ, sym, ap, ◌∙◌, refl, List, ℤ, pos, ◌^◌, ◌%◌, lit<}
use Rattle.std.specs.Prelude.{◌+ℤ◌, ◌*ℤ◌}
use Rattle.std.specs.Int.{Width, cast_signed, int_wrap}
use Rattle.std.specs.Int.RustNames.{FitsSigned}
use Rattle.std.proofs.Math.Nat.{mod-eq_of_lt}
use Rattle.std.proofs.Math.Facts.{sfits_to_z}
use Rattle.std.proofs.lemmas.Int.{to_z-of_z, of_z-to_z, int_wrap_fits, int_wrap-add_left}
use Rattle.std.proofs.lemmas.Int.{int_wrap-add_right, int_wrap-mul_left, int_wrap-mul_right}
use Rattle.std.proofs.lemmas.Int.{wrapping_add_is, wrapping_mul_is, SFits-int_wrap}
use lib.IntN.{neg_ℤ}
use mir.Syntax.{w8, w16, w32, w64, w128}
use mir.Val.{bits}
use Rattle.sparse_algebra.specs.Plain.{Plain, plain_of_triplets, plain_sum, plain_negation}
use Rattle.sparse_algebra.specs.Plain.{plain_difference, plain_scaled, plain_product}
use Rattle.sparse_algebra.specs.Residues.{Residue, same_residue}
use Rattle.sparse_algebra.specs.Wrapping.{wrapping_ring, class_of, class_of_add, class_of_mul}
use Rattle.sparse_algebra.specs.Wrapping.{unsigned_below, fits_zero}
use Rattle.sparse_algebra.specs.RingMaps.{IsRingMap}
use Rattle.sparse_algebra.specs.Whole.{whole_ring, wrapped, number_of, plain_wrapped, plain_numbers}
use Rattle.sparse_algebra.specs.Whole.{Shows}
use Rattle.sparse_algebra.proofs.RingLemmas.{neg_unique}
use Rattle.sparse_algebra.proofs.PlainLemmas.{same_plain}
use Rattle.sparse_algebra.proofs.RingMapLemmas.{map-triplets, map-sum, map-negation, map-difference}
use Rattle.sparse_algebra.proofs.RingMapLemmas.{map-scaled, map-product}

fits_one : (w : Width) → FitsSigned w (pos 1)
fits_one w8 = record { sfits = lit< tt }
fits_one w16 = record { sfits = lit< tt }
fits_one w32 = record { sfits = lit< tt }
fits_one w64 = record { sfits = lit< tt }
fits_one w128 = record { sfits = lit< tt }

module _ (w : Width) where
  wrapped_fits : (z : ℤ) → FitsSigned w z → wrapped w z ≡ class_of w z
  wrapped_fits z f = ap (class_of w) (int_wrap_fits w z f)

  -- ---- the representative of a class

  pub number_of-class : (z : ℤ) → FitsSigned w z → number_of w (class_of w z) ≡ z
  number_of-class z f = ap (cast_signed w) (mod-eq_of_lt (unsigned_below w z f)) ∙ to_z-of_z w z f

  pub number_of-wrapped : (z : ℤ) → FitsSigned w z → number_of w (wrapped w z) ≡ z
  number_of-wrapped z f = ap (number_of w) (wrapped_fits z f) ∙ number_of-class z f

  pub number_fits : (c : Residue (2 ^ bits w)) → FitsSigned w (number_of w c)
  number_fits c = sfits_to_z record { fits = c.below }

  pub wrapped-number_of : (c : Residue (2 ^ bits w)) → wrapped w (number_of w c) ≡ c
  wrapped-number_of c = wrapped_fits (number_of w c) (number_fits c)
      ∙ same_residue (class_of w (number_of w c)) c
      (ap (λ n. n % 2 ^ bits w) (of_z-to_z w c.number c.below) ∙ mod-eq_of_lt c.below)

  -- ---- wrapping preserves sums and products

  wrapped-add : (a b : ℤ) → wrapped w (a +ℤ b) ≡ (wrapping_ring w).add (wrapped w a) (wrapped w b)
  wrapped-add a b =
      let p = int_wrap w a in
      let q = int_wrap w b in
      class_of_add w p q (int_wrap w (a +ℤ b))
      (sym (wrapping_add_is w p q (SFits-int_wrap w a) (SFits-int_wrap w b)
      ∙ int_wrap-add_left w a q ∙ int_wrap-add_right w a b))

  wrapped-mul : (a b : ℤ) → wrapped w (a *ℤ b) ≡ (wrapping_ring w).mul (wrapped w a) (wrapped w b)
  wrapped-mul a b =
      let p = int_wrap w a in
      let q = int_wrap w b in
      class_of_mul w p q (int_wrap w (a *ℤ b))
      (sym (wrapping_mul_is w p q (SFits-int_wrap w a) (SFits-int_wrap w b)
      ∙ int_wrap-mul_left w a q ∙ int_wrap-mul_right w a b))

  wrapped-zero : wrapped w (pos 0) ≡ (wrapping_ring w).zero
  wrapped-zero = wrapped_fits (pos 0) (fits_zero w)

  wrapped-one : wrapped w (pos 1) ≡ (wrapping_ring w).one
  wrapped-one = wrapped_fits (pos 1) (fits_one w)

  pub wrapped-IsRingMap : IsRingMap whole_ring (wrapping_ring w) (wrapped w)
  wrapped-IsRingMap = record {
    zero = wrapped-zero;
    one = wrapped-one;
    add = wrapped-add;
    mul = wrapped-mul;
    neg = λ a. neg_unique (wrapping_ring w) (wrapped w a) (wrapped w (neg_ℤ a))
        (sym (wrapped-add a (neg_ℤ a)) ∙ ap (wrapped w) (whole_ring.laws.add_neg a) ∙ wrapped-zero);
  }

  -- ---- plain matrices

  pub wrapped-sum : (a b : Plain whole_ring)
      → plain_wrapped w (plain_sum whole_ring a b) ≡ plain_sum (wrapping_ring w) (plain_wrapped w a)
      (plain_wrapped w b)
  wrapped-sum = map-sum whole_ring (wrapping_ring w) (wrapped w) wrapped-IsRingMap

  pub wrapped-negation : (a : Plain whole_ring)
      → plain_wrapped w (plain_negation whole_ring a) ≡ plain_negation (wrapping_ring w)
      (plain_wrapped w a)
  wrapped-negation = map-negation whole_ring (wrapping_ring w) (wrapped w) wrapped-IsRingMap

  pub wrapped-difference : (a b : Plain whole_ring)
      → plain_wrapped w (plain_difference whole_ring a b) ≡ plain_difference (wrapping_ring w)
      (plain_wrapped w a) (plain_wrapped w b)
  wrapped-difference = map-difference whole_ring (wrapping_ring w) (wrapped w) wrapped-IsRingMap

  pub wrapped-scaled : (s : ℤ) (a : Plain whole_ring)
      → plain_wrapped w (plain_scaled whole_ring s a) ≡ plain_scaled (wrapping_ring w) (wrapped w s)
      (plain_wrapped w a)
  wrapped-scaled = map-scaled whole_ring (wrapping_ring w) (wrapped w) wrapped-IsRingMap

  pub wrapped-product : (a b : Plain whole_ring)
      → plain_wrapped w (plain_product whole_ring a b) ≡ plain_product (wrapping_ring w)
      (plain_wrapped w a) (plain_wrapped w b)
  wrapped-product = map-product whole_ring (wrapping_ring w) (wrapped w) wrapped-IsRingMap

  -- triplets of scalars, each represented by a number in the signed range
  pub wrapped-triplets : {T : Type 0} (number : T → ℤ) (rows cols : ℕ) (ts : List (ℕ × ℕ × T))
      → ((x : T) → FitsSigned w (number x))
      → plain_wrapped w (plain_of_triplets whole_ring number rows cols ts) ≡ plain_of_triplets
      (wrapping_ring w) (λ x. class_of w (number x)) rows cols ts
  wrapped-triplets {T} number rows cols ts fits =
      map-triplets whole_ring (wrapping_ring w) (wrapped w) wrapped-IsRingMap number rows cols ts
      ∙ ap (λ (f : T → Residue (2 ^ bits w)). plain_of_triplets (wrapping_ring w) f rows cols ts)
      (λ k x. wrapped_fits (number x) (fits x) k)

  pub plain_wrapped-numbers : (a : Plain (wrapping_ring w))
      → plain_wrapped w (plain_numbers w a) ≡ a
  plain_wrapped-numbers a = same_plain (plain_wrapped w (plain_numbers w a)) a refl refl
      (λ i j. refl) (λ i j. wrapped-number_of (a.value i j))

  -- ---- values that fit the signed range

  -- a matrix wrapped from an integer matrix is exact wherever the integer fits
  pub wrapped_shows : (a : Plain (wrapping_ring w)) (z : Plain whole_ring) → plain_wrapped w z ≡ a
      → Shows w a z
  wrapped_shows a z e i j f = ap (λ b. number_of w (b.value i j)) (sym e)
      ∙ number_of-wrapped (z.value i j) f

  module _ (a b : Plain (wrapping_ring w)) where
    pub sum_shows : Shows w (plain_sum (wrapping_ring w) a b)
        (plain_sum whole_ring (plain_numbers w a) (plain_numbers w b))
    sum_shows = wrapped_shows _ _ (wrapped-sum (plain_numbers w a) (plain_numbers w b)
        ∙ ap (λ c. plain_sum (wrapping_ring w) c (plain_wrapped w (plain_numbers w b)))
        (plain_wrapped-numbers a) ∙ ap (plain_sum (wrapping_ring w) a) (plain_wrapped-numbers b))

    pub difference_shows : Shows w (plain_difference (wrapping_ring w) a b)
        (plain_difference whole_ring (plain_numbers w a) (plain_numbers w b))
    difference_shows = wrapped_shows _ _ (wrapped-difference (plain_numbers w a) (plain_numbers w b)
        ∙ ap (λ c. plain_difference (wrapping_ring w) c (plain_wrapped w (plain_numbers w b)))
        (plain_wrapped-numbers a) ∙ ap (plain_difference (wrapping_ring w) a)
        (plain_wrapped-numbers b))

    pub product_shows : Shows w (plain_product (wrapping_ring w) a b)
        (plain_product whole_ring (plain_numbers w a) (plain_numbers w b))
    product_shows = wrapped_shows _ _ (wrapped-product (plain_numbers w a) (plain_numbers w b)
        ∙ ap (λ c. plain_product (wrapping_ring w) c (plain_wrapped w (plain_numbers w b)))
        (plain_wrapped-numbers a) ∙ ap (plain_product (wrapping_ring w) a)
        (plain_wrapped-numbers b))

  module _ (a : Plain (wrapping_ring w)) where
    pub scaled_shows : (s : Residue (2 ^ bits w))
        → Shows w (plain_scaled (wrapping_ring w) s a)
        (plain_scaled whole_ring (number_of w s) (plain_numbers w a))
    scaled_shows s = wrapped_shows _ _ (wrapped-scaled (number_of w s) (plain_numbers w a)
        ∙ ap (λ c. plain_scaled (wrapping_ring w) c (plain_wrapped w (plain_numbers w a)))
        (wrapped-number_of s) ∙ ap (plain_scaled (wrapping_ring w) s) (plain_wrapped-numbers a))

  pub triplets_show : {T : Type 0} (number : T → ℤ) (rows cols : ℕ) (ts : List (ℕ × ℕ × T))
      → ((x : T) → FitsSigned w (number x))
      → Shows w (plain_of_triplets (wrapping_ring w) (λ x. class_of w (number x)) rows cols ts)
      (plain_of_triplets whole_ring number rows cols ts)
  triplets_show number rows cols ts fits =
      wrapped_shows _ _ (wrapped-triplets number rows cols ts fits)
