-- The sum or the difference of two matrices, built lane by lane.
use Rattle.std.proofs.Common.{◌≡◌, ℕ, ◌+◌, ◌<◌, ◌⊎◌, inl, inr, ◌↔◌, Bool, true, false, List, []}
use Rattle.std.proofs.Common.{◌∷◌, ◌++◌, length, Contains, ap, sym, subst, ◌∙◌, refl, arith}
use Rattle.std.specs.Prelude.{nat_eq}
use Rattle.sparse_algebra.proofs.Cases.{or_cases, or_left, or_right}
use Rattle.sparse_algebra.specs.Algebra.{CommRing}
use Rattle.sparse_algebra.specs.Sums.{where_true}
use Rattle.sparse_algebra.specs.Plain.{Plain, IsProper, plain_sum}
use Rattle.sparse_algebra.proofs.RingLemmas.{neg_add, neg_zero}
use Rattle.sparse_algebra.proofs.PlainLaws.{proper_sum}
use Rattle.sparse_pattern.specs.Raw.{lane_of}
use Rattle.sparse_compressed.specs.Compressed.{Compressed, arrays_of, IsSound}
use Rattle.sparse_compressed.specs.PlainOfLanes.{plain_of_rows}
use Rattle.sparse_compressed.specs.InnerLaneValue.{lane_value}
use Rattle.sparse_compressed.proofs.Arrays.{proper_rows, has_is_place}
use Rattle.sparse_compressed.proofs.LaneValues.{values_of, lane_value_is}
use Rattle.sparse_compressed.proofs.BuiltMatrices.{IsBuiltMatrix, built_is}
use Rattle.sparse_sums.specs.InnerSigns.{signed, plain_signed}
use Rattle.sparse_sums.specs.InnerAdding.{GainsEntries}
use Rattle.sparse_sums.proofs.BuiltSums.{none_built, entries_built}
use Rattle.sparse_sums.proofs.UnionLanes.{IsEither, lanes_have, either_within}

module _ (R : CommRing) where
  signed_zero : (negate : Bool) → signed R negate R.zero ≡ R.zero
  signed_zero true = neg_zero R
  signed_zero false = refl

  signed_where : (negate b : Bool) (c : R.Carrier)
      → where_true R b (signed R negate c) ≡ signed R negate (where_true R b c)
  signed_where negate true c = refl
  signed_where negate false c = sym (signed_zero negate)

  signed_add : (negate : Bool) (a b : R.Carrier)
      → signed R negate (R.add a b) ≡ R.add (signed R negate a) (signed R negate b)
  signed_add true a b = neg_add R a b
  signed_add false a b = refl

  -- the value at an index of a lane whose values have a sign is the value of the lane with that sign
  lane_value_signed : {T : Type 0} (f : T → R.Carrier) (negate : Bool) (ks : List ℕ) (vs : List T)
      (j : ℕ)
      → lane_value R (λ x. signed R negate (f x)) ks vs j ≡ signed R negate (lane_value R f ks vs j)
  lane_value_signed f negate [] vs j = sym (signed_zero negate)
  lane_value_signed f negate (k ∷ ks) [] j = sym (signed_zero negate)
  lane_value_signed f negate (k ∷ ks) (v ∷ vs) j =
      ap (λ c. R.add c (lane_value R (λ x. signed R negate (f x)) ks vs j))
      (signed_where negate (nat_eq k j) (f v))
      ∙ ap (R.add (signed R negate (where_true R (nat_eq k j) (f v))))
      (lane_value_signed f negate ks vs j)
      ∙ sym (signed_add negate (where_true R (nat_eq k j) (f v)) (lane_value R f ks vs j))

module _ (R : CommRing) {T : Type 0} (f : T → R.Carrier) (negate : Bool) (a b : Compressed T) where
  abbrev pub signed_sum : Plain R
  signed_sum = plain_sum R (plain_of_rows R f a) (plain_signed R negate (plain_of_rows R f b))

  -- the arrays are those of the first n lanes of the sum or the difference
  abbrev pub IsSumBelow : ℕ → List ℕ → List ℕ → List T → Type 0
  IsSumBelow n offsets indices values = IsBuiltMatrix R f a.pattern.minor_dim
      (IsEither a.pattern b.pattern) signed_sum.value n offsets indices values

  pub none_summed : IsSumBelow 0 (0 ∷ []) [] []
  none_summed = none_built

module _ (R : CommRing) {T : Type 0} (f : T → R.Carrier) (z : T) (negate : Bool)
    (a b : Compressed T) (sa : IsSound a) (sb : IsSound b)
    (lanes : a.pattern.major_dim ≡ b.pattern.major_dim)
    (width : a.pattern.minor_dim ≡ b.pattern.minor_dim) where
  abbrev sum : Plain R
  sum = signed_sum R f negate a b

  abbrev Below : ℕ → List ℕ → List ℕ → List T → Type 0
  Below n offsets indices values = IsSumBelow R f negate a b n offsets indices values

  within : (i j : ℕ) → IsEither a.pattern b.pattern i j
      → (i < a.pattern.major_dim) × (j < a.pattern.minor_dim)
  within = either_within a.pattern b.pattern sa.valid sb.valid lanes width

  pub sum_more : (n : ℕ) (offsets offsets' indices indices' : List ℕ) (values values' : List T)
      → n < a.pattern.major_dim → Below n offsets indices values
      → GainsEntries R f indices indices' values values'
      (λ j. Contains (lane_of a.pattern n) j ⊎ Contains (lane_of b.pattern n) j)
      (λ j. R.add (lane_value R f (lane_of a.pattern n) (values_of a n) j)
      (lane_value R (λ x. signed R negate (f x)) (lane_of b.pattern n) (values_of b n) j))
      → offsets' ≡ offsets ++ length indices' ∷ [] → Below (n + 1) offsets' indices' values'
  sum_more n offsets offsets' indices indices' values values' lt built gains is =
      entries_built built gains
      (λ j. lanes_have a.pattern b.pattern sa.valid sb.valid lanes width n j lt)
      (λ j. ap (λ c. R.add c (lane_value R (λ x. signed R negate (f x)) (lane_of b.pattern n)
      (values_of b n) j)) (lane_value_is R f z a sa n lt j)
      ∙ ap (R.add ((plain_of_rows R f a).value n j))
      (lane_value_signed R f negate (lane_of b.pattern n) (values_of b n) j
      ∙ ap (signed R negate) (lane_value_is R f z b sb n (omega arith) j)))
      (λ j h. (within n j h).1) is

  places : (i j : ℕ) → IsEither a.pattern b.pattern i j ↔ (sum.has i j ≡ true)
  places i j =
      let left = has_is_place R f a.pattern sa.valid a.values sa.count i j in
      let right = has_is_place R f b.pattern sb.valid b.values sb.count i j in (
        λ h. elim h [ inl x ↦ or_left _ _ (left.1 x) | inr y ↦ or_right _ _ (right.1 y) ],
        λ h. elim (or_cases _ _ h) [ inl x ↦ inl (left.0 x) | inr y ↦ inr (right.0 y) ],
      )

  proper : IsProper sum
  proper = proper_sum R (plain_of_rows R f a) (plain_signed R negate (plain_of_rows R f b))
      (proper_rows R f a)
      (λ i j none. ap (signed R negate) (proper_rows R f b i j none) ∙ signed_zero R negate)

  module _ (n : ℕ) (offsets indices : List ℕ) (values : List T) (whole : n ≡ a.pattern.major_dim)
      (built : Below n offsets indices values) where
    done : Below a.pattern.major_dim offsets indices values
    done = subst (λ k. Below k offsets indices values) whole built

    pub sum_sound : IsSound (arrays_of a.pattern.major_dim a.pattern.minor_dim offsets indices
        values)
    sum_sound = record { valid = done.built.valid; count = done.count }

    pub sum_is : plain_of_rows R f (arrays_of a.pattern.major_dim a.pattern.minor_dim offsets
        indices values) ≡ sum
    sum_is = built_is R f z sum proper (IsEither a.pattern b.pattern) places offsets indices values
        done (λ i j h. (within i j h).0)
