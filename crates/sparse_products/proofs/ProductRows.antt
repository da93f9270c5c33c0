-- The product of two matrices, row by row: the indices of a row, and its values, from a scratch
-- row.
use Rattle.std.proofs.Common.{◌≡◌, ℕ, ◌+◌, ◌<◌, inl, inr, List, [], ◌∷◌, ◌++◌, length}
use Rattle.std.proofs.Common.{get_or, drop, Contains, ap, sym, subst, ◌∙◌, refl}
use Rattle.std.proofs.lemmas.List.Elements.{Contains-get_or}
use Rattle.std.proofs.lemmas.List.{get_or_default, drop_at}
use Rattle.std.proofs.lemmas.List.Kept.{AllPairs-from_increasing}
use Rattle.sparse_algebra.proofs.Cases.{true_or_false}
use Rattle.sparse_algebra.specs.Algebra.{CommRing}
use Rattle.sparse_algebra.specs.Plain.{Plain, plain_product}
use Rattle.sparse_pattern.specs.Raw.{lane_of}
use Rattle.sparse_pattern.specs.InnerGainedLanes.{GainsLane}
use Rattle.sparse_pattern.proofs.BuiltLanes.{minor_index_below}
use Rattle.sparse_compressed.specs.Compressed.{Compressed, arrays_of, IsSound}
use Rattle.sparse_compressed.specs.PlainOfLanes.{plain_of_rows}
use Rattle.sparse_compressed.specs.InnerLaneValue.{lane_value}
use Rattle.sparse_compressed.proofs.LaneValues.{lane_value_none, lane_value_at}
use Rattle.sparse_compressed.proofs.BuiltMatrices.{IsBuiltMatrix, built_is}
use Rattle.sparse_sums.specs.InnerAdding.{GainsEntries}
use Rattle.sparse_sums.proofs.BuiltSums.{entries_built}
use Rattle.sparse_products.specs.InnerProducts.{IsInLanes, GainsExtracted}
use Rattle.sparse_products.proofs.ProductLanes.{IsInProduct, in_lanes_is}
use Rattle.sparse_products.proofs.ProductPlaces.{product, joined_places, product_is_proper}

-- offsets, indices and values are those of the first n rows of the product
abbrev pub IsMultipliedBelow : (R : CommRing) {T : Type 0} → (T → R.Carrier) → Compressed T
    → Compressed T → ℕ → List ℕ → List ℕ → List T → Type 0
IsMultipliedBelow R f a b n offsets indices values = IsBuiltMatrix R f b.pattern.minor_dim
    (IsInProduct a.pattern b.pattern)
    (plain_product R (plain_of_rows R f a) (plain_of_rows R f b)).value n offsets indices values

module _ (R : CommRing) {T : Type 0} (f : T → R.Carrier) {a b : Compressed T} (sa : IsSound a)
    (sb : IsSound b) (fits : a.pattern.minor_dim ≡ b.pattern.major_dim) where
  abbrev P : Plain R
  P = product R f sa sb fits

  abbrev Below : ℕ → List ℕ → List ℕ → List T → Type 0
  Below n offsets indices values = IsMultipliedBelow R f a b n offsets indices values

  -- the product is zero at each index of row n that the lane does not have
  pub zero_off : (n : ℕ) → n < a.pattern.major_dim → (lane : List ℕ)
      → ((j : ℕ) → IsInLanes b.pattern (lane_of a.pattern n) j → Contains lane j) → (j : ℕ)
      → (Contains lane j → ⊥) → P.value n j ≡ R.zero
  zero_off n lt lane holds j none = product_is_proper R f sa sb fits n j
      (elim (true_or_false (P.has n j)) [
        | inl hit ↦ absurd (none (holds j ((in_lanes_is a.pattern b.pattern sa.valid n j lt).1
            ((joined_places R f sa sb fits n j).1 hit))))
        | inr miss ↦ miss
      ])

  -- appending row n to the first n rows
  pub row_more : (z : T) {n : ℕ} {offsets offsets' indices indices' : List ℕ}
      {values values' : List T} → n < a.pattern.major_dim → Below n offsets indices values
      → GainsLane indices indices' (IsInLanes b.pattern (lane_of a.pattern n))
      → offsets' ≡ offsets ++ length indices' ∷ []
      → GainsExtracted R f z values values' (drop (length indices) indices') (P.value n)
      → Below (n + 1) offsets' indices' values'
  row_more z {n} {indices = indices} {indices'} {values} {values'} lt built gains is more =
      let lane_is : drop (length indices) indices' ≡ gains.lane =
      ap (λ l. drop (length indices) l) gains.pushed
      ∙ drop_at indices gains.lane (length indices) refl in
      let own = subst (λ l. GainsExtracted R f z values values' l (P.value n)) lane_is more in
      let joined = λ (j : ℕ). joined_places R f sa sb fits n j in
      let in_lanes = λ (j : ℕ). in_lanes_is a.pattern b.pattern sa.valid n j lt in
      let value : (j : ℕ) → lane_value R f gains.lane own.part j ≡ P.value n j = λ j.
      elim (true_or_false (P.has n j)) [
        | inl hit ↦
            let h = (gains.holds j).1 ((in_lanes j).1 ((joined j).1 hit)) in
            let index : get_or gains.lane h.0 0 ≡ j = get_or_default gains.lane h.0 0 j h.1 ∙ h.2 in
            lane_value_at R f z j h.0 gains.lane own.part own.count (λ r s less within.
            AllPairs-from_increasing gains.lane gains.rising r s 0 less within) h.1 index
            ∙ own.values h.0 h.1 ∙ ap (P.value n) index
        | inr miss ↦ lane_value_none R f j gains.lane own.part (λ q lt e.
            let hit = (joined j).0 ((in_lanes j).0 ((gains.holds j).0
            (subst (Contains gains.lane) e (Contains-get_or gains.lane q 0 lt)))) in
            cc) ∙ sym (product_is_proper R f sa sb fits n j miss)
      ] in
      let entries : GainsEntries R f indices indices' values values'
      (IsInLanes b.pattern (lane_of a.pattern n)) (P.value n) =
      record {
        lane = gains.lane;
        values = own.part;
        pushed = gains.pushed;
        values_pushed = own.pushed;
        count = own.count;
        rising = gains.rising;
        holds = gains.holds;
        sums = value;
      } in
      entries_built built entries in_lanes (λ j. refl)
      (λ j h. minor_index_below b.pattern sb.valid h.0 j h.2) is

  module _ {n : ℕ} {offsets indices : List ℕ} {values : List T} (whole : n ≡ a.pattern.major_dim)
      (built : Below n offsets indices values) where
    done : Below a.pattern.major_dim offsets indices values
    done = subst (λ k. Below k offsets indices values) whole built

    pub product_sound : IsSound (arrays_of a.pattern.major_dim b.pattern.minor_dim offsets indices
        values)
    product_sound = record { valid = done.built.valid; count = done.count }

    pub product_is : T
        → plain_of_rows R f (arrays_of a.pattern.major_dim b.pattern.minor_dim offsets
        indices values) ≡ P
    product_is z = built_is R f z P (product_is_proper R f sa sb fits)
        (IsInProduct a.pattern b.pattern) (joined_places R f sa sb fits) offsets indices values
        done (λ i j h. h.1.in_lane.lane)
