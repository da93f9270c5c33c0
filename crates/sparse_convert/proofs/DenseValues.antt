-- The values and the plain matrix of a dense matrix after the triplets are written.
use Rattle.std.proofs.Common.{◌≡◌, ℕ, zero, suc, ◌<◌, ◌⊎◌, inl, inr, true, false, ◌&&◌}
use Rattle.std.proofs.Common.{if◌then◌else◌, List, [], ◌∷◌, Option, Some, None, length, get_or, map}
use Rattle.std.proofs.Common.{Contains, All, ap, sym, subst, ◌∙◌, refl, arith}
use Rattle.std.specs.Prelude.{nat_lt}
use Rattle.std.specs.List.{list_any}
use Rattle.std.proofs.Math.ListN.{get_or-map}
use Rattle.std.proofs.lemmas.Bool.Decides.{Decides-ltb, Decides-and}
use Rattle.std.proofs.lemmas.Grind.{common_steps}
use Rattle.std.proofs.lemmas.List.Elements.{All-map}
use Rattle.std.proofs.lemmas.Option.{none-some}
use Rattle.sparse_algebra.proofs.Cases.{true_or_false}
use Rattle.sparse_algebra.specs.Algebra.{CommRing}
use Rattle.sparse_algebra.specs.Sums.{where_true}
use Rattle.sparse_pattern.specs.Raw.{entries_of}
use Rattle.sparse_algebra.specs.Plain.{Plain, IsProper, IsWithin, is_at}
use Rattle.sparse_coo_dense.specs.Coo.{Coo, IsInside}
use Rattle.sparse_coo_dense.specs.Dense.{Dense, value_at}
use Rattle.sparse_coo_dense.specs.DensePlain.{is_inside, plain_of_dense, plain_full}
use Rattle.sparse_pattern.proofs.LaneOrder.{length-entries, Contains-entries_of}
use Rattle.sparse_algebra.proofs.PlainLaws.{proper_transpose, within_plain_of_triplets}
use Rattle.sparse_algebra.proofs.PlainLaws.{within_transpose, proper_plain_of_triplets}
use Rattle.sparse_algebra.proofs.PlainLemmas.{same_plain}
use Rattle.sparse_algebra.proofs.RingLemmas.{zero_add}
use Rattle.sparse_algebra.proofs.SumLemmas.{where_yes, where_no}
use Rattle.sparse_compressed.specs.Compressed.{Compressed, IsSound, zip_values}
use Rattle.sparse_compressed.specs.Compressed.{lane_triplets, transposed}
use Rattle.sparse_compressed.specs.StoredEntries.{find_offset}
use Rattle.sparse_coo_dense.specs.CooPlain.{plain_of_coo}
use Rattle.sparse_compressed.specs.PlainOfLanes.{plain_of_rows, plain_of_cols}
use Rattle.sparse_pattern.proofs.OffsetsInLanes.{one_offset}
use Rattle.sparse_compressed.proofs.Arrays.{value_at-none}
use Rattle.sparse_compressed.proofs.Arrays.{named, pairs_of-triplets, pair_is}
use Rattle.sparse_compressed.proofs.Arrays.{test_yes, offset_within, entry_at, offset_of_entry}
use Rattle.sparse_compressed.proofs.Arrays.{value_at_offset, proper_rows}
use Rattle.sparse_compressed.proofs.Arrays.{value_at as sum_at}
use Rattle.sparse_compressed.proofs.TripletBounds.{lane_triplets-inside}
use Rattle.sparse_compressed.proofs.LaneSearch.{find_offset-is_offset}
use Rattle.sparse_convert.specs.ToDense.{stored_or_zero, IsDenseOfRows, IsDenseOfCols}
use Rattle.sparse_convert.proofs.DenseWriting.{all_written, written, written-nowhere}
use Rattle.sparse_convert.proofs.DenseWriting.{written-transposed, IsWritten}

-- the step that replaces a value
abbrev pub replaced : {T : Type 0} → T → T → T
replaced c v = v

none_or_some : (o : Option ℕ) → (o ≡ None) ⊎ ((x : ℕ) × (o ≡ Some x))
none_or_some None = inl refl
none_or_some (Some x) = inr (x, refl)

module _ {T : Type 0} where
  -- exactly one triplet has the pair
  written_once : (i j p : ℕ) (c z : T) (ps : List (ℕ × ℕ)) (vs : List T) → length ps ≡ length vs
      → p < length ps → get_or ps p (0, 0) ≡ (i, j)
      → ((q : ℕ) → q < length ps → get_or ps q (0, 0) ≡ (i, j) → q ≡ p)
      → written replaced c (zip_values ps vs) i j ≡ get_or vs p z
  written_once i j p c z [] vs e lt is only = absurd (omega arith)
  written_once i j p c z (x ∷ ps) [] e lt is only = absurd (omega arith)
  written_once i j zero c z (x ∷ ps) (v ∷ vs) e lt is only =
      let e' : length ps ≡ length vs = omega arith in
      let hit : is_at i j (x.0, x.1, v) ≡ true = rw (ap (λ y. y.0) is, ap (λ y. y.1) is)
      (test_yes i j) in
      let none : list_any (is_at i j) (zip_values ps vs) ≡ false =
      elim (true_or_false (list_any (is_at i j) (zip_values ps vs))) [
        | inl some ↦
            let at = subst (λ l. Contains l (i, j)) (pairs_of-triplets ps vs e')
            ((named i j (zip_values ps vs)).0 some) in
            let read : get_or ps at.0 (0, 0) ≡ (i, j) = grind (arith, common_steps, at.1, at.2) in
            absurd (omega (arith, only (suc at.0) (omega (arith, at.1)) read))
        | inr miss ↦ miss
      ] in
      ap (λ b. written replaced (if b then v else c) (zip_values ps vs) i j) hit
      ∙ written-nowhere replaced v (zip_values ps vs) i j none
  written_once i j (suc p) c z (x ∷ ps) (v ∷ vs) e lt is only =
      let miss : is_at i j (x.0, x.1, v) ≡ false = elim (true_or_false (is_at i j (x.0, x.1, v))) [
        | inl hit ↦ absurd (omega (arith, only 0 (omega arith) (pair_is x i j hit)))
        | inr miss ↦ miss
      ] in
      ap (λ b. written replaced (if b then v else c) (zip_values ps vs) i j) miss
      ∙ written_once i j p c z ps vs (omega arith) (omega arith) is
      (λ q l h. omega (arith, only (suc q) (omega arith) h))

  module _ {m : Compressed T} (sound : IsSound m) where
    unstored : (i j : ℕ) → find_offset m.pattern i j ≡ None
        → list_any (is_at i j) (lane_triplets m) ≡ false
    unstored i j none = elim (true_or_false (list_any (is_at i j) (lane_triplets m))) [
      | inl hit ↦
          let pairs = pairs_of-triplets (entries_of m.pattern) m.values
          (length-entries m.pattern sound.valid ∙ sym sound.count) in
          let place = (Contains-entries_of m.pattern sound.valid i j).0
          (subst (λ l. Contains l (i, j)) pairs ((named i j (lane_triplets m)).0 hit)) in
          absurd (none-some place.at
          (sym none ∙ (find_offset-is_offset m.pattern sound.valid i j place.at).1
          (place.in_lane, place.index)))
      | inr miss ↦ miss
    ]

    -- the value written at a pair is the value stored there
    written_stored : (z : T) (i j : ℕ)
        → written replaced z (lane_triplets m) i j ≡ stored_or_zero z m i j
    written_stored z i j = elim (none_or_some (find_offset m.pattern i j)) [
      | inl none ↦ rw none (written-nowhere replaced z (lane_triplets m) i j (unstored i j none))
      | inr some ↦
          let d = m.pattern in
          let p = some.0 in
          let at = (find_offset-is_offset d sound.valid i j p).0 some.1 in
          let long = length-entries d sound.valid in
          rw some.1 (written_once i j p z z (entries_of d) m.values
          (long ∙ sym sound.count) (omega (arith, long, offset_within d sound.valid i j p at))
          (entry_at d sound.valid i p at.0 ∙ ap (λ x. (i, x)) at.1)
          (λ q lt is. let there = offset_of_entry d sound.valid i j q (omega (arith, long, lt))
          is in sym (one_offset d sound.valid i p q at.0 there.0 (at.1 ∙ sym there.1))))
    ]

    pub rows_written : {z : T} {rest : List (ℕ × ℕ × T)} {d : Dense T} → rest ≡ []
        → IsWritten replaced (λ v. v) z m.pattern.major_dim m.pattern.minor_dim (lane_triplets m)
        rest d → IsDenseOfRows z m d
    rows_written {z} end done = record {
      rows = done.rows;
      cols = done.cols;
      count = done.count;
      values = λ i j y row col. all_written end done i j y row col ∙ written_stored z i j;
    }

    pub cols_written : {z : T} {rest : List (ℕ × ℕ × T)} {d : Dense T} → rest ≡ []
        → IsWritten replaced (λ v. v) z m.pattern.minor_dim m.pattern.major_dim
        (map transposed (lane_triplets m)) rest d → IsDenseOfCols z m d
    cols_written {z} end done = record {
      rows = done.rows;
      cols = done.cols;
      count = done.count;
      values = λ i j y row col. all_written end done i j y row col
          ∙ written-transposed replaced z (lane_triplets m) i j ∙ written_stored z j i;
    }

    -- the transposed triplets of columns are within the shape
    pub transposed_inside : All (λ t. (t.0 < m.pattern.minor_dim) × (t.1 < m.pattern.major_dim))
        (map transposed (lane_triplets m))
    transposed_inside = All-map (λ t. (t.0 < m.pattern.minor_dim) × (t.1 < m.pattern.major_dim))
        transposed (lane_triplets m)
        (λ k t lt. let here = lane_triplets-inside m sound k t lt in (here.1, here.0))

module _ (R : CommRing) {T : Type 0} (f : T → R.Carrier) where
  -- the step that adds a value
  abbrev pub added : R.Carrier → T → R.Carrier
  added c v = R.add c (f v)

  pub added_there : (w x y v : T) → f w ≡ R.add (f x) (f v) → x ≡ y → f w ≡ added (f y) v
  added_there w x y v sum same = sum ∙ ap (λ z. added (f z) v) same

  -- the value accumulated at a pair is the sum of the triplets with that pair
  pub written_sum : (c : R.Carrier) (ts : List (ℕ × ℕ × T)) (i j : ℕ)
      → written added c ts i j ≡ R.add c (sum_at R f ts i j)
  written_sum c [] i j = sym (R.laws.add_zero c)
  written_sum c (t ∷ ts) i j = elim (true_or_false (is_at i j t)) [
    | inl hit ↦
        ap (λ b. written added (if b then added c t.2 else c) ts i j) hit
        ∙ written_sum (added c t.2) ts i j ∙ R.laws.add_assoc c (f t.2) (sum_at R f ts i j)
        ∙ ap (λ b. R.add c (R.add (where_true R b (f t.2)) (sum_at R f ts i j))) (sym hit)
    | inr miss ↦
        ap (λ b. written added (if b then added c t.2 else c) ts i j) miss ∙ written_sum c ts i j
        ∙ ap (R.add c) (sym (zero_add R (sum_at R f ts i j)))
        ∙ ap (λ b. R.add c (R.add (where_true R b (f t.2)) (sum_at R f ts i j))) (sym miss)
  ]

  module _ (z : T) (zero_law : f z ≡ R.zero) where
    -- a dense matrix that has the values of a plain matrix at all pairs within the shape represents
    -- it, with every pair as a place
    pub dense_represents : (d : Dense T) (a : Plain R) → IsProper a → IsWithin a → d.nrows ≡ a.rows
        → d.ncols ≡ a.cols
        → ((i j : ℕ) → i < a.rows → j < a.cols → f (value_at d i j z) ≡ a.value i j)
        → plain_of_dense R f d ≡ plain_full R a
    dense_represents d a proper within rows cols values =
        same_plain (plain_of_dense R f d) (plain_full R a) rows cols has_same value_same
      where
        has_same : (i j : ℕ) → is_inside d i j ≡ (nat_lt i a.rows && nat_lt j a.cols)
        has_same i j = ap (λ n. nat_lt i n && nat_lt j d.ncols) rows
            ∙ ap (λ n. nat_lt i a.rows && nat_lt j n) cols

        meaning : (k : ℕ) → get_or (map f d.values) k R.zero ≡ f (get_or d.values k z)
        meaning k = ap (get_or (map f d.values) k) (sym zero_law) ∙ get_or-map f d.values k z

        value_same : (i j : ℕ) → (plain_of_dense R f d).value i j ≡ a.value i j
        value_same i j = elim (true_or_false (nat_lt i a.rows && nat_lt j a.cols)) [
          | inl hit ↦
              let at = (Decides-and (nat_lt i a.rows) (nat_lt j a.cols) (Decides-ltb i a.rows)
              (Decides-ltb j a.cols)).0 hit in
              where_yes R (is_inside d i j) _ (has_same i j ∙ hit) ∙ meaning _
              ∙ values i j at.0 at.1
          | inr miss ↦
              let off : a.has i j ≡ false = elim (true_or_false (a.has i j)) [
                | inl here ↦
                    let yes = (Decides-and (nat_lt i a.rows) (nat_lt j a.cols)
                    (Decides-ltb i a.rows) (Decides-ltb j a.cols)).1 (within i j here) in
                    cc
                | inr off ↦ off
              ] in
              where_no R (is_inside d i j) _ (has_same i j ∙ miss) ∙ sym (proper i j off)
        ]

    pub coo_represented : (m : Coo T) {d : Dense T} {rest : List (ℕ × ℕ × T)} → IsInside m → rest ≡ []
        → IsWritten added f (f z) m.nrows m.ncols m.triplets rest d
        → plain_of_dense R f d ≡ plain_full R (plain_of_coo R f m)
    coo_represented m {d} inside end done = dense_represents d (plain_of_coo R f m)
        (proper_plain_of_triplets R f m.nrows m.ncols m.triplets)
        (within_plain_of_triplets R f m.nrows m.ncols m.triplets inside) done.rows done.cols
        (λ i j row col. all_written end done i j z row col ∙ written_sum (f z) m.triplets i j
        ∙ ap (λ c. R.add c (sum_at R f m.triplets i j)) zero_law
        ∙ zero_add R (sum_at R f m.triplets i j))

    module _ (m : Compressed T) (sound : IsSound m) where
      stored_means : (i j : ℕ) → f (stored_or_zero z m i j) ≡ (plain_of_rows R f m).value i j
      stored_means i j = elim (none_or_some (find_offset m.pattern i j)) [
        | inl none ↦ rw none
            (zero_law ∙ sym (value_at-none R f i j (lane_triplets m) (unstored sound i j none)))
        | inr some ↦ rw some.1
            (sym (value_at_offset R f m.pattern sound.valid m.values sound.count z i j some.0
            ((find_offset-is_offset m.pattern sound.valid i j some.0).0 some.1)))
      ]

      within_rows : IsWithin (plain_of_rows R f m)
      within_rows = within_plain_of_triplets R f m.pattern.major_dim m.pattern.minor_dim
          (lane_triplets m) (lane_triplets-inside m sound)

      pub rows_represented : (d : Dense T) → IsDenseOfRows z m d
          → plain_of_dense R f d ≡ plain_full R (plain_of_rows R f m)
      rows_represented d has = dense_represents d (plain_of_rows R f m) (proper_rows R f m) within_rows
          has.rows has.cols
          (λ i j row col. ap f (has.values i j z row col) ∙ stored_means i j)

      pub cols_represented : (d : Dense T) → IsDenseOfCols z m d
          → plain_of_dense R f d ≡ plain_full R (plain_of_cols R f m)
      cols_represented d has = dense_represents d (plain_of_cols R f m)
          (proper_transpose R (plain_of_rows R f m) (proper_rows R f m))
          (within_transpose R (plain_of_rows R f m) within_rows) has.rows has.cols
          (λ i j row col. ap f (has.values i j z row col) ∙ stored_means j i)
