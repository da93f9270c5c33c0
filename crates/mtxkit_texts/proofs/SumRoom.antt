-- The exact sums fit in 128 bits exactly if each sum modulo 2 ^ 128 is near the sum of the high parts with its row and
-- column.
use Rattle.std.proofs.Common.{◌≡◌, ℕ, ℤ, pos, ◌^◌, ◌<◌, ◌↔◌, All, List, inl, inr, length, map}
use Rattle.std.proofs.Common.{slice_index_or, refl, sym, ap, subst, ◌∙◌, arith, map-id}
use Rattle.std.specs.Int.{w64, w128, int_wrap}
use Rattle.std.specs.Int.RustNames.{FitsSigned}
use Rattle.std.proofs.lemmas.Int.{SFits-int_wrap}
use Rattle.std.proofs.lemmas.List.{length-map}
use Rattle.sparse_algebra.specs.Plain.{Plain}
use Rattle.sparse_algebra.specs.Whole.{whole_ring}
use Rattle.sparse_algebra.specs.Wrapping.{fits_zero}
use Rattle.sparse_algebra.specs.WrappingValues.{w128_number}
use Rattle.sparse_algebra.specs.declared.scalar.wide.W128.{W128}
use Rattle.sparse_algebra.proofs.Cases.{true_or_false}
use Rattle.sparse_algebra.proofs.PlainLaws.{proper_plain_of_triplets}
use Rattle.sparse_algebra.proofs.WholeNumbers.{number_of-class}
use Rattle.sparse_coo_dense.specs.Coo.{Coo}
use Rattle.sparse_coo_dense.specs.CooPlain.{plain_of_coo}
use Rattle.sparse_compressed.specs.Compressed.{Compressed, IsSound, IsOffset}
use Rattle.sparse_compressed.proofs.Arrays.{offset_within}
use Rattle.sparse_compressed.proofs.ArraysDeterminePlain.{plain_of_rows-has_lanes}
use Rattle.sparse_pattern.specs.Raw.{Raw}
use Rattle.sparse_pattern.proofs.OffsetsInLanes.{lane_of_offset}
use Rattle.sparse_pattern.proofs.SameEntries.{equal_from_entries}
use Rattle.mtxkit_texts.specs.HighParts.{AreNear, IsNear, high_part}
use Rattle.mtxkit_texts.specs.Loaded.{HasFittingSums, HasSums, ring128, sums_of, value128}
use Rattle.mtxkit_texts.proofs.ExactSums.{class-at, narrow-fits, number-at}
use Rattle.mtxkit_texts.proofs.HighSums.{above-sums, fits-from_near, high_parts, near-from_fits}
use Rattle.mtxkit_texts.proofs.HighSums.{parts_narrow, parts_of_numbers}
use Rattle.mtxkit_texts.proofs.Revalued.{revalued, plain-revalued}

-- the value of an entry is the residue of the sum with its row and column
pub left-at : (list : Coo ℤ) (m : Compressed W128) → IsSound m → HasSums list m → (i j p : ℕ)
    (z : W128) → IsOffset m.pattern i j p
    → w128_number (slice_index_or m.values p z) ≡ int_wrap w128 ((sums_of list).value i j)
left-at list m sound sums i j p z at =
    class-at list m sound sums i j p z at
    ∙ number_of-class w128 (int_wrap w128 ((sums_of list).value i j)) (SFits-int_wrap w128 _)

-- a list, the list of its high parts, and the matrices of both
module _ (list highs : Coo ℤ) (few : length list.triplets < 2 ^ 64) (vs : List W128)
    (same : map w128_number vs ≡ map (λ t. t.2) list.triplets)
    (is : highs ≡ revalued list (high_parts vs))
    (values : map (λ t. t.2) highs.triplets ≡ high_parts vs)
    (m h : Compressed W128) (sound_m : IsSound m) (sound_h : IsSound h)
    (sums_m : HasSums list m) (sums_h : HasSums highs h) where
  parts : high_parts vs ≡ map high_part (map (λ t. t.2) list.triplets)
  parts = parts_of_numbers vs ∙ ap (map high_part) same

  plain : sums_of highs ≡ plain_of_coo whole_ring high_part list
  plain = ap sums_of is
      ∙ plain-revalued list (high_parts vs) whole_ring (λ z. z) high_part (map-id (high_parts vs) ∙ parts)

  fits : HasFittingSums highs
  fits = narrow-fits highs (omega (
    arith,
    few,
    sym (length-map highs.triplets (λ t. t.2)) ∙ ap length (values ∙ parts)
        ∙ length-map (map (λ t. t.2) list.triplets) high_part
        ∙ length-map list.triplets (λ t. t.2),
  )) (subst (All (FitsSigned w64)) (sym values) (parts_narrow vs))

  same_pattern : h.pattern ≡ m.pattern
  same_pattern =
      let have_m = plain_of_rows-has_lanes ring128 value128 m sound_m in
      let have_h = plain_of_rows-has_lanes ring128 value128 h sound_h in
      equal_from_entries h.pattern m.pattern sound_h.valid sound_m.valid record {
        major_dim = ap (λ (a : Plain ring128). a.rows) sums_h
            ∙ ap (λ (a : Plain whole_ring). a.rows) plain
            ∙ sym (ap (λ (a : Plain ring128). a.rows) sums_m);
        minor_dim = ap (λ (a : Plain ring128). a.cols) sums_h
            ∙ ap (λ (a : Plain whole_ring). a.cols) plain
            ∙ sym (ap (λ (a : Plain ring128). a.cols) sums_m);
        entries = λ i j.
            let has = ap (λ (a : Plain ring128). a.has i j) sums_h
            ∙ ap (λ (a : Plain whole_ring). a.has i j) plain
            ∙ sym (ap (λ (a : Plain ring128). a.has i j) sums_m) in (
              λ place. (have_m.places i j).1 (sym has ∙ (have_h.places i j).0 place),
              λ place. (have_h.places i j).1 (has ∙ (have_m.places i j).0 place),
            );
      }

  high-at : (i j p : ℕ) (z : W128) → IsOffset m.pattern i j p
      → w128_number (slice_index_or h.values p z)
      ≡ (plain_of_coo whole_ring high_part list).value i j
  high-at i j p z at =
      number-at highs h sound_h sums_h fits i j p z
      (subst (λ d. IsOffset d i j p) (sym same_pattern) at)
      ∙ ap (λ (a : Plain whole_ring). a.value i j) plain

  fitting : AreNear m.values h.values (length list.triplets) → HasFittingSums list
  fitting near i j = elim (true_or_false ((sums_of list).has i j)) [
    | inl has ↦
        let place = ((plain_of_rows-has_lanes ring128 value128 m sound_m).places i j).1
        (ap (λ (a : Plain ring128). a.has i j) sums_m ∙ has) in
        let zero : W128 = record { number = pos 0; in_range = fits_zero w128 } in
        let at : IsOffset m.pattern i j place.at = (place.in_lane, place.index) in
        let within = offset_within m.pattern sound_m.valid i j place.at at in
        fits-from_near (length list.triplets) _ _ few (above-sums i j list.triplets)
        (subst (λ w. IsNear w ((plain_of_coo whole_ring high_part list).value i j) (length list.triplets))
        (left-at list m sound_m sums_m i j place.at zero at)
        (subst (λ v. IsNear (w128_number (slice_index_or m.values place.at zero)) v
        (length list.triplets)) (high-at i j place.at zero at)
        (near place.at zero (omega (arith, within, sound_m.count)))))
    | inr none ↦ subst (FitsSigned w128)
        (sym (proper_plain_of_triplets whole_ring (λ z. z) list.nrows list.ncols list.triplets i j none))
        (fits_zero w128)
  ]

  near : HasFittingSums list → AreNear m.values h.values (length list.triplets)
  near room k z lt =
      let found = lane_of_offset m.pattern sound_m.valid k (omega (arith, lt, sound_m.count)) in
      let i = found.0 in
      let j = slice_index_or m.pattern.indices k 0 in
      let at : IsOffset m.pattern i j k = (found.1, refl) in
      subst (λ w. IsNear w (w128_number (slice_index_or h.values k z)) (length list.triplets))
      (sym (left-at list m sound_m sums_m i j k z at))
      (subst (λ v. IsNear (int_wrap w128 ((sums_of list).value i j)) v (length list.triplets))
      (sym (high-at i j k z at))
      (near-from_fits (length list.triplets) _ _ (above-sums i j list.triplets) (room i j)))

  pub same_count : length h.values ≡ length m.values
  same_count = sound_h.count ∙ ap (λ (d : Raw). length d.indices) same_pattern ∙ sym sound_m.count

  pub room_decided : (sums high_sums : List W128) (n : ℕ) → sums ≡ m.values → high_sums ≡ h.values
      → n ≡ length list.triplets → AreNear sums high_sums n ↔ HasFittingSums list
  room_decided sums high_sums n ms hs few_n =
      subst (λ xs. AreNear xs high_sums n ↔ HasFittingSums list) (sym ms)
      (subst (λ ys. AreNear m.values ys n ↔ HasFittingSums list) (sym hs)
      (subst (λ k. AreNear m.values h.values k ↔ HasFittingSums list) (sym few_n) (fitting, near)))
