-- Sums of integers of 64 bits are exact in 128 bits.
use Rattle.std.proofs.Common.{◌≡◌, ℕ, ℤ, pos, negsuc, ◌+◌, ◌*◌, ◌^◌, ◌<◌, ◌≤ℤ◌, ◌+ℤ◌}
use Rattle.std.proofs.Common.{neg_ℤ, All, Bool, true, false, List, [], ◌∷◌, length, map}
use Rattle.std.proofs.Common.{slice_index_or, refl, sym, ap, subst, ◌∙◌, arith}
use Rattle.std.specs.Int.{w64, w128}
use Rattle.std.specs.Int.RustNames.{FitsSigned}
use Rattle.std.proofs.lemmas.Int.{ints}
use Rattle.std.proofs.lemmas.List.{get_or-map, length-map}
use Rattle.std.proofs.lemmas.List.Elements.{All-head, All-tail}
use Rattle.sparse_algebra.specs.Numbers.{w64_number}
use Rattle.sparse_algebra.specs.Plain.{Plain, is_at}
use Rattle.sparse_algebra.specs.Sums.{sum_by, where_true}
use Rattle.sparse_algebra.specs.Whole.{whole_ring, number_of, wrapped}
use Rattle.sparse_algebra.specs.Wrapping.{fits_zero}
use Rattle.sparse_algebra.specs.WrappingValues.{w128_number}
use Rattle.sparse_algebra.specs.declared.scalar.wide.W128.{W128}
use Rattle.sparse_algebra.specs.declared.scalar.wrapping.W64.{W64}
use Rattle.sparse_algebra.proofs.PlainLaws.{proper_plain_of_triplets}
use Rattle.sparse_algebra.proofs.WholeNumbers.{number_of-class, number_of-wrapped}
use Rattle.sparse_coo_dense.specs.Coo.{Coo}
use Rattle.sparse_compressed.specs.Compressed.{Compressed, IsSound, IsOffset}
use Rattle.sparse_compressed.specs.PlainOfLanes.{plain_of_rows}
use Rattle.sparse_compressed.proofs.Arrays.{offset_within}
use Rattle.sparse_compressed.proofs.ArraysDeterminePlain.{plain_of_rows-has_lanes, plain_of_rows-unique}
use Rattle.sparse_pattern.proofs.OffsetsInLanes.{lane_of_offset}
use Rattle.sparse_pattern.specs.Raw.{IsEntry}
use Rattle.mtxkit_texts.specs.Loaded.{HasSums, HasFittingSums, IsNarrow, ring128, value128}
use Rattle.mtxkit_texts.specs.Loaded.{sums_of}

-- ---- the sum of n integers of 64 bits

-- z lies between -n and n
abbrev IsBetween : ℕ → ℤ → Type 0
IsBetween n z = (neg_ℤ (pos n) ≤ℤ z) × (z ≤ℤ pos n)

between-entry : (z : ℤ) → FitsSigned w64 z → IsBetween (2 ^ 63) z
between-entry (pos n) f = let s = f.sfits in (omega (arith, ints), omega (arith, ints))
between-entry (negsuc n) f = let s = f.sfits in (omega (arith, ints), omega (arith, ints))

between-sum : (m n : ℕ) (x y : ℤ) → IsBetween m x → IsBetween n y → IsBetween (m + n) (x +ℤ y)
between-sum m n x y h k =
    (omega (arith, ints, h.0, k.0), omega (arith, ints, h.1, k.1))

between-more : (m n : ℕ) (z : ℤ) → m ≡ n → IsBetween m z → IsBetween n z
between-more m n z e h = subst (λ k. IsBetween k z) e h

fits-between : (n : ℕ) → n < 2 ^ 127 → (z : ℤ) → IsBetween n z → FitsSigned w128 z
fits-between n lt (pos k) h = record { sfits = omega (arith, ints, lt, h.1) }
fits-between n lt (negsuc k) h = record { sfits = omega (arith, ints, lt, h.0) }

between-where : (b : Bool) (z : ℤ) → IsBetween (2 ^ 63) z → IsBetween (2 ^ 63) (where_true whole_ring b z)
between-where true z h = h
between-where false z h = (omega (arith, ints), omega (arith, ints))

between-sums : (i j : ℕ) (ts : List (ℕ × ℕ × ℤ)) → All (FitsSigned w64) (map (λ t. t.2) ts)
    → IsBetween (length ts * 2 ^ 63)
    (sum_by whole_ring (λ t. where_true whole_ring (is_at i j t) t.2) ts)
between-sums i j [] fit = (omega (arith, ints), omega (arith, ints))
between-sums i j (t ∷ ts) fit =
    let values = map {B = ℤ} (λ (u : ℕ × ℕ × ℤ). u.2) ts in
    between-more (2 ^ 63 + length ts * 2 ^ 63) (length (t ∷ ts) * 2 ^ 63) _ (omega arith)
    (between-sum (2 ^ 63) (length ts * 2 ^ 63) _ _
    (between-where (is_at i j t) t.2 (between-entry t.2 (All-head (FitsSigned w64) t.2 values fit)))
    (between-sums i j ts (All-tail (FitsSigned w64) t.2 values fit)))

pub narrow-fits : (list : Coo ℤ) → length list.triplets < 2 ^ 64
    → All (FitsSigned w64) (map (λ t. t.2) list.triplets) → (i j : ℕ)
    → FitsSigned w128 ((sums_of list).value i j)
narrow-fits list few fit i j =
    fits-between (length list.triplets * 2 ^ 63) (omega (arith, few)) _
    (between-sums i j list.triplets fit)

-- ---- the values of a matrix of sums

-- the value of an entry is, modulo 2 ^ 128, the sum of the integers with its row and column
pub class-at : (list : Coo ℤ) (m : Compressed W128) → IsSound m → HasSums list m → (i j p : ℕ)
    (z : W128) → IsOffset m.pattern i j p
    → w128_number (slice_index_or m.values p z)
    ≡ number_of w128 (wrapped w128 ((sums_of list).value i j))
class-at list m sound sums i j p z at =
    let v : W128 = slice_index_or m.values p z in
    sym (number_of-class w128 (w128_number v) v.in_range)
    ∙ ap (number_of w128) ((plain_of_rows-has_lanes ring128 value128 m sound).values i j p z at)
    ∙ ap (λ (a : Plain ring128). number_of w128 (a.value i j)) sums

-- ---- sums that fit

module _ (list : Coo ℤ) (m : Compressed W128) (sound : IsSound m) (sums : HasSums list m)
    (fits : HasFittingSums list) where
  -- the value of an entry is the sum of the integers with its row and column
  pub number-at : (i j p : ℕ) (z : W128) → IsOffset m.pattern i j p
      → w128_number (slice_index_or m.values p z) ≡ (sums_of list).value i j
  number-at i j p z at =
      class-at list m sound sums i j p z at ∙ number_of-wrapped w128 _ (fits i j)

  -- if the sums fit in 64 bits, all values do
  pub values-narrow : IsNarrow list → All (λ v. FitsSigned w64 (w128_number v)) m.values
  values-narrow narrow k d lt =
      let found = lane_of_offset m.pattern sound.valid k (omega (arith, lt, sound.count)) in
      let j = slice_index_or m.pattern.indices k 0 in
      subst (FitsSigned w64) (sym (number-at found.0 j k d (found.1, refl))) (narrow.sums found.0 j)

  -- a matrix with the same pattern and the same numbers, in another type, has the exact sums
  module _ {T : Type 0} (number : T → ℤ) (z : T) (n : Compressed T) (sound_n : IsSound n)
      (pattern : n.pattern ≡ m.pattern) (same : map number n.values ≡ map w128_number m.values) where
    number-same : (p : ℕ) (t : T) (y : W128) → p < length n.values
        → number (slice_index_or n.values p t) ≡ w128_number (slice_index_or m.values p y)
    number-same p t y lt =
        let long : length n.values ≡ length m.values = sym (length-map n.values number)
        ∙ ap length same ∙ length-map m.values w128_number in
        sym (get_or-map number n.values p t (pos 0) lt)
        ∙ ap (λ zs. slice_index_or zs p (pos 0)) same
        ∙ get_or-map w128_number m.values p y (pos 0) (omega (arith, lt, long))

    number-sums : plain_of_rows whole_ring number n ≡ sums_of list
    number-sums =
        let have = plain_of_rows-has_lanes ring128 value128 m sound in
        let rows = ap (λ (a : Plain ring128). a.rows) sums in
        let cols = ap (λ (a : Plain ring128). a.cols) sums in
        let zero128 : W128 = record { number = pos 0; in_range = fits_zero w128 } in
        plain_of_rows-unique whole_ring number n sound_n z (sums_of list)
        (record {
          rows = ap (λ p. p.major_dim) pattern ∙ rows;
          cols = ap (λ p. p.minor_dim) pattern ∙ cols;
          places = λ i j.
              let h = have.places i j in
              let has = ap (λ (a : Plain ring128). a.has i j) sums in (
                λ place. sym has ∙ h.0 (subst (λ d. IsEntry d i j) pattern place),
                λ e. subst (λ d. IsEntry d i j) (sym pattern) (h.1 (has ∙ e)),
              );
          values = λ i j p t at.
              let within = offset_within n.pattern sound_n.valid i j p at in
              number-same p t zero128 (omega (arith, within, sound_n.count))
              ∙ number-at i j p zero128 (subst (λ d. IsOffset d i j p) pattern at);
          within = λ i j e.
              let has = ap (λ (a : Plain ring128). a.has i j) sums in
              let in_rows = have.within i j (has ∙ e) in
              (omega (arith, in_rows.0, rows), omega (arith, in_rows.1, cols));
          proper = proper_plain_of_triplets whole_ring (λ z. z) list.nrows list.ncols list.triplets;
        })

  pub exact-sums : (n : Compressed W64) → IsSound n → n.pattern ≡ m.pattern
      → map w64_number n.values ≡ map w128_number m.values
      → plain_of_rows whole_ring w64_number n ≡ sums_of list
  exact-sums n sound_n pattern same =
      let zero64 : W64 = record { number = pos 0; in_range = fits_zero w64 } in
      number-sums w64_number zero64 n sound_n pattern same

  pub exact-wide : plain_of_rows whole_ring w128_number m ≡ sums_of list
  exact-wide =
      let zero128 : W128 = record { number = pos 0; in_range = fits_zero w128 } in
      number-sums w128_number zero128 m sound refl refl
