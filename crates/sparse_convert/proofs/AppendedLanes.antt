-- Compressed arrays with one more lane appended.
use Rattle.std.proofs.Common.{◌≡◌, ℕ, Bool, zero, suc, ◌+◌, ◌-◌, ◌<◌, ◌≤◌, List, [], ◌∷◌, ◌++◌}
use Rattle.std.proofs.Common.{length, take, drop, map, slice_index, slice_range, Contains}
use Rattle.std.proofs.Common.{length-append, append_assoc, add-one, refl, ap, sym, ◌∙◌, arith}
use Rattle.std.specs.List.{filter}
use Rattle.std.specs.List.Sorted.{IsStrictlyIncreasing}
use Rattle.std.proofs.lemmas.List.{append-nil, take-append-le, drop-append-le, length-drop}
use Rattle.std.proofs.lemmas.List.{length-map}
use Rattle.sparse_pattern.specs.Raw.{raw_of, paired, entries_from, entries_of}
use Rattle.sparse_pattern.proofs.LaneOrder.{length-entries}
use Rattle.sparse_compressed.specs.Compressed.{Compressed, arrays_of, IsSound}
use Rattle.sparse_compressed.specs.Compressed.{zip_values, lane_triplets}
use Rattle.sparse_convert.specs.FromDense.{full_lanes, differs_from}
use Rattle.sparse_convert.proofs.DenseLanes.{kept_indices, kept_lane, rising_kept, bounded_kept}
use Rattle.sparse_pattern.proofs.PushedLanes.{valid_pushed, offset_kept, lane_is}

-- a range within the first list
range_prefix : (xs ys : List ℕ) (a b : ℕ) → a ≤ b → b ≤ length xs
    → slice_range (xs ++ ys) a b ≡ slice_range xs a b
range_prefix xs ys a b le within =
    ap (take (b - a)) (drop-append-le a xs ys (omega arith)) ∙ take-append-le (b - a) (drop a xs) ys
    (omega (arith, length-drop a xs))

-- the entries with one more lane, whose end offset and indices are appended
entries_gain : (os os' is js : List ℕ) (i n : ℕ)
    → ((k : ℕ) → k ≤ i + n → slice_index os' k ≡ slice_index os k)
    → ((k : ℕ) → k < i + n → (slice_index os k ≤ slice_index os (k + 1))
    × (slice_index os (k + 1) ≤ length is))
    → entries_from os' (is ++ js) i (suc n) ≡ entries_from os is i n ++ paired (i + n)
    (slice_range (is ++ js) (slice_index os' (i + n)) (slice_index os' (i + n + 1)))
entries_gain os os' is js i zero same fine =
    let at : i ≡ i + 0 = omega arith in
    append-nil _
    ∙ ap (λ k. paired k (slice_range (is ++ js) (slice_index os' k) (slice_index os' (k + 1)))) at
entries_gain os os' is js i (suc n) same fine =
    let f = fine i (omega arith) in
    let prefix = paired i (slice_range is (slice_index os i) (slice_index os (i + 1))) in
    let at : i + 1 + n ≡ i + suc n = omega arith in
    let lane : slice_range (is ++ js) (slice_index os' i) (slice_index os' (i + 1)) ≡ slice_range is
    (slice_index os i) (slice_index os (i + 1)) =
    rw (same i (omega arith), same (i + 1) (omega arith))
    (range_prefix is js (slice_index os i) (slice_index os (i + 1)) f.0 f.1) in
    ap (λ l. paired i l ++ entries_from os' (is ++ js) (i + 1) (suc n)) lane
    ∙ ap (λ l. prefix ++ l) (entries_gain os os' is js (i + 1) n (λ k le. same k (omega arith))
    (λ k lt. fine k (omega arith))
    ∙ ap (λ k. entries_from os is (i + 1) n ++ paired k
    (slice_range (is ++ js) (slice_index os' k) (slice_index os' (k + 1)))) at)
    ∙ sym (append_assoc prefix (entries_from os is (i + 1) n) _)

module _ {T : Type 0} where
  zip_more : (ps qs : List (ℕ × ℕ)) (vs us : List T) → length ps ≡ length vs
      → zip_values (ps ++ qs) (vs ++ us) ≡ zip_values ps vs ++ zip_values qs us
  zip_more [] qs [] us e = refl
  zip_more [] qs (v ∷ vs) us e = absurd (omega arith)
  zip_more (p ∷ ps) qs [] us e = absurd (omega arith)
  zip_more (p ∷ ps) qs (v ∷ vs) us e = ap (λ ts. (p.0, p.1, v) ∷ ts)
      (zip_more ps qs vs us (omega arith))

  zip_lane : (i : ℕ) (js : List ℕ) (value : ℕ → T)
      → zip_values (paired i js) (map value js) ≡ map (λ j. (i, j, value j)) js
  zip_lane i [] value = refl
  zip_lane i (j ∷ js) value = ap (λ ts. (i, j, value j) ∷ ts) (zip_lane i js value)

  module _ (n m : ℕ) (offsets indices js : List ℕ) (values : List T) (value : ℕ → T)
      (sound : IsSound (arrays_of n m offsets indices values)) (rising : IsStrictlyIncreasing js)
      (bounded : (j : ℕ) → Contains js j → j < m) where
    abbrev ends : List ℕ
    ends = offsets ++ length (indices ++ js) ∷ []

    abbrev grown : Compressed T
    grown = arrays_of (n + 1) m ends (indices ++ js) (values ++ map value js)

    pub sound_grown : IsSound grown
    sound_grown = record {
      valid = valid_pushed m n offsets indices js sound.valid rising bounded;
      count = omega (
        arith,
        length-append values (map value js),
        length-append indices js,
        length-map js value,
        sound.count,
      );
    }

    pub triplets_grown : lane_triplets grown ≡ lane_triplets (arrays_of n m offsets indices values)
        ++ map (λ j. (n, j, value j)) js
    triplets_grown =
        let before = entries_from offsets indices 0 n in
        let at : 0 + n ≡ n = omega arith in
        let lanes : entries_of grown.pattern ≡ before ++ paired n js =
        ap (entries_from ends (indices ++ js) 0) (add-one n)
        ∙ entries_gain offsets ends indices js 0 n
        (λ k le. offset_kept m n offsets indices js sound.valid rising bounded k (omega arith))
        (λ k lt. let l = sound.valid.lanes k (omega arith) in (l.ordered, l.inside))
        ∙ ap (λ k. before ++ paired k (slice_range (indices ++ js) (slice_index ends k)
        (slice_index ends (k + 1)))) at
        ∙ ap (λ l. before ++ paired n l) (lane_is m n offsets indices js sound.valid rising bounded)
        in
        ap (λ ps. zip_values ps (values ++ map value js)) lanes
        ∙ zip_more before (paired n js) values (map value js)
        (length-entries (raw_of n m offsets indices) sound.valid ∙ sym sound.count)
        ∙ ap (λ l. zip_values before values ++ l) (zip_lane n js value)

-- compressed arrays of the values that differ from z
module _ {T : Type 0} (E : T → T → Bool) (z : T) (m : ℕ) (value : ℕ → ℕ → T) where
  -- the arrays hold the values of the first n lanes that differ from z
  pub record HoldNonzeros (n : ℕ) (offsets indices : List ℕ) (values : List T) : Type 0 where
    pub sound : IsSound (arrays_of n m offsets indices values)
    pub triplets : lane_triplets (arrays_of n m offsets indices values)
        ≡ filter (differs_from E z) (full_lanes n m value)

  -- one more lane
  pub kept_more : {n : ℕ} {offsets indices : List ℕ} {values : List T}
      → HoldNonzeros n offsets indices values → HoldNonzeros (n + 1)
      (offsets ++ length (indices ++ kept_indices E z m value n) ∷ [])
      (indices ++ kept_indices E z m value n)
      (values ++ map (value n) (kept_indices E z m value n))
  kept_more {n} {offsets} {indices} {values} h =
      let js = kept_indices E z m value n in
      let rising = rising_kept _ m in
      let bounded = bounded_kept _ m in
      record {
        sound = sound_grown n m offsets indices js values (value n) h.sound rising bounded;
        triplets = triplets_grown n m offsets indices js values (value n) h.sound rising bounded
            ∙ ap (λ l. l ++ map (λ k. (n, k, value n k)) js) h.triplets
            ∙ sym (kept_lane E z m value n);
      }
