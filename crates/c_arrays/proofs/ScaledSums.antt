-- The sum of two scaled matrices of integers, built row by row in the arrays for the result.
use Rattle.std.proofs.Common.{◌≡◌, ℕ, ℤ, pos, ◌+◌, ◌-◌, ◌<◌, ◌≤◌, false, List, [], ◌∷◌, ◌++◌}
use Rattle.std.proofs.Common.{length, map, take, drop, set, slice_range, ap, sym, subst}
use Rattle.std.proofs.Common.{◌∙◌, arith}
use Rattle.std.proofs.lemmas.List.{drop-map, get_or-map, length-map, length-take-le, map-id}
use Rattle.std.proofs.lemmas.List.{take-map, take_more_set}
use Rattle.sparse_algebra.specs.Algebra.{CommRing}
use Rattle.sparse_algebra.specs.Integers.{element_of}
use Rattle.sparse_algebra.specs.Plain.{Plain, plain_scaled, plain_sum}
use Rattle.sparse_pattern.specs.Raw.{start_of, end_of, lane_of}
use Rattle.sparse_compressed.specs.Compressed.{Compressed, arrays_of, compressed_of, IsSound}
use Rattle.sparse_compressed.specs.PlainOfLanes.{plain_of_rows}
use Rattle.sparse_compressed.proofs.ChangedPlain.{scaled}
use Rattle.sparse_compressed.proofs.LaneValues.{values_of}
use Rattle.sparse_sums.specs.InnerAdding.{GainsSum}
use Rattle.sparse_sums.proofs.SumLanes.{IsSumBelow, none_summed, sum_more, sum_is}
use Rattle.sparse_sums.proofs.SumLanes.{sum_sound}
use Rattle.c_arrays.specs.Arrays.{plain_by_rows, place_count, output_arrays, HoldsRows}
use Rattle.c_arrays.proofs.Meanings.{place_count-rows, rows-meant}
use Rattle.c_arrays.specs.InnerFilling.{prefix_elements, scaled_elements}

module _ (R : CommRing) (s : R.Carrier) (m : Compressed ℤ) where
  -- the matrix of the elements that the integers represent, multiplied by s
  abbrev pub multiple : Compressed R.Carrier
  multiple = compressed_of m.pattern (scaled_elements R s m.values)

  pub multiple_sound : IsSound m → IsSound multiple
  multiple_sound sound = record {
    valid = sound.valid;
    count = length-map m.values (λ z. R.mul s (element_of R z)) ∙ sound.count;
  }

  pub multiple_values : (i : ℕ) → values_of multiple i
      ≡ scaled_elements R s (slice_range m.values (start_of m.pattern i) (end_of m.pattern i))
  multiple_values i =
      let h = λ (z : ℤ). R.mul s (element_of R z) in
      let from = start_of m.pattern i in
      let long = end_of m.pattern i - from in
      ap (take long) (drop-map h from m.values) ∙ take-map h long (drop from m.values)

  pub multiple_is : IsSound m
      → plain_of_rows R (λ x. x) multiple ≡ plain_scaled R s (plain_by_rows R m)
  multiple_is sound =
      let h = λ (z : ℤ). R.mul s (element_of R z) in
      let meant = map (element_of R) m.values in
      let long = length-map m.values (element_of R) in
      scaled R (λ x. x) R.zero (compressed_of m.pattern meant) (scaled_elements R s m.values)
      (record { valid = sound.valid; count = long ∙ sound.count }) s
      (record {
        count = length-map m.values h ∙ sym long;
        each = λ k lt. get_or-map h m.values k (pos 0) R.zero (omega (arith, lt, long))
            ∙ ap (R.mul s) (sym (get_or-map (element_of R) m.values k (pos 0) R.zero
            (omega (arith, lt, long))));
      })
      ∙ ap (plain_scaled R s) (rows-meant R (λ x. x) (element_of R) m.pattern meant m.values
      (map-id meant))

module _ (R : CommRing) (s t : R.Carrier) (a b : Compressed ℤ) where
  -- the arrays begin with the first n rows of the sum
  abbrev pub HasRows : ℕ → ℕ → List ℕ → List ℕ → List ℤ → Type 0
  HasRows n at offsets indices numbers = IsSumBelow R (λ x. x) false (multiple R s a)
      (multiple R t b) n (take (n + 1) offsets) (take at indices) (prefix_elements R at numbers)

  pub no_rows : (os is : List ℕ) (us : List ℤ) → 0 < length os → HasRows 0 0 (set os 0 0) is us
  no_rows os is us lt = subst (λ l. IsSumBelow R (λ x. x) false (multiple R s a) (multiple R t b) 0
      l [] []) (sym (take_more_set os 0 0 lt))
      (none_summed R (λ x. x) false (multiple R s a) (multiple R t b))

module _ (R : CommRing) (s t : R.Carrier) (a b : Compressed ℤ) (sa : IsSound a) (sb : IsSound b)
    (lanes : a.pattern.major_dim ≡ b.pattern.major_dim)
    (width : a.pattern.minor_dim ≡ b.pattern.minor_dim) where
  pub row_more : (n at to : ℕ) (os is js : List ℕ) (us vs : List ℤ) → n < a.pattern.major_dim
      → n + 1 < length os → to ≤ length js → HasRows R s t a b n at os is us
      → GainsSum R (take at is) (take to js) (prefix_elements R at us) (prefix_elements R to vs)
      (lane_of a.pattern n) (scaled_elements R s
      (slice_range a.values (start_of a.pattern n) (end_of a.pattern n)))
      (lane_of b.pattern n) (scaled_elements R t
      (slice_range b.values (start_of b.pattern n) (end_of b.pattern n)))
      → HasRows R s t a b (n + 1) to (set os (n + 1) to) js vs
  row_more n at to os is js us vs lt room le has gains =
      let A = multiple R s a in
      let B = multiple R t b in
      sum_more R (λ x. x) R.zero false A B (multiple_sound R s a sa) (multiple_sound R t b sb)
      lanes width n (take (n + 1) os) (take (n + 1 + 1) (set os (n + 1) to)) (take at is)
      (take to js) (prefix_elements R at us) (prefix_elements R to vs) lt has
      (subst (λ (v : List R.Carrier × List R.Carrier). GainsSum R (take at is) (take to js)
      (prefix_elements R at us) (prefix_elements R to vs) (lane_of a.pattern n) v.0
      (lane_of b.pattern n) v.1)
      (λ k. (sym (multiple_values R s a n) k, sym (multiple_values R t b n) k)) gains)
      (take_more_set os (n + 1) to room
      ∙ ap (λ k. take (n + 1) os ++ k ∷ []) (sym (length-take-le to js le)))

  abbrev sum : Plain R
  sum = plain_sum R (plain_scaled R s (plain_by_rows R a)) (plain_scaled R t (plain_by_rows R b))

  pub rows_held : (at : ℕ) (os is : List ℕ) (us : List ℤ) → at ≤ length us
      → HasRows R s t a b a.pattern.major_dim at os is us → HoldsRows sum (output_arrays os is us at)
  rows_held at os is us le has =
      let n = a.pattern.major_dim in
      let A = multiple R s a in
      let B = multiple R t b in
      let fits = multiple_sound R s a sa in
      let fits' = multiple_sound R t b sb in
      let offsets = take (n + 1) os in
      let front = prefix_elements R at us in
      let m = arrays_of n a.pattern.minor_dim offsets (take at is) front in
      let done : n ≡ n = λ _. n in
      let sound : IsSound m = sum_sound R (λ x. x) R.zero false A B fits fits' lanes width n
      offsets (take at is) front done has in
      let is_sum : plain_of_rows R (λ x. x) m ≡ sum =
      sum_is R (λ x. x) R.zero false A B fits fits' lanes width n offsets (take at is) front done
      has ∙ (λ k. plain_sum R (multiple_is R s a sa k) (multiple_is R t b sb k)) in
      let long = length-map (take at us) (element_of R) in
      record {
        sound = record { valid = sound.valid; count = sym long ∙ sound.count };
        plain = rows-meant R (element_of R) (λ x. x) m.pattern (take at us) front
            (sym (map-id front)) ∙ is_sum;
        places = sym (length-take-le at us le) ∙ sym long
            ∙ sym (place_count-rows R (λ x. x) m sound) ∙ ap place_count is_sum;
      }
