-- Transposes of compressed matrices: the transpose is unique, transposing twice gives the matrix,
-- and the plain matrix is transposed.
use Rattle.std.proofs.Common.{◌≡◌, ℕ, ◌<◌, List, length, get_or, slice_get, slice_index, refl, ap}
use Rattle.std.proofs.Common.{sym, ◌∙◌, subst, arith}
use Rattle.std.specs.Prelude.{unwrap_or}
use Rattle.std.proofs.lemmas.List.{same_lists}
use Rattle.std.proofs.lemmas.Option.{unwrap_or-slice_get}
use Rattle.sparse_algebra.specs.Algebra.{CommRing}
use Rattle.sparse_pattern.specs.Raw.{Raw}
use Rattle.sparse_algebra.specs.Plain.{plain_transpose}
use Rattle.sparse_pattern.specs.TransposedPattern.{IsTransposedPattern, AreTransposedValues}
use Rattle.sparse_pattern.proofs.SameEntries.{equal_from_entries}
use Rattle.sparse_compressed.specs.Compressed.{Compressed, compressed_of, IsSound, IsOffset}
use Rattle.sparse_compressed.specs.PlainOfLanes.{plain_of_rows}
use Rattle.sparse_compressed.specs.TransposedMatrix.{IsTranspose}
use Rattle.sparse_pattern.proofs.OffsetsInLanes.{lane_of_offset}
use Rattle.sparse_compressed.proofs.Arrays.{value_at_offset, has_is_place, plain_of_rows-from_places, proper_rows}

module _ {T : Type 0} where
  -- a transposed pattern with the transposed values is the transpose
  pub with_values : (m : Compressed T) (t : Raw) (values : List T) → IsTransposedPattern m.pattern t
      → AreTransposedValues m.pattern t m.values values → IsTranspose m (compressed_of t values)
  with_values m t values transposed moved = record {
    pattern = transposed;
    values = λ i j p q here there. moved i j p q here.0 here.1 there.0 there.1;
  }

  -- lists with the same element at p and q
  same_read : (xs ys : List T) (p q : ℕ) (z : T) → slice_get xs p ≡ slice_get ys q
      → get_or xs p z ≡ get_or ys q z
  same_read xs ys p q z same = sym (unwrap_or-slice_get xs p z) ∙ ap (λ x. unwrap_or x z) same
      ∙ unwrap_or-slice_get ys q z

  transposed_back : (m n : Compressed T) → IsTranspose m n → IsTranspose n m
  transposed_back m n h = record {
    pattern = record {
      major_dim = sym h.pattern.minor_dim;
      minor_dim = sym h.pattern.major_dim;
      entries = λ i j. let same = h.pattern.entries j i in (same.1, same.0);
    };
    values = λ i j p q here there. sym (h.values j i q p there here);
  }

  -- a matrix transposed twice is the matrix
  pub twice : (m n k : Compressed T) → IsSound m → IsSound k → IsTranspose m n → IsTranspose n k
      → k ≡ m
  twice m n k sm sk once again = ap (λ d. compressed_of d k.values) patterns
      ∙ ap (compressed_of m.pattern) values
    where
      patterns : k.pattern ≡ m.pattern
      patterns = equal_from_entries k.pattern m.pattern sk.valid sm.valid record {
        major_dim = again.pattern.major_dim ∙ once.pattern.minor_dim;
        minor_dim = again.pattern.minor_dim ∙ once.pattern.major_dim;
        entries = λ i j. (
          λ h. (once.pattern.entries i j).0 ((again.pattern.entries j i).0 h),
          λ h. (again.pattern.entries j i).1 ((once.pattern.entries i j).1 h),
        );
      }

      values : k.values ≡ m.values
      values = same_lists k.values m.values (sk.count ∙ ap (λ d. length d.indices) patterns
          ∙ sym sm.count) (λ p z within.
          let lt : p < length m.pattern.indices = omega
          (arith, sk.count, ap (λ d. length d.indices) patterns) in
          let lane = lane_of_offset m.pattern sm.valid p lt in
          let j = slice_index m.pattern.indices p in
          let here : IsOffset m.pattern lane.0 j p = (lane.1, refl) in
          let place = (once.pattern.entries lane.0 j).1 record
          { at = p; in_lane = lane.1; index = refl } in
          let there : IsOffset n.pattern j lane.0 place.at = (place.in_lane, place.index) in
          let home : IsOffset k.pattern lane.0 j p = subst (λ d. IsOffset d lane.0 j p)
          (sym patterns) here in
          same_read k.values m.values p p z (again.values j lane.0 place.at p there home
          ∙ once.values lane.0 j p place.at here there))

  pub one_transpose : (m n k : Compressed T) → IsSound n → IsSound k → IsTranspose m n
      → IsTranspose m k → n ≡ k
  one_transpose m n k sn sk left right = twice k m n sk sn (transposed_back m k right) left

  -- the plain matrix of the transpose is the transposed plain matrix
  pub plain_transposed : (R : CommRing) (f : T → R.Carrier) (z : T) (m n : Compressed T) → IsSound m
      → IsSound n → IsTranspose m n → plain_of_rows R f n ≡ plain_transpose R (plain_of_rows R f m)
  plain_transposed R f z m n sm sn h =
      plain_of_rows-from_places R f z n (plain_transpose R (plain_of_rows R f m)) sn (λ i j. proper_rows R f m j i)
      h.pattern.major_dim h.pattern.minor_dim
      (λ i j.
      let has = has_is_place R f m.pattern sm.valid m.values sm.count j i in
      let same = h.pattern.entries j i in
      (λ x. has.1 (same.0 x), λ x. same.1 (has.0 x)))
      (λ i j q at.
      let place = (h.pattern.entries j i).0 record { at = q; in_lane = at.0; index = at.1 } in
      let here : IsOffset m.pattern j i place.at = (place.in_lane, place.index) in
      ap f (same_read n.values m.values q place.at z (h.values j i place.at q here at))
      ∙ sym (value_at_offset R f m.pattern sm.valid m.values sm.count z j i place.at here))
