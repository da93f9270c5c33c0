-- The places and values of the plain matrix of compressed arrays; `==` decides whether two plain
-- matrices are the same.
use Rattle.std.proofs.Common.{◌≡◌, ℕ, suc, zero, ◌<◌, inl, inr, ◌↔◌, Bool, true, List, [], ◌∷◌}
use Rattle.std.proofs.Common.{length, get_or, Contains, slice_index, ap, sym, subst, ◌∙◌, refl}
use Rattle.std.proofs.Common.{arith}
use Rattle.std.specs.List.{list_any}
use Rattle.std.specs.Cmp.Lexicographic.{pointwise}
use Rattle.sparse_algebra.proofs.Cases.{and_both, and_parts, true_or_false}
use Rattle.sparse_algebra.specs.Algebra.{CommRing}
use Rattle.sparse_algebra.specs.Plain.{Plain, IsProper, is_at}
use Rattle.sparse_algebra.proofs.PlainLemmas.{same_plain, same_bool}
use Rattle.sparse_pattern.specs.Raw.{Raw, IsValid, IsEntry, HasSameEntries, entries_of, raw_eq}
use Rattle.sparse_pattern.proofs.OffsetsInLanes.{one_offset, lane_of_offset}
use Rattle.sparse_pattern.proofs.LaneOrder.{length-entries, Contains-entries_of}
use Rattle.sparse_pattern.proofs.SameEntries.{raw_eq-HasSameEntries, equal_from_entries}
use Rattle.sparse_compressed.specs.Compressed.{Compressed, IsSound, IsOffset, zip_values}
use Rattle.sparse_compressed.specs.Compressed.{compressed_eq}
use Rattle.sparse_compressed.specs.PlainOfLanes.{plain_of_rows}
pub use Rattle.sparse_compressed.proofs.EntryOffsets.{offset_within, entry_at}
pub use Rattle.sparse_compressed.proofs.EntryOffsets.{offset_of_entry}
pub use Rattle.sparse_compressed.proofs.TripletSums.{pair_is, test_yes, pairs_of, named}
pub use Rattle.sparse_compressed.proofs.TripletSums.{pairs_of-triplets, value_at, value_at-none}
pub use Rattle.sparse_compressed.proofs.TripletSums.{value_at-one}

module _ (R : CommRing) {T : Type 0} (f : T → R.Carrier) (d : Raw) (valid : IsValid d) (vs : List T)
    (count : length vs ≡ length d.indices) where
  pub value_at_offset : (z : T) (i j p : ℕ) → IsOffset d i j p
      → value_at R f (zip_values (entries_of d) vs) i j ≡ f (get_or vs p z)
  value_at_offset z i j p h =
      let long = length-entries d valid in
      value_at-one R f i j p z (entries_of d) vs (long ∙ sym count)
      (omega (arith, long, offset_within d valid i j p h))
      (entry_at d valid i p h.0 ∙ ap (λ x. (i, x)) h.1)
      (λ q lt is. let there = offset_of_entry d valid i j q (omega (arith, long, lt)) is in sym
      (one_offset d valid i p q h.0 there.0 (h.1 ∙ sym there.1)))

  pub has_is_place : (i j : ℕ)
      → (list_any (is_at i j) (zip_values (entries_of d) vs) ≡ true) ↔ IsEntry d i j
  has_is_place i j =
      let pairs = pairs_of-triplets (entries_of d) vs (length-entries d valid ∙ sym count) in
      let places = Contains-entries_of d valid i j in
      let names = named i j (zip_values (entries_of d) vs) in (
        λ h. places.0 (subst (λ l. Contains l (i, j)) pairs (names.0 h)),
        λ h. names.1 (subst (λ l. Contains l (i, j)) (sym pairs) (places.1 h)),
      )

-- a compressed matrix by rows that has the shape, the places and the values of a plain matrix
-- represents it
pub plain_of_rows-from_places : (R : CommRing) {T : Type 0} (f : T → R.Carrier) (z : T) (m : Compressed T)
    (a : Plain R)
    → IsSound m → IsProper a → m.pattern.major_dim ≡ a.rows → m.pattern.minor_dim ≡ a.cols
    → ((i j : ℕ) → IsEntry m.pattern i j ↔ (a.has i j ≡ true))
    → ((i j p : ℕ) → IsOffset m.pattern i j p → f (get_or m.values p z) ≡ a.value i j)
    → plain_of_rows R f m ≡ a
plain_of_rows-from_places R {T} f z m a sound proper rows cols places values = same_plain (plain_of_rows R f m) a rows
    cols has_same value_same
  where
    d : Raw
    d = m.pattern

    has_same : (i j : ℕ) → (plain_of_rows R f m).has i j ≡ a.has i j
    has_same i j =
        let here = has_is_place R f m.pattern sound.valid m.values sound.count i j in
        same_bool _ _ (λ h. (places i j).0 (here.0 h)) (λ h. here.1 ((places i j).1 h))

    value_same : (i j : ℕ) → (plain_of_rows R f m).value i j ≡ a.value i j
    value_same i j = elim (true_or_false (a.has i j)) [
      | inl hit ↦
          let place = (places i j).1 hit in
          let offset : IsOffset m.pattern i j place.at = (place.in_lane, place.index) in
          value_at_offset R f m.pattern sound.valid m.values sound.count z i j place.at offset
          ∙ values i j place.at offset
      | inr miss ↦ value_at-none R f i j (zip_values (entries_of m.pattern) m.values)
          (has_same i j ∙ miss) ∙ sym (proper i j miss)
    ]

pub proper_rows : (R : CommRing) {T : Type 0} (f : T → R.Carrier) (m : Compressed T)
    → IsProper (plain_of_rows R f m)
proper_rows R f m i j = value_at-none R f i j (zip_values (entries_of m.pattern) m.values)

-- ---- `==` decides whether the plain matrices are the same

module _ {X : Type 0} (E : X → X → Bool) where
  pointwise_from : (z : X) (xs ys : List X) → length xs ≡ length ys
      → ((p : ℕ) → p < length xs → E (get_or xs p z) (get_or ys p z) ≡ true)
      → pointwise E xs ys ≡ true
  pointwise_from z [] [] e h = refl
  pointwise_from z [] (y ∷ ys) e h = absurd (omega arith)
  pointwise_from z (x ∷ xs) [] e h = absurd (omega arith)
  pointwise_from z (x ∷ xs) (y ∷ ys) e h = and_both (E x y) _ (h 0 (omega arith))
      (pointwise_from z xs ys (omega arith) (λ p lt. h (suc p) (omega arith)))

  pointwise_at : (z : X) (xs ys : List X) → pointwise E xs ys ≡ true → (p : ℕ) → p < length xs
      → E (get_or xs p z) (get_or ys p z) ≡ true
  pointwise_at z [] ys h p lt = absurd (omega arith)
  pointwise_at z (x ∷ xs) [] h p lt = cc
  pointwise_at z (x ∷ xs) (y ∷ ys) h zero lt = (and_parts (E x y) _ h).0
  pointwise_at z (x ∷ xs) (y ∷ ys) h (suc p) lt = pointwise_at z xs ys (and_parts (E x y) _ h).1 p
      (omega arith)

module _ (R : CommRing) {T : Type 0} (f : T → R.Carrier) (E : T → T → Bool)
    (decides : (x y : T) → (E x y ≡ true) ↔ (f x ≡ f y)) (z : T) (m n : Compressed T)
    (sm : IsSound m) (sn : IsSound n) where
  equal_from_plain : plain_of_rows R f m ≡ plain_of_rows R f n → compressed_eq E m n ≡ true
  equal_from_plain e =
      let same : HasSameEntries m.pattern n.pattern = record {
        major_dim = ap (λ a. a.rows) e;
        minor_dim = ap (λ a. a.cols) e;
        entries = λ i j.
            let hm = has_is_place R f m.pattern sm.valid m.values sm.count i j in
            let hn = has_is_place R f n.pattern sn.valid n.values sn.count i j in
            let h = ap (λ a. a.has i j) e in
            (λ x. hn.0 (sym h ∙ hm.1 x), λ x. hm.0 (h ∙ hn.1 x));
      } in
      let patterns : m.pattern ≡ n.pattern = equal_from_entries m.pattern n.pattern sm.valid sn.valid
      same in
      let long : length m.values ≡ length n.values = sm.count ∙ ap (λ d. length d.indices) patterns
      ∙ sym sn.count in
      and_both (raw_eq m.pattern n.pattern) (pointwise E m.values n.values)
      ((raw_eq-HasSameEntries m.pattern n.pattern sm.valid sn.valid (raw_eq m.pattern n.pattern) refl).1
      same)
      (pointwise_from E z m.values n.values long (λ p lt.
      let lane = lane_of_offset m.pattern sm.valid p (omega (arith, sm.count)) in
      let j = slice_index m.pattern.indices p in
      let at : IsOffset m.pattern lane.0 j p = (lane.1, refl) in
      let at' : IsOffset n.pattern lane.0 j p = subst (λ d. IsOffset d lane.0 j p) patterns
      at in
      (decides _ _).1
      (sym (value_at_offset R f m.pattern sm.valid m.values sm.count z lane.0 j p at)
      ∙ ap (λ a. a.value lane.0 j) e ∙ value_at_offset R f n.pattern sn.valid n.values sn.count
      z lane.0 j p at')))

  plain_from_equal : compressed_eq E m n ≡ true → plain_of_rows R f m ≡ plain_of_rows R f n
  plain_from_equal h =
      let parts = and_parts (raw_eq m.pattern n.pattern) (pointwise E m.values n.values) h in
      let same = (raw_eq-HasSameEntries m.pattern n.pattern sm.valid sn.valid (raw_eq m.pattern n.pattern)
      refl).0 parts.0 in
      let patterns : m.pattern ≡ n.pattern = equal_from_entries m.pattern n.pattern sm.valid sn.valid
      same in
      plain_of_rows-from_places R f z m (plain_of_rows R f n) sm (proper_rows R f n) same.major_dim same.minor_dim
      (λ i j. let hn = has_is_place R f n.pattern sn.valid n.values sn.count i
      j in (λ x. hn.1 ((same.entries i j).0 x), λ x. (same.entries i j).1 (hn.0 x)))
      (λ i j p at.
      let at' : IsOffset n.pattern i j p = subst (λ d. IsOffset d i j p) patterns at in
      let lt : p < length m.values = omega (
        arith,
        sm.count,
        offset_within m.pattern sm.valid i j
            p at,
      ) in
      (decides _ _).0 (pointwise_at E z m.values n.values parts.1 p lt)
      ∙ sym (value_at_offset R f n.pattern sn.valid n.values sn.count z i j p at'))

  pub equal_decides : (compressed_eq E m n ≡ true) ↔ (plain_of_rows R f m ≡ plain_of_rows R f n)
  equal_decides = (plain_from_equal, equal_from_plain)
