-- A compressed matrix that is built lane by lane has the given places and values.
use Rattle.std.proofs.Common.{◌≡◌, ℕ, ◌+◌, ◌<◌, inl, inr, ◌↔◌, true, List, [], ◌∷◌, ◌++◌, length}
use Rattle.std.proofs.Common.{get_or, slice_range, Contains, length-append, ap, sym, subst, ◌∙◌}
use Rattle.std.proofs.Common.{refl, arith}
use Rattle.std.specs.List.Sorted.{IsStrictlyIncreasing}
use Rattle.sparse_algebra.proofs.Cases.{lt_add_one_cases, true_or_false}
use Rattle.sparse_algebra.specs.Algebra.{CommRing}
use Rattle.sparse_algebra.specs.Plain.{Plain, IsProper}
use Rattle.sparse_algebra.proofs.PlainLemmas.{same_plain, same_bool}
use Rattle.sparse_pattern.proofs.BuiltLanes.{IsBuilt, lane_built, all_built}
use Rattle.sparse_pattern.proofs.PushedLanes.{offset_kept, offset_last}
use Rattle.sparse_compressed.specs.Compressed.{Compressed, arrays_of, IsSound}
use Rattle.sparse_compressed.specs.PlainOfLanes.{plain_of_rows}
use Rattle.sparse_compressed.specs.InnerLaneValue.{lane_value}
use Rattle.sparse_compressed.proofs.Arrays.{has_is_place, proper_rows}
use Rattle.sparse_compressed.proofs.KeptLanes.{slice_range-prefix, between_end}
use Rattle.sparse_compressed.proofs.LaneValues.{lane_value_is}

module _ (R : CommRing) {T : Type 0} (f : T → R.Carrier) where
  -- the value at index j of lane i of arrays
  abbrev pub value_in_lane : List ℕ → List ℕ → List T → ℕ → ℕ → R.Carrier
  value_in_lane offsets indices values i j =
      let s = get_or offsets i 0 in
      let e = get_or offsets (i + 1) 0 in
      lane_value R f (slice_range indices s e) (slice_range values s e) j

  -- the first n lanes have the entries at which P holds, with the values V
  pub record IsBuiltMatrix (minor_dim : ℕ) (P : ℕ → ℕ → Type 0) (V : ℕ → ℕ → R.Carrier) (n : ℕ)
      (offsets indices : List ℕ) (values : List T) : Type 0 where
    pub built : IsBuilt minor_dim P n offsets indices
    pub count : length values ≡ length indices
    pub values_are : (i j : ℕ) → i < n → value_in_lane offsets indices values i j ≡ V i j

  module _ (m : ℕ) (P : ℕ → ℕ → Type 0) (V : ℕ → ℕ → R.Carrier) (n : ℕ)
      (offsets indices lane : List ℕ) (values lane_values : List T)
      (was : IsBuiltMatrix m P V n offsets indices values) (rising : IsStrictlyIncreasing lane)
      (bounded : (j : ℕ) → Contains lane j → j < m) (holds : (j : ℕ) → Contains lane j ↔ P n j)
      (count : length lane_values ≡ length lane) where
    abbrev longer : List ℕ
    longer = offsets ++ length (indices ++ lane) ∷ []

    kept : (i : ℕ) → i < n + 1 → get_or longer i 0 ≡ get_or offsets i 0
    kept i lt = offset_kept m n offsets indices lane was.built.valid rising bounded i (omega arith)

    value_kept : (i j : ℕ) → i < n
        → value_in_lane longer (indices ++ lane) (values ++ lane_values) i j ≡ V i j
    value_kept i j lt =
        let v = was.built.valid.lanes i lt in
        let s = get_or offsets i 0 in
        let e = get_or offsets (i + 1) 0 in
        rw (
          kept i (omega arith),
          kept (i + 1) (omega arith),
          slice_range-prefix indices lane s e v.ordered v.inside,
          slice_range-prefix values lane_values s e
              v.ordered (omega (arith, v.inside, was.count)),
        ) (was.values_are i j lt)

    start : get_or longer n 0 ≡ length indices
    start = kept n (omega arith) ∙ was.built.valid.last

    end : get_or longer (n + 1) 0 ≡ length indices + length lane
    end = offset_last m n offsets indices lane was.built.valid rising bounded
        ∙ length-append indices lane

    value_last : (j : ℕ)
        → value_in_lane longer (indices ++ lane) (values ++ lane_values) n j ≡ lane_value R f lane
        lane_values j
    value_last j =
        let values_end : slice_range (values ++ lane_values) (length indices)
        (length indices + length lane) ≡ lane_values =
        ap (λ k. slice_range (values ++ lane_values) k (k + length lane)) (sym was.count)
        ∙ ap (λ k. slice_range (values ++ lane_values) (length values) (length values + k))
        (sym count) ∙ between_end values lane_values in
        rw (start, end, between_end indices lane, values_end) refl

    -- appending a lane
    pub matrix_lane_built : ((j : ℕ) → lane_value R f lane lane_values j ≡ V n j)
        → IsBuiltMatrix m P V (n + 1) longer (indices ++ lane) (values ++ lane_values)
    matrix_lane_built is = record {
      built = lane_built m P n offsets indices lane was.built.valid was.built.entries rising bounded
          holds;
      count = omega (
        arith,
        length-append values lane_values,
        length-append indices lane,
        was.count,
        count,
      );
      values_are = λ i j lt. elim (lt_add_one_cases i n lt) [
        | inl old ↦ value_kept i j old
        | inr last ↦ subst (λ k. value_in_lane longer (indices ++ lane) (values ++ lane_values) k j
            ≡ V k j) (sym last) (value_last j ∙ is j)
      ];
    }

  -- once all lanes are built, the arrays represent the plain matrix a
  module _ (z : T) (a : Plain R) (proper : IsProper a) (P : ℕ → ℕ → Type 0)
      (places : (i j : ℕ) → P i j ↔ (a.has i j ≡ true)) (offsets indices : List ℕ) (values : List T)
      (done : IsBuiltMatrix a.cols P a.value a.rows offsets indices values)
      (within : (i j : ℕ) → P i j → i < a.rows) where
    abbrev whole : Compressed T
    whole = arrays_of a.rows a.cols offsets indices values

    pub built_sound : IsSound whole
    built_sound = record { valid = done.built.valid; count = done.count }

    has_same : (i j : ℕ) → (plain_of_rows R f whole).has i j ≡ a.has i j
    has_same i j =
        let here = has_is_place R f whole.pattern done.built.valid values done.count i j in
        let built = all_built a.cols P a.rows a.rows whole.pattern offsets indices refl refl within
        done.built i j in
        same_bool _ _ (λ h. (places i j).0 (built.0 (here.0 h)))
        (λ h. here.1 (built.1 ((places i j).1 h)))

    value_same : (i j : ℕ) → (plain_of_rows R f whole).value i j ≡ a.value i j
    value_same i j = elim (true_or_false (a.has i j)) [
      | inl hit ↦ let lt = within i j ((places i j).1 hit) in sym
          (lane_value_is R f z whole built_sound i lt j) ∙ done.values_are i j lt
      | inr miss ↦ proper_rows R f whole i j (has_same i j ∙ miss) ∙ sym (proper i j miss)
    ]

    pub built_is : plain_of_rows R f whole ≡ a
    built_is = same_plain (plain_of_rows R f whole) a refl refl has_same value_same
