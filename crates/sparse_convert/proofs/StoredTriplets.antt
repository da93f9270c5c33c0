-- The triplets of a compressed matrix, as three lists, and transposed.
use Rattle.std.proofs.Common.{◌≡◌, ℕ, ◌<◌, List, [], ◌∷◌, length, map, ap}
use Rattle.std.proofs.Common.{sym, ◌∙◌, refl, arith}
use Rattle.std.proofs.lemmas.List.{length-map, same_lists, get_or_default, get_or-map}
use Rattle.std.proofs.lemmas.Simd.{map-map}
use Rattle.sparse_coo_dense.specs.Coo.{coo_of, zip_triplets, AreParts}
use Rattle.sparse_coo_dense.proofs.CooParts.{parts-split}
use Rattle.sparse_pattern.specs.Raw.{Raw, IsValid, entries_of}
use Rattle.sparse_pattern.proofs.LaneOrder.{length-entries}
use Rattle.sparse_compressed.specs.Compressed.{Compressed, IsSound, zip_values}
use Rattle.sparse_compressed.specs.Compressed.{lane_triplets, transposed}
use Rattle.sparse_pattern.proofs.OffsetsInLanes.{lane_of_offset}
use Rattle.sparse_compressed.proofs.Arrays.{entry_at, pairs_of-triplets}
use Rattle.sparse_compressed.proofs.TripletBounds.{lane_triplets-inside}

-- the minor indices of the entries are the indices of the pattern
indices-entries : (d : Raw) → IsValid d → map (λ (p : ℕ × ℕ). p.1) (entries_of d) ≡ d.indices
indices-entries d valid =
    let long : length (map (λ (p : ℕ × ℕ). p.1) (entries_of d)) ≡ length d.indices =
    length-map (entries_of d) (λ (p : ℕ × ℕ). p.1) ∙ length-entries d valid in
    same_lists _ _ long (λ p z within.
    let lt : p < length d.indices = omega (arith, long, within) in
    let inside : p < length (entries_of d) = omega (arith, length-entries d valid) in
    let lane = lane_of_offset d valid p lt in
    get_or-map (λ (p : ℕ × ℕ). p.1) (entries_of d) p (0, 0) z inside
    ∙ ap (λ e. e.1) (entry_at d valid lane.0 p lane.1) ∙ get_or_default d.indices p 0 z lt)

module _ {T : Type 0} where
  values-zip : (ps : List (ℕ × ℕ)) (vs : List T) → length ps ≡ length vs
      → map (λ (t : ℕ × ℕ × T). t.2) (zip_values ps vs) ≡ vs
  values-zip [] [] e = refl
  values-zip [] (v ∷ vs) e = absurd (omega arith)
  values-zip (p ∷ ps) [] e = absurd (omega arith)
  values-zip (p ∷ ps) (v ∷ vs) e = ap (λ l. v ∷ l) (values-zip ps vs (omega arith))

  -- the transposed triplets are those of the exchanged lists of rows and columns
  pub zip_of_transposed : (ts : List (ℕ × ℕ × T))
      → zip_triplets (map (λ t. t.1) ts) (map (λ t. t.0) ts) (map (λ t. t.2) ts) ≡ map transposed ts
  zip_of_transposed [] = refl
  zip_of_transposed (t ∷ ts) = ap (λ l. transposed t ∷ l) (zip_of_transposed ts)

  -- the parts of a coordinate list with rows and columns exchanged
  pub exchanged_parts : {n m : ℕ} {rows cols : List ℕ} {values : List T}
      → AreParts n m rows cols values → AreParts m n cols rows values
  exchanged_parts parts = record {
    row_count = parts.col_count;
    col_count = parts.row_count;
    rows_bounded = parts.cols_bounded;
    cols_bounded = parts.rows_bounded;
  }

  module _ (m : Compressed T) (sound : IsSound m) where
    long : length (entries_of m.pattern) ≡ length m.values
    long = length-entries m.pattern sound.valid ∙ sym sound.count

    -- the row or column lists of the triplets are those of the entries of the pattern
    parts_stored : (part : ℕ × ℕ → ℕ) → map (λ (t : ℕ × ℕ × T). part (t.0, t.1)) (lane_triplets m)
        ≡ map part (entries_of m.pattern)
    parts_stored part = sym (map-map part (λ (t : ℕ × ℕ × T). (t.0, t.1)) (lane_triplets m))
        ∙ ap (map part) (pairs_of-triplets (entries_of m.pattern) m.values long)

    -- the three lists of the stored triplets
    pub lanes_stored : map (λ (t : ℕ × ℕ × T). t.0) (lane_triplets m) ≡ map (λ (p : ℕ × ℕ). p.0)
        (entries_of m.pattern)
    lanes_stored = parts_stored (λ p. p.0)

    pub indices_stored : map (λ (t : ℕ × ℕ × T). t.1) (lane_triplets m) ≡ m.pattern.indices
    indices_stored = parts_stored (λ p. p.1) ∙ indices-entries m.pattern sound.valid

    pub values_stored : map (λ (t : ℕ × ℕ × T). t.2) (lane_triplets m) ≡ m.values
    values_stored = values-zip (entries_of m.pattern) m.values long

    -- the lists are the parts of a coordinate list, by rows and by columns
    pub parts_by_rows : AreParts m.pattern.major_dim m.pattern.minor_dim
        (map (λ (t : ℕ × ℕ × T). t.0) (lane_triplets m))
        (map (λ (t : ℕ × ℕ × T). t.1) (lane_triplets m))
        (map (λ (t : ℕ × ℕ × T). t.2) (lane_triplets m))
    parts_by_rows = parts-split
        (coo_of m.pattern.major_dim m.pattern.minor_dim (lane_triplets m)) _ _ _ refl refl refl
        (lane_triplets-inside m sound)

    pub parts_by_cols : AreParts m.pattern.minor_dim m.pattern.major_dim
        (map (λ (t : ℕ × ℕ × T). t.1) (lane_triplets m))
        (map (λ (t : ℕ × ℕ × T). t.0) (lane_triplets m))
        (map (λ (t : ℕ × ℕ × T). t.2) (lane_triplets m))
    parts_by_cols = exchanged_parts parts_by_rows
