-- The entries of a factor as a list of the pairs of its fill.
use Rattle.std.proofs.Common.{◌≡◌, ℕ, List, length, map, ap, ◌∙◌, arith}
use Rattle.std.specs.List.{Contains}
use Rattle.std.proofs.lemmas.List.{get_or-map, length-map}
use Rattle.sparse_pattern.specs.Raw.{Raw, IsValid, entries_of, nnz_of}
use Rattle.sparse_pattern.proofs.LaneOrder.{length-entries, Contains-entries_of}
use Rattle.sparse_factor.specs.Fill.{InFill, StoresByColumns, ListsFill}

-- an entry as a pair of a row and a column
abbrev transposed : ℕ × ℕ → ℕ × ℕ
transposed e = (e.1, e.0)

abbrev pub fill_pairs : Raw → List (ℕ × ℕ)
fill_pairs d = map transposed (entries_of d)

pub length-fill_pairs : (d : Raw) → IsValid d → length (fill_pairs d) ≡ nnz_of d
length-fill_pairs d valid = length-map (entries_of d) transposed ∙ length-entries d valid

pub fill_pairs_list : (base : ℕ → ℕ → Type 0) (d : Raw) → IsValid d
    → StoresByColumns (InFill base) d → ListsFill base (fill_pairs d)
fill_pairs_list base d valid stores i j f =
    let has : Contains (entries_of d) (j, i) = (Contains-entries_of d valid j i).1 ((stores i j).1 f) in
    let read = get_or-map transposed (entries_of d) has.0 (j, i) (i, j) has.1 in
    (has.0, omega (arith, has.1, length-map (entries_of d) transposed), read ∙ ap transposed has.2)
