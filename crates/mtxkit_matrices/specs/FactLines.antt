-- The lines of `mtxkit info` about a matrix.
use Rattle.std.specs.Prelude.{ℕ, ◌+◌, ◌-◌, ◌*◌, ◌/◌, ◌==◌, Bool, true, false, if◌then◌else◌, max}
use Rattle.std.specs.Prelude.{List, [], ◌∷◌, ◌++◌, codes, length, replicate, slice_index}
use Rattle.std.specs.Fmt.{decimal}
use Rattle.std.specs.List.{flat_map}
use Rattle.sparse_algebra.specs.Plain.{below}
use Rattle.mtxkit_matrices.specs.declared.facts.info.Info.{Info}

-- ---- a line

-- a name, a value, and a line end
unfoldable pub line : List ℕ → List ℕ → List ℕ
line name value = name ++ (codes ": " ++ (value ++ codes "\n"))

abbrev pub count_line : List ℕ → ℕ → List ℕ
count_line name count = line name (decimal count)

abbrev pub answer : Bool → List ℕ
answer true = codes "yes"
answer false = codes "no"

-- ---- the facts

abbrev pub count_lines : Info → List ℕ
count_lines s = count_line (codes "places") s.places
    ++ (count_line (codes "stored zeros") s.stored_zeros
    ++ (count_line (codes "empty rows") s.empty_rows
    ++ (count_line (codes "empty columns") s.empty_cols
    ++ count_line (codes "bandwidth") s.bandwidth)))

abbrev pub symmetry_lines : Info → List ℕ
symmetry_lines s = line (codes "symmetric pattern") (answer s.has_symmetric_pattern)
    ++ line (codes "symmetric values") (answer s.has_symmetric_values)

-- ---- the histogram

-- a blank and n marks, or nothing if n is 0
abbrev pub marks : ℕ → List ℕ
marks n = if n == 0 then [] else 32 ∷ replicate n 35

-- the bar for `count` of `nrows` rows, of which 40 marks stand for all
abbrev pub bar : ℕ → ℕ → List ℕ
bar count nrows = marks (count * 40 / max nrows 1)

-- the line for the rows with `from` to `to` entries: their number, and a bar for their share
unfoldable pub bar_line : ℕ → ℕ → ℕ → ℕ → List ℕ
bar_line from to count nrows =
    codes "  " ++ (decimal from ++ (codes " to " ++ (decimal to ++ (codes ": "
    ++ (decimal count ++ (bar count nrows ++ codes "\n"))))))

-- a line for each count; count b is that of the rows with at least b * `width` and fewer than
-- (b + 1) * `width` entries
abbrev pub bar_lines : ℕ → List ℕ → ℕ → List ℕ
bar_lines width counts nrows =
    flat_map (λ b. bar_line (b * width) ((b + 1) * width - 1) (slice_index counts b) nrows)
    (below (length counts))

-- the title of the histogram
unfoldable pub bar_title : List ℕ
bar_title = codes "rows by their places:\n"

abbrev pub histogram_lines : ℕ → List ℕ → ℕ → List ℕ
histogram_lines width counts nrows = bar_title ++ bar_lines width counts nrows
