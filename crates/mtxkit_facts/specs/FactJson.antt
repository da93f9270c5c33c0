-- The object of `mtxkit info --json`.
use Rattle.std.specs.Prelude.{ℕ, ◌+◌, ◌-◌, ◌*◌, ◌==◌, Bool, true, false, if◌then◌else◌, List, []}
use Rattle.std.specs.Prelude.{◌++◌, codes, length, slice_index, Option, Some, None}
use Rattle.std.specs.Fmt.{decimal}
use Rattle.std.specs.List.{flat_map}
use Rattle.sparse_algebra.specs.Plain.{below}
use Rattle.sparse_parser.specs.declared.header.Header.{Header}
use Rattle.mtxkit_matrices.specs.declared.facts.info.Info.{Info}
use Rattle.mtxkit_facts.specs.Json.{first_member, flag_member, member, number_member, object_end}
use Rattle.mtxkit_facts.specs.Json.{quoted}
use Rattle.mtxkit_matrices.specs.HeaderWords.{format_name, field_name, symmetry_name}
use Rattle.mtxkit_facts.specs.declared.facts.TextFacts.{TextFacts}

-- the names of the header, each null if there is none
abbrev pub json_names : Option Header → List ℕ
json_names (Some h) = first_member (codes "format") (quoted (format_name h.format))
    ++ (member (codes "field") (quoted (field_name h.field))
    ++ member (codes "symmetry") (quoted (symmetry_name h.symmetry)))
json_names None = first_member (codes "format") (codes "null")
    ++ (member (codes "field") (codes "null") ++ member (codes "symmetry") (codes "null"))

abbrev pub json_sizes : ℕ → ℕ → ℕ → List ℕ
json_sizes rows cols entries = number_member (codes "rows") rows
    ++ (number_member (codes "columns") cols ++ number_member (codes "entries") entries)

-- the facts that are none about values
abbrev pub json_places : Info → List ℕ
json_places s = number_member (codes "places") s.places
    ++ (number_member (codes "empty_rows") s.empty_rows
    ++ (number_member (codes "empty_columns") s.empty_cols
    ++ (number_member (codes "bandwidth") s.bandwidth
    ++ flag_member (codes "symmetric_pattern") s.has_symmetric_pattern)))

-- the facts about values, if these are known
abbrev pub json_values : Bool → Info → List ℕ
json_values true s = number_member (codes "stored_zeros") s.stored_zeros
    ++ flag_member (codes "symmetric_values") s.has_symmetric_values
json_values false s = []

-- ---- the histogram

-- what precedes the element of an array with this index
abbrev pub json_comma : ℕ → List ℕ
json_comma index = if index == 0 then [] else codes ","

-- the object for the rows with `from` to `to` places
unfoldable pub json_bar : ℕ → ℕ → ℕ → List ℕ
json_bar from to count = codes "{\"from\":" ++ (decimal from ++ (codes ",\"to\":" ++ (decimal to
    ++ (codes ",\"rows\":" ++ (decimal count ++ codes "}")))))

-- an object for each count, as `bar_lines` has a line
abbrev pub json_bars : ℕ → List ℕ → List ℕ
json_bars width counts = flat_map (λ b. json_comma b
    ++ json_bar (b * width) ((b + 1) * width - 1) (slice_index counts b)) (below (length counts))

-- the array of these, and the end of the object
unfoldable pub json_rows : ℕ → List ℕ → List ℕ
json_rows width counts = codes ",\"rows_by_their_places\":["
    ++ (json_bars width counts ++ (codes "]" ++ object_end))

-- ---- the object

abbrev pub info_json : TextFacts → List ℕ
info_json f = json_names f.header ++ (json_sizes f.rows f.cols f.entries
    ++ (json_places f.matrix ++ (json_values f.has_values f.matrix
    ++ json_rows f.matrix.rows.width f.matrix.rows.counts.items)))
