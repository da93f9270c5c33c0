-- The answers of the slow reader, as contracts see them.
use Rattle.std.specs.Prelude.{map, Result, Ok, Err}
use Rattle.sparse_coo_dense.specs.Coo.{Coo, coo_of}
use Rattle.sparse_parser.specs.declared.error.MatrixMarketErrorKind.{MatrixMarketErrorKind}
use Rattle.sparse_parser.specs.Reads.{Read}
use Rattle.sparse_parser.specs.Meaning.{value_triplet}
use Rattle.reference_models.specs.declared.texts.entries.Listed.{Listed}

-- an answer, with what contracts see of its value
abbrev pub seen : {A B : Type 0} → (A → B) → Result A MatrixMarketErrorKind → Read B
seen f (Ok x) = Ok (f x)
seen f (Err kind) = Err kind

-- the list of triplets that sizes and triplets are
abbrev pub listed_as : {T V : Type 0} → (T → V) → Listed T → Coo V
listed_as value m = coo_of m.nrows m.ncols (map (value_triplet value) m.triplets.items)
