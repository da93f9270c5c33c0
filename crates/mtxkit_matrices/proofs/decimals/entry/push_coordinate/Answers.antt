use Rattle.std.proofs.Common.{◌∷◌, []}
use Rattle.sparse_parser.specs.declared.header.Format.TheVariants.{Coordinate}
use Rattle.sparse_parser.specs.InnerReading.{words_of}
use Rattle.mtxkit_matrices.proofs.ScaleRefusals.{coordinate_entry, value_failed, memory_failed}
use Rattle.mtxkit_matrices.proofs.decimals.entry.push_coordinate.Goals as goal

pub returns-in-Ok-clause-refused : goal.returns-in-Ok-clause-refused
returns-in-Ok-clause-refused c =
    memory_failed c.args.scale c.args.number Coordinate (words_of c.args.line.now)
    c.push_words.result
    c.push_words.ensures.refused

pub returns-in-Err-clause-refused : goal.returns-in-Err-clause-refused
returns-in-Err-clause-refused c =
    let are = c.in-Some.ensures.0 in
    value_failed c.args.scale c.args.number Coordinate _
    (c.in-Some.words.row.now ∷ c.in-Some.words.col.now ∷ []) c.in-Some.words.value.now are
    (coordinate_entry _ _ _ _ are c.in-Some.ensures.1 c.in-Some.ensures.2 c.in-Some.ensures.3) _
    c.in-Err.ensures.refused
