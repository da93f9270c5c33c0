use Rattle.std.proofs.Common.{◌≡◌}
use Rattle.std.specs.List.{flat_map, range_with_len}
use Rattle.sparse_parser.specs.ArrayPlaces.{column}
use Rattle.reference_models.proofs.texts.entries.array_places.Given as goal

abbrev pub invariant-loop-col : goal.invariant-loop-col
invariant-loop-col l =
    l.places.items ≡ flat_map (column l.symmetry l.nrows) (range_with_len 0 l.col)
