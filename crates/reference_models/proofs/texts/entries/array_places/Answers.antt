use Rattle.std.proofs.Common.{◌≡◌, ℕ, List, ◌++◌, ap, ◌∙◌, arith}
use Rattle.std.specs.List.{flat_map, range_with_len}
use Rattle.sparse_parser.specs.ArrayPlaces.{column, array_places}
use Rattle.reference_models.proofs.TextPlaces.{columns_more}
use Rattle.reference_models.proofs.texts.entries.array_places.Goals as goal

pub loop-col-preserved : goal.loop-col-preserved
loop-col-preserved c =
    let f = column c.args.symmetry c.args.nrows in
    c.in_ok-push_column.ensures
    ∙ ap (λ (xs : List (ℕ × ℕ)). xs ++ f c.loop-col.col) c.loop-col.invariant
    ∙ columns_more f c.loop-col.col

pub returns : goal.returns
unfolding array_places
returns c =
    let all : c.loop-col.col ≡ c.args.ncols = omega arith in
    c.loop-col.invariant ∙ ap (λ (n : ℕ). flat_map (column c.args.symmetry c.args.nrows)
    (range_with_len 0 n)) all
