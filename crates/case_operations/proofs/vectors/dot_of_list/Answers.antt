use Rattle.std.proofs.Common.{◌<◌, arith, sym}
use Rattle.std.proofs.lemmas.List.Elements.{All-map}
use Rattle.case_operations.proofs.vectors.dot_of_list.Goals as goal

-- the columns of the list are below its number of columns
pub usdot-requires-clause-inside : goal.usdot-requires-clause-inside
usdot-requires-clause-inside g c =
    let m = c.args.x.now in
    let inside = All-map (λ j. j < m.ncols) (λ t. t.1) m.triplets
    (λ k d lt. (c.col_indices.ensures.inside k d lt).1) in
    let below = rw (sym c.col_indices.ensures.cols) at inside in
    λ k d h. omega (arith, below k d h, c.ncols.ensures, c.if-ncols-y.false)
