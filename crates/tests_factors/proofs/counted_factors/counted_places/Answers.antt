use Rattle.std.proofs.Common.{ap, arith}
use Rattle.sparse_pattern.specs.Raw.{nnz_of}
use Rattle.sparse_factor.specs.Fill.{UpperBase}
use Rattle.tests_factors.proofs.FillPairs.{fill_pairs, length-fill_pairs, fill_pairs_list}
use Rattle.tests_factors.proofs.counted_factors.counted_places.Goals as goal

pub returns : goal.returns
returns c =
    let d = c.in_ok-factor.factor.factor in
    let counted = c.in_ok-factor.ensures in
    let all = fill_pairs_list (UpperBase c.args.pattern) d counted.valid counted.fill in
    omega (
      arith,
      counted.no_more (fill_pairs d) all,
      length-fill_pairs d counted.valid,
      c.nnz-nnz.ensures,
      ap nnz_of c.l_pattern.ensures,
      c.nnz.ensures,
    )
