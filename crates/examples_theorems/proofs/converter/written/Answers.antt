use Rattle.std.proofs.Common.{Ok, sym, subst, ◌∙◌, arith, FitsSigned, codes}
use Rattle.std.specs.Int.{w64}
use Rattle.std.specs.Fmt.{signed_decimal}
use Rattle.nalgebra_sparse.specs.Banner.TheVariants.{LowerCase}
use Rattle.nalgebra_sparse.specs.Meaning.{Means, values_of}
use Rattle.nalgebra_sparse.specs.Numbers.{w64_number}
use Rattle.nalgebra_sparse.specs.ScalarTypes.{wrapping_scalar}
use Rattle.examples_theorems.proofs.ReadValues.{text-read, inside-read, values-read, length-read}
use Rattle.examples_theorems.proofs.converter.written.Goals as goal

pub returns : goal.returns
returns g c =
    let m = g.S.MatrixMarketExport.exported c.args.matrix.now in
    subst (λ l. Means (wrapping_scalar w64) l (Ok (values_of w64_number m)))
    (sym (c.in_ok-text.ensures ∙ text-read w64_number signed_decimal (codes "integer") m))
    (c.round_trip.ensures LowerCase (values_of w64_number m)
    (omega (arith, c.is_size.ensures, c.nrows.ensures))
    (omega (arith, c.is_size-2.ensures, c.ncols.ensures))
    (omega (arith, c.is_size-3.ensures, c.nnz.ensures, length-read w64_number m))
    (inside-read w64_number m c.triplet_iter.ensures.inside)
    (values-read w64_number (FitsSigned w64) (λ x. x.in_range) m))
