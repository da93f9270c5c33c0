use Rattle.std.proofs.Common.{inr, ap, subst, sym, ◌∙◌}
use Rattle.std.proofs.lemmas.Result.{err_from_is_err_and}
use Rattle.sparse_algebra.specs.Plain.{Plain}
use Rattle.sparse_algebra.specs.WrappingValues.{w64_value}
use Rattle.sparse_coo_dense.specs.DensePlain.{plain_of_dense}
use Rattle.c_arrays.specs.Arrays.{ring64}
use Rattle.c_arrays.specs.Statuses.{refusal_of_operation}
use Rattle.sparse_compressed.specs.PlainOfLanes.{plain_of_rows}
use Rattle.c_handles.specs.Solved.{triangle_of, IsSingularSystem}
use Rattle.c_handles.specs.declared.solving.Triangle.TheVariants.{Lower}
use Rattle.sparse_dense_ops.specs.Solutions.{IsSolution}
use Rattle.c_handles.proofs.Triangles.{cols-as_lower, rows-as_lower}
use Rattle.c_handles.proofs.Triangles.{IsSingularSystem-of_lower, IsSingularSystem-to_lower}
use Rattle.c_handles.proofs.solving.solve_part.Goals as goal

pub substitute-requires : goal.substitute-requires
substitute-requires c =
    let a = plain_of_rows ring64 w64_value c.args.a.now in
    let rows = ap (λ (p : Plain ring64). p.rows) c.in_ok-columns.ensures
    ∙ rows-as_lower c.args.triangle a c.requires.square in
    let cols = ap (λ (p : Plain ring64). p.cols) c.in_ok-columns.ensures
    ∙ cols-as_lower c.args.triangle a c.requires.square in
    record { square = rows ∙ sym cols; fits = c.requires.fits ∙ sym cols }

pub returns-clause-solved : goal.returns-clause-solved
returns-clause-solved c = subst (λ (t : Plain ring64). IsSolution ring64 t
    (plain_of_dense ring64 w64_value c.substitute.new.b)
    (plain_of_dense ring64 w64_value c.args.b.now))
    (ap (triangle_of Lower c.transposed_as_lower.result) c.in_ok-columns.ensures
    ∙ c.transposed_as_lower.ensures (plain_of_rows ring64 w64_value c.args.a.now))
    c.in_ok-substitute.ensures.solved

pub returns-in_err-substitute-clause-fault : goal.returns-in_err-substitute-clause-fault
returns-in_err-substitute-clause-fault c =
    let p = err_from_is_err_and c.from_residual-in_err-substitute.result
    c.from_residual-in_err-substitute.ensures.1 in
    let e = c.in_err-substitute.ensures in
    rw p.1 (inr (
      p.2 ∙ ap refusal_of_operation e.kind,
      IsSingularSystem-of_lower c.args.triangle (plain_of_rows ring64 w64_value c.args.a.now) c.args.b.now.ncols
          c.requires.square (subst (λ (p : Plain ring64). IsSingularSystem Lower p c.args.b.now.ncols)
          c.in_ok-columns.ensures e.singular),
    ))

pub returns-clause-regular : goal.returns-clause-regular
returns-clause-regular c = λ singular. c.in_ok-substitute.ensures.regular
    (subst (λ (p : Plain ring64). IsSingularSystem Lower p c.args.b.now.ncols)
    (sym c.in_ok-columns.ensures) (IsSingularSystem-to_lower c.args.triangle
    (plain_of_rows ring64 w64_value c.args.a.now) c.args.b.now.ncols c.requires.square singular))
