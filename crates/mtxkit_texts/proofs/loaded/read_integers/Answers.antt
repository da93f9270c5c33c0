use Rattle.std.proofs.Common.{ℤ, Ok, ap, subst, map-id}
use Rattle.std.specs.Int.{w128}
use Rattle.sparse_coo_dense.specs.Coo.{Coo, coo_of}
use Rattle.sparse_market_scalar.specs.ScalarTypes.{signed_scalar}
use Rattle.sparse_parser.specs.Meaning.{Means}
use Rattle.mtxkit_texts.proofs.loaded.read_integers.Goals as goal

pub returns-in-Ok-clause-meant : goal.returns-in-Ok-clause-meant
returns-in-Ok-clause-meant c =
    let list = c.in-Ok.integers in
    subst (λ (m : Coo ℤ). Means (signed_scalar w128) c.args.text.now (Ok m))
    (ap (coo_of list.nrows list.ncols) (map-id list.triplets)) c.in-Ok.ensures.ok
