use Rattle.std.proofs.Common.{Ok, ap, subst, map-id}
use Rattle.sparse_coo_dense.specs.Coo.{Coo, coo_of}
use Rattle.sparse_market_scalar.specs.ScalarTypes.{pattern_scalar}
use Rattle.sparse_parser.specs.Meaning.{Means}
use Rattle.mtxkit_texts.proofs.loaded.read_pattern_list.Goals as goal

pub returns-in-Ok-clause-meant : goal.returns-in-Ok-clause-meant
returns-in-Ok-clause-meant c =
    let list = c.in-Ok.places in
    subst (λ (m : Coo (Unit {0})). Means pattern_scalar c.args.text.now (Ok m))
    (ap (coo_of list.nrows list.ncols) (map-id list.triplets)) c.in-Ok.ensures.ok
