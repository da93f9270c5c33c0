use Rattle.std.proofs.Common.{sym, ◌∙◌}
use Rattle.sparse_compressed.specs.PlainOfLanes.{plain_of_cols}
use Rattle.sparse_laws.proofs.operations.columns.transpose_of_product.Goals as goal

pub returns : goal.returns
returns g c =
    let R = g.T.Ring.ring in
    let plain = plain_of_cols R g.T.Ring.value in
    c.in_ok-transposed.ensures
    ∙ c.transpose_product_law.ensures (plain c.args.a.now) (plain c.args.b.now) c.requires
    ∙ sym c.in_ok-reversed.ensures
