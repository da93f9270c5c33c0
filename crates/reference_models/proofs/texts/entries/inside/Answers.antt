use Rattle.std.proofs.Common.{sym, ap, ◌∙◌}
use Rattle.std.specs.Prelude.{nat_lt, ◌&&◌}
use Rattle.std.specs.List.{list_all}
use Rattle.reference_models.proofs.TextBounds.{all_inside, some_outside}
use Rattle.reference_models.proofs.texts.entries.inside.Goals as goal

pub returns-then-not-all_inside : goal.returns-then-not-all_inside
returns-then-not-all_inside g c =
    some_outside g.T.MatrixMarketScalar.scalar g.T.MatrixMarketScalar.value c.args.nrows
    c.args.ncols c.args.triplets.items
    (ap (list_all (λ t. nat_lt t.0 c.args.nrows && nat_lt t.1 c.args.ncols))
    (sym c.deref.ensures.value) ∙ sym c.all_inside.ensures ∙ c.if-not-all_inside.true)

pub returns : goal.returns
returns g c =
    all_inside g.T.MatrixMarketScalar.scalar g.T.MatrixMarketScalar.value c.args.nrows c.args.ncols
    c.args.triplets.items
    (ap (list_all (λ t. nat_lt t.0 c.args.nrows && nat_lt t.1 c.args.ncols))
    (sym c.deref.ensures.value) ∙ sym c.all_inside.ensures ∙ c.if-not-all_inside.false)
