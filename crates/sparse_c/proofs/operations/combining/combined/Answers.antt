use Rattle.std.proofs.Common.{ap, sym, ◌∙◌}
use Rattle.sparse_algebra.specs.Integers.{element_of}
use Rattle.sparse_algebra.specs.Plain.{plain_sum, plain_difference, plain_product}
use Rattle.sparse_c.specs.Combinations.{combined_by}
use Rattle.c_arrays.specs.Arrays.{plain_by_rows}
use Rattle.sparse_c.proofs.operations.combining.combined.Goals as goal

pub returns-in-Sum-clause-plain : goal.returns-in-Sum-clause-plain
returns-in-Sum-clause-plain g c =
    let R = g.T.Ring.ring in
    let p = c.args.pair in
    c.in_ok-add_csr-in-Sum.ensures
    ∙ (λ k. plain_sum R (c.in_ok-a.ensures.plain k) (c.in_ok-b.ensures.plain k))
    ∙ ap (λ how. combined_by R how (element_of R p.alpha) (plain_by_rows R p.a)
    (element_of R p.beta) (plain_by_rows R p.b)) (sym c.in-Sum.is)

pub returns-in-Difference-clause-plain : goal.returns-in-Difference-clause-plain
returns-in-Difference-clause-plain g c =
    let R = g.T.Ring.ring in
    let p = c.args.pair in
    c.in_ok-sub_csr-in-Difference.ensures
    ∙ (λ k. plain_difference R (c.in_ok-a.ensures.plain k) (c.in_ok-b.ensures.plain k))
    ∙ ap (λ how. combined_by R how (element_of R p.alpha) (plain_by_rows R p.a)
    (element_of R p.beta) (plain_by_rows R p.b)) (sym c.in-Difference.is)

pub returns-clause-plain : goal.returns-clause-plain
returns-clause-plain g c =
    let R = g.T.Ring.ring in
    let p = c.args.pair in
    c.in_ok-mul_csr-in-Product.ensures
    ∙ (λ k. plain_product R (c.in_ok-a.ensures.plain k) (c.in_ok-b.ensures.plain k))
    ∙ ap (λ how. combined_by R how (element_of R p.alpha) (plain_by_rows R p.a)
    (element_of R p.beta) (plain_by_rows R p.b)) (sym c.in-Product.is)
