use Rattle.std.proofs.Common.{ℕ, List, inr, ap, subst, ◌∙◌}
use Rattle.std.proofs.lemmas.Result.{err_from_is_err_and}
use Rattle.sparse_coo_dense.specs.Coo.{coo_of, zip_triplets}
use Rattle.sparse_coo_dense.specs.CooPlain.{plain_of_coo}
use Rattle.sparse_coo_dense.specs.TripletFaults.{IsFirstTripletFault}
use Rattle.sparse_algebra.specs.Integers.{element_of}
use Rattle.sparse_coo_dense.proofs.Meanings.{list-meant, same_length}
use Rattle.c_arrays.proofs.triplets.list_of.Goals as goal

pub returns-clause-plain : goal.returns-clause-plain
returns-clause-plain g c =
    let R = g.T.Ring.ring in
    let f = g.T.Ring.value in
    let is = c.in_ok-row_indices.ensures.items_if_clones_equal (λ x y e. e) in
    let js = c.in_ok-col_indices.ensures.items_if_clones_equal (λ x y e. e) in
    let values = c.in_ok-values.values.items in
    ap (plain_of_coo R f) (c.in_ok-try_from_triplets.ensures.ok
    ∙ (λ k. coo_of c.args.rows c.args.cols (zip_triplets (is k) (js k) values)))
    ∙ list-meant R f (element_of R) c.args.rows c.args.cols c.args.row_indices.now
    c.args.col_indices.now values c.args.values.now c.in_ok-values.ensures

pub returns-in_err-try_from_triplets-clause-fault :
    goal.returns-in_err-try_from_triplets-clause-fault
returns-in_err-try_from_triplets-clause-fault g c =
    let R = g.T.Ring.ring in
    let f = g.T.Ring.value in
    let is = c.in_ok-row_indices.ensures.items_if_clones_equal (λ x y e. e) in
    let js = c.in_ok-col_indices.ensures.items_if_clones_equal (λ x y e. e) in
    let count = same_length R f (element_of R) c.in_ok-values.values.items c.args.values.now
    c.in_ok-values.ensures in
    let kind = c.in_err-try_from_triplets.field-0.0 in
    let parts = λ (t : List ℕ × (List ℕ × ℕ)). IsFirstTripletFault c.args.rows c.args.cols t.0
    t.1.0 t.1.1 kind in
    let p = err_from_is_err_and c.from_residual-in_err-try_from_triplets.result
    c.from_residual-in_err-try_from_triplets.ensures.1 in
    rw p.1 (inr (record {
      kind = kind;
      first = subst parts (λ k. (is k, (js k, count k))) c.in_err-try_from_triplets.ensures.fault;
      is = p.2;
    }))
