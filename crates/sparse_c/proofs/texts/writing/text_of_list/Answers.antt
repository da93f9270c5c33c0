use Rattle.std.proofs.Common.{ℕ, List, codes, length, inr, ap, subst, ◌∙◌}
use Rattle.std.proofs.lemmas.Result.{err_from_is_err_and}
use Rattle.std.specs.Fmt.{signed_decimal}
use Rattle.sparse_coo_dense.specs.Coo.{coo_of, zip_triplets}
use Rattle.sparse_coo_dense.specs.TripletFaults.{IsFirstTripletFault}
use Rattle.sparse_io.specs.Written.{text_with}
use Rattle.sparse_io.specs.declared.banner.Banner.TheVariants.{MixedCase}
use Rattle.sparse_c.proofs.texts.writing.text_of_list.Goals as goal

pub returns-clause-text : goal.returns-clause-text
returns-clause-text c =
    let is = c.in_ok-row_indices.ensures.items_if_clones_equal (λ x y e. e) in
    let js = c.in_ok-col_indices.ensures.items_if_clones_equal (λ x y e. e) in
    let vs = c.in_ok-values.ensures.items_if_clones_equal (λ x y e. e) in
    c.in_ok-save_to_matrix_market_str_with.ensures
    ∙ ap (text_with MixedCase (codes "integer") signed_decimal) (c.in_ok-list.ensures.ok
    ∙ (λ k. coo_of c.args.shape.0 c.args.shape.1 (zip_triplets (is k) (js k) (vs k))))

pub returns-in_err-list-clause-fault : goal.returns-in_err-list-clause-fault
returns-in_err-list-clause-fault c =
    let is = c.in_ok-row_indices.ensures.items_if_clones_equal (λ x y e. e) in
    let js = c.in_ok-col_indices.ensures.items_if_clones_equal (λ x y e. e) in
    let vs = c.in_ok-values.ensures.items_if_clones_equal (λ x y e. e) in
    let kind = c.in_err-list.field-0.0 in
    let parts = λ (t : List ℕ × (List ℕ × ℕ)). IsFirstTripletFault c.args.shape.0 c.args.shape.1
    t.0 t.1.0 t.1.1 kind in
    let p = err_from_is_err_and c.from_residual-in_err-list.result
    c.from_residual-in_err-list.ensures.1 in
    rw p.1 (inr (record {
      kind = kind;
      first = subst parts (λ k. (is k, (js k, length (vs k)))) c.in_err-list.ensures.fault;
      is = p.2;
    }))
