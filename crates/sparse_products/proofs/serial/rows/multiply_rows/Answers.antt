use Rattle.std.proofs.Common.{◌≡◌, ◌<◌, length, get_or, ap, subst, ◌∙◌, arith}
use Rattle.std.proofs.lemmas.List.{take_at}
use Rattle.sparse_pattern.specs.Raw.{Raw}
use Rattle.sparse_products.specs.InnerIndexSets.{IsEmptyIndexSet}
use Rattle.sparse_sums.proofs.BuiltSums.{none_built}
use Rattle.sparse_products.proofs.ProductRows.{row_more, product_sound, product_is}
use Rattle.sparse_products.proofs.serial.rows.multiply_rows.Goals as goal

pub loop-i-init : goal.loop-i-init
loop-i-init g c =
    let width_is = ap (λ (d : Raw). d.minor_dim) c.pattern-second.ensures.pattern in
    record {
      empty = subst (λ n. IsEmptyIndexSet n c.estimate_nnz.new.set) width_is
          c.in_ok-room.ensures;
      width = c.in_ok-row.ensures.width ∙ c.minor_dim-2.ensures ∙ width_is;
      zero = c.in_ok-row.ensures.zero;
      built = rw (
        c.in_ok-rows.ensures.offsets,
        c.in_ok-rows.ensures.indices,
        c.in_ok-rows.ensures.values,
      ) none_built;
    }

pub loop-i-preserved : goal.loop-i-preserved
loop-i-preserved g c =
    let f = g.T.Ring.value in
    let z = g.T.Zero.zero_value in
    let lanes = c.major_dim-i-end.ensures
    ∙ ap (λ (d : Raw). d.major_dim) c.pattern-first.ensures.pattern in
    let lt : c.loop-i.i < c.args.matrices.a.now.pattern.major_dim =
    omega (arith, c.loop-i-test.true, lanes) in
    let left = c.push_row.new.row in
    let long : length left ≡ c.loop-i.row.len = c.push_row.auto.row ∙ c.deref_mut.ensures.len in
    let gained = c.in_ok-push_row.ensures in
    record {
      empty = gained.empty;
      width = c.loop-i.invariant.width;
      zero = λ j. ap (λ xs. f (get_or xs j z)) (take_at left _ _ long) ∙ gained.zero j;
      built = row_more g.T.Ring.ring f c.pattern-first.ensures.sound
          c.pattern-second.ensures.sound c.requires z lt c.loop-i.invariant.built gained.lane
          gained.offset gained.values;
    }

pub into_matrix-requires : goal.into_matrix-requires
into_matrix-requires g c =
    let first_is = c.pattern-first.ensures.pattern in
    let lanes = c.major_dim-i-end.ensures ∙ ap (λ (d : Raw). d.major_dim) first_is in
    let whole : c.loop-i.i ≡ c.args.matrices.a.now.pattern.major_dim =
    omega (arith, c.loop-i-test.false, c.loop-i.auto.i-end, lanes) in
    rw (c.major_dim-2.ensures, c.minor_dim-3.ensures, first_is, c.pattern-second.ensures.pattern)
    (product_sound g.T.Ring.ring g.T.Ring.value c.pattern-first.ensures.sound
    c.pattern-second.ensures.sound c.requires whole c.loop-i.invariant.built)

pub returns : goal.returns
returns g c =
    let first_is = c.pattern-first.ensures.pattern in
    let lanes = c.major_dim-i-end.ensures ∙ ap (λ (d : Raw). d.major_dim) first_is in
    let whole : c.loop-i.i ≡ c.args.matrices.a.now.pattern.major_dim =
    omega (arith, c.loop-i-test.false, c.loop-i.auto.i-end, lanes) in
    rw (
      c.into_matrix.ensures,
      c.major_dim-2.ensures,
      c.minor_dim-3.ensures,
      first_is,
      c.pattern-second.ensures.pattern,
    )
    (product_is g.T.Ring.ring g.T.Ring.value c.pattern-first.ensures.sound
    c.pattern-second.ensures.sound c.requires whole c.loop-i.invariant.built
    g.T.Zero.zero_value)
