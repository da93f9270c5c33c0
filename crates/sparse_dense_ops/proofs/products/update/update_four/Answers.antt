use Rattle.std.proofs.Common.{◌≡◌, ◌+◌, ◌++◌, ap, ◌∙◌, arith}
use Rattle.sparse_dense_ops.proofs.ColumnBlocks.{four_columns}
use Rattle.sparse_dense_ops.proofs.products.update.update_four.Goals as goal

pub gather_four-requires-clause-rows_4 : goal.gather_four-requires-clause-rows_4
gather_four-requires-clause-rows_4 g c = omega (
  arith,
  c.requires.count,
  c.split_at_mut-first.ensures.front_len,
  c.split_at_mut-first.ensures.back_len,
  c.split_at_mut-second.ensures.back_len,
  c.split_at_mut-third.ensures.back_len,
)

pub returns : goal.returns
returns g c =
    let one = c.split_at_mut-first.ensures in
    let two = c.split_at_mut-second.ensures in
    let three = c.split_at_mut-third.ensures in
    let parts = one.value ∙ ap (λ r. c.split_at_mut-first.result.0.now ++ r)
    (two.value ∙ ap (λ r. c.split_at_mut-second.result.0.now ++ r) three.value) in
    let updated = c.gather_four.ensures in
    let start : c.args.j ≡ c.args.j + 0 = omega arith in
    rw parts (four_columns
    (record { long = one.front_len; same = updated.first.count; is = rw start at updated.first })
    (record { long = two.front_len; same = updated.second.count; is = updated.second })
    (record { long = three.front_len; same = updated.third.count; is = updated.third })
    (record {
      long = omega (arith, c.requires.count, one.back_len, two.back_len, three.back_len);
      same = updated.fourth.count;
      is = updated.fourth;
    }))
