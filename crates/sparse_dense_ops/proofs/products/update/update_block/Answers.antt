use Rattle.std.proofs.Common.{◌≡◌, ◌+◌, ◌⊎◌, Bool, ℕ, false, inl, inr, arith}
use Rattle.sparse_dense_ops.proofs.ColumnBlocks.{one_column}
use Rattle.sparse_dense_ops.proofs.products.update.update_block.Goals as goal

-- a block of four columns is updated only if the matrix is not transposed
off_at_four : (width : ℕ) (transposed : Bool)
    → (width ≡ 1) ⊎ ((width ≡ 4) × (transposed ≡ false)) → width ≡ 4 → transposed ≡ false
off_at_four width transposed (inl one) four = absurd (omega (arith, one, four))
off_at_four width transposed (inr both) four = both.1

-- a block that has not four columns has one
one_unless_four : (width : ℕ) (transposed : Bool)
    → (width ≡ 1) ⊎ ((width ≡ 4) × (transposed ≡ false)) → (width ≡ 4 → ⊥) → width ≡ 1
one_unless_four width transposed (inl one) other = one
one_unless_four width transposed (inr both) other = absurd (other both.0)

pub update_four-requires-clause-inner : goal.update_four-requires-clause-inner
update_four-requires-clause-inner g c = rw (off_at_four c.args.width c.args.change.now.transposed
    c.requires.widths c.if-width-eq-BLOCK.true) at c.requires.inner

pub update_four-requires-clause-rows : goal.update_four-requires-clause-rows
update_four-requires-clause-rows g c = rw (off_at_four c.args.width c.args.change.now.transposed
    c.requires.widths c.if-width-eq-BLOCK.true) at c.requires.rows

pub update_four-requires-clause-count : goal.update_four-requires-clause-count
update_four-requires-clause-count g c = rw c.if-width-eq-BLOCK.true at c.requires.count

pub returns-then-width-eq-BLOCK : goal.returns-then-width-eq-BLOCK
returns-then-width-eq-BLOCK g c =
    let four = c.if-width-eq-BLOCK.true in
    rw (four, off_at_four c.args.width c.args.change.now.transposed c.requires.widths four)
    c.update_four.ensures

pub scatter_column-requires : goal.scatter_column-requires
scatter_column-requires g c =
    let on = c.if-change.true in
    let one = one_unless_four c.args.width c.args.change.now.transposed c.requires.widths
    c.if-width-eq-BLOCK.false in
    record {
      inner = rw on at c.requires.inner;
      rows = omega (arith, rw one at c.requires.count, rw on at c.requires.rows);
      column = omega (arith, one, c.requires.within, c.requires.cols);
    }

pub gather_column-requires : goal.gather_column-requires
gather_column-requires g c =
    let off = c.if-change.false in
    let one = one_unless_four c.args.width c.args.change.now.transposed c.requires.widths
    c.if-width-eq-BLOCK.false in
    record {
      inner = rw off at c.requires.inner;
      rows = omega (arith, rw one at c.requires.count, rw off at c.requires.rows);
      column = omega (arith, one, c.requires.within, c.requires.cols);
    }

pub returns-then-change : goal.returns-then-change
returns-then-change g c =
    let one = one_unless_four c.args.width c.args.change.now.transposed c.requires.widths
    c.if-width-eq-BLOCK.false in
    let start : c.args.j ≡ c.args.j + 0 = omega arith in
    let updated = c.scatter_column.ensures in
    rw (one, c.if-change.true)
    (one_column (omega (arith, rw one at c.requires.count)) updated.count (rw start at updated))

pub returns-else-change : goal.returns-else-change
returns-else-change g c =
    let one = one_unless_four c.args.width c.args.change.now.transposed c.requires.widths
    c.if-width-eq-BLOCK.false in
    let start : c.args.j ≡ c.args.j + 0 = omega arith in
    let updated = c.gather_column.ensures in
    rw (one, c.if-change.false)
    (one_column (omega (arith, rw one at c.requires.count)) updated.count (rw start at updated))
