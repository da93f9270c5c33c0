use Rattle.std.proofs.Common.{refl, ◌∙◌, ◌*◌, ◌≡◌, ◌≢◌, ap, arith, sym, length}
use Rattle.std.proofs.lemmas.List.{append-nil}
use Rattle.sparse_coo_dense.specs.Blocks.{IsBlockInside}
use Rattle.sparse_coo_dense.proofs.BlockLemmas.{empty_block, block_inside}
use Rattle.sparse_coo_dense.proofs.coo.CooMatrix.push_matrix.Given.{Over}
use Rattle.sparse_coo_dense.proofs.coo.CooMatrix.push_matrix.Goals.{Else-count-eq0}
use Rattle.sparse_coo_dense.proofs.coo.CooMatrix.push_matrix.Goals as goal

pub returns-then-count-eq0-clause-ok : goal.returns-then-count-eq0-clause-ok
returns-then-count-eq0-clause-ok g c =
    let none : length c.args.matrix.now.values ≡ 0 = sym (ap length c.as_slice-count.ensures.values)
    ∙ c.if-count-eq0.true in
    rw (empty_block c.args.r c.args.c c.args.matrix.now none, append-nil c.args.self.now.triplets)
    refl

pub invariant_of-self : goal.invariant_of-self
invariant_of-self g c = rw (
  c.in_err-reserve_each.ensures.rows,
  c.in_err-reserve_each.ensures.cols,
  c.in_err-reserve_each.ensures.values,
) c.self.invariant

full : (g : Over) (c : Else-count-eq0 g)
    → length c.args.matrix.now.values ≡ c.args.matrix.now.nrows * c.args.matrix.now.ncols
full g c = sym (ap length c.as_slice-count.ensures.values) ∙ c.as_slice-count.ensures.count

-- a block with values lies within the matrix
inside : (g : Over) (c : Else-count-eq0 g)
    → IsBlockInside c.args.self.now c.args.r c.args.c c.args.matrix.now
inside g c =
    let some : length c.args.matrix.now.values ≢ 0 =
    λ e. c.if-count-eq0.false (ap length c.as_slice-count.ensures.values ∙ e) in
    block_inside c.args.self.now c.args.r c.args.c c.args.matrix.now (full g c) some c.requires

pub push_block-requires-clause-full : goal.push_block-requires-clause-full
push_block-requires-clause-full g c =
    full g (goal.at.push_block-requires-clause-full g c).Else-count-eq0

pub push_block-requires-clause-row_room : goal.push_block-requires-clause-row_room
push_block-requires-clause-row_room g c =
    rw (ap length c.as_slice-count.ensures.values) at c.in_ok-reserve_each.ensures.row_room

pub push_block-requires-clause-col_room : goal.push_block-requires-clause-col_room
push_block-requires-clause-col_room g c =
    rw (ap length c.as_slice-count.ensures.values) at c.in_ok-reserve_each.ensures.col_room

pub push_block-requires-clause-room : goal.push_block-requires-clause-room
push_block-requires-clause-room g c =
    rw (ap length c.as_slice-count.ensures.values) at c.in_ok-reserve_each.ensures.room

pub push_block-requires-clause-row_fits : goal.push_block-requires-clause-row_fits
push_block-requires-clause-row_fits g c =
    let fits = rw (← c.self.view_is) at
    (inside g (goal.at.push_block-requires-clause-row_fits g c).Else-count-eq0) in
    omega (arith, fits.0)

pub push_block-requires-clause-col_fits : goal.push_block-requires-clause-col_fits
push_block-requires-clause-col_fits g c =
    let fits = rw (← c.self.view_is) at
    (inside g (goal.at.push_block-requires-clause-col_fits g c).Else-count-eq0) in
    omega (arith, fits.1)

pub push_block-requires-clause-row_count : goal.push_block-requires-clause-row_count
push_block-requires-clause-row_count g c = rw (
  c.in_ok-reserve_each.ensures.rows,
  c.in_ok-reserve_each.ensures.values,
) c.self.invariant.row_count

pub push_block-requires-clause-col_count : goal.push_block-requires-clause-col_count
push_block-requires-clause-col_count g c = rw (
  c.in_ok-reserve_each.ensures.cols,
  c.in_ok-reserve_each.ensures.values,
) c.self.invariant.col_count

pub invariant_of-self-2 : goal.invariant_of-self-2
invariant_of-self-2 g c =
    let m = c.self.inside in
    let fits = rw (← c.self.view_is) at
    (inside g (goal.at.invariant_of-self-2 g c).Else-count-eq0) in
    c.push_block.ensures.parts m.nrows m.ncols
    (rw (
      c.in_ok-reserve_each.ensures.rows,
      c.in_ok-reserve_each.ensures.cols,
      c.in_ok-reserve_each.ensures.values,
    ) c.self.invariant) fits.0 fits.1

pub returns-clause-ok : goal.returns-clause-ok
returns-clause-ok g c = rw (
  ← c.self.view_is,
  c.push_block.ensures.triplets,
  c.in_ok-reserve_each.ensures.rows,
  c.in_ok-reserve_each.ensures.cols,
  c.in_ok-reserve_each.ensures.values,
) refl
