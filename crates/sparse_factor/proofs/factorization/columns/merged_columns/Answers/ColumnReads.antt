-- What one iteration of `merged_columns` reads, appends and counts.
use Rattle.std.proofs.Common.{ℕ, ◌+◌, ◌-◌, ◌≤◌, List, length, slice_range}
use Rattle.std.proofs.Common.{refl, arith}
use Rattle.sparse_pattern.specs.Raw.{start_of, end_of, nnz_of}
use Rattle.sparse_factor.specs.Fill.{LowerBase, ListsFill}
use Rattle.sparse_factor.specs.InnerCountedPairs.{CountsPairs}
use Rattle.sparse_factor.proofs.AppendedColumns.{IsAppended, column_appended}
use Rattle.sparse_factor.proofs.Merged.{head_at}
use Rattle.sparse_factor.proofs.CountedMerges.{IsMergedBefore, counted_next, counted_within_fill}
use Rattle.sparse_factor.proofs.AddedRows.{counted_later}
use Rattle.sparse_factor.proofs.factorization.columns.merged_columns.Given.{Over}
use Rattle.sparse_factor.proofs.factorization.columns.merged_columns.Goals.{After-append_column}
use Rattle.sparse_factor.proofs.factorization.columns.merged_columns.Goals.{After-deref}

-- the steps before the column, and those for its base and for the tails of its children
pub steps_counted : (g : Over) (c : After-append_column g)
    → CountsPairs (IsMergedBefore (LowerBase c.args.base.now) (c.loop-column.column + 1))
    (c.args.steps.now + start_of c.args.base.now (c.loop-column.column + 1))
    c.append_column.new.steps
steps_counted g c =
    let d = c.args.base.now in
    let j = c.loop-column.column in
    let lane = c.major_offsets.ensures.valid.lanes j
    (omega (arith, c.loop-column-test.true, c.major_dim-size.ensures)) in
    let read = head_at c.loop-column.invariant.merged g.C.Count.number c.loop-column.firsts refl
    c.loop-column-test.true c.index-firsts-column.is c.get-first.ensures in
    counted_next c.loop-column.invariant.merged
    (counted_later (end_of d j - start_of d j) c.loop-column.invariant.added
    (omega (arith, lane.ordered)) (omega (arith, lane.ordered, c.in_ok-merge_base.ensures.counted)))
    (rw read at c.append_column.ensures.added)

pub steps_within : (g : Over) (c : After-append_column g) (fill : List (ℕ × ℕ))
    → ListsFill (LowerBase c.args.base.now) fill
    → c.append_column.new.steps ≤ c.args.steps.now + nnz_of c.args.base.now + length fill
steps_within g c fill all =
    let j = c.loop-column.column in
    let lane = c.major_offsets.ensures.valid.lanes j
    (omega (arith, c.loop-column-test.true, c.major_dim-size.ensures)) in
    omega (arith, counted_within_fill (j + 1) (steps_counted g c) fill all, lane.inside)

-- the column is appended
pub appended : (g : Over) (c : After-deref g) → IsAppended (LowerBase c.args.base.now)
    c.major_dim-size.result c.loop-column.column c.push.new.self.items
    c.append_column.new.columns.rows.items
    (slice_range c.deref.result.now c.len-before.result (length c.deref.result.now))
appended g c =
    let read = head_at c.loop-column.invariant.merged g.C.Count.number c.loop-column.firsts refl
    c.loop-column-test.true c.index-firsts-column.is c.get-first.ensures in
    column_appended c.loop-column.invariant.merged c.merge_base.new.added.rows.items
    c.in_ok-merge_base.ensures.rows
    (rw read at c.in_ok-append_column.ensures.gains)
    (rw (
      c.in_ok-push.ensures.items,
      c.in_ok-append_column.ensures.offsets,
      c.len.ensures,
      c.append_column.new.columns.rows.ok.0,
    ) refl)
    (rw (c.deref.ensures.value, c.len-before.ensures, c.loop-column.columns.rows.ok.0) refl)
