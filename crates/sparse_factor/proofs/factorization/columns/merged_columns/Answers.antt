mod ColumnReads
use Rattle.std.proofs.Common.{◌≡◌, ℕ, ◌+◌, ◌<◌, ◌≤◌, length, map}
use Rattle.std.proofs.Common.{◌≢◌, refl, ap, ◌∙◌, arith}
use Rattle.std.proofs.lemmas.List.{length-map, length-replicate}
use Rattle.sparse_pattern.specs.Raw.{start_of}
use Rattle.sparse_pattern.proofs.BuiltLanes.{all_built, minor_index_below}
use Rattle.sparse_factor.specs.Fill.{LowerBase, Filled}
use Rattle.sparse_factor.proofs.FillLaws.{low_filled}
use Rattle.sparse_factor.proofs.LinkedToParent.{merged_next}
use Rattle.sparse_factor.proofs.Merged.{none_merged, are_columns, rows_below, filled_within}
use Rattle.sparse_factor.proofs.Merged.{head_at, zero_at}
use Rattle.sparse_factor.proofs.CountedMerges.{counted_within_fill}
use Rattle.sparse_factor.proofs.AddedRows.{none_added, counted_later}
use Rattle.sparse_factor.proofs.factorization.columns.merged_columns.Goals as goal
use Rattle.sparse_factor.proofs.factorization.columns.merged_columns.Goals.{After-append_column}
use Rattle.sparse_factor.proofs.factorization.columns.merged_columns.Goals.{After-deref}
use Rattle.sparse_factor.proofs.factorization.columns.merged_columns.Answers.ColumnReads.{appended}
use Rattle.sparse_factor.proofs.factorization.columns.merged_columns.Answers.ColumnReads.{steps_counted}
use Rattle.sparse_factor.proofs.factorization.columns.merged_columns.Answers.ColumnReads.{steps_within}

pub loop-column-init : goal.loop-column-init
loop-column-init g c =
    let d = c.args.base.now in
    let f = g.C.Count.number in
    let n = c.major_dim-size.result in
    record {
      merged = rw (c.in_ok-columns.ensures.offsets, c.in_ok-columns.ensures.rows)
          (none_merged (λ i k b. b.1) (λ i k b. omega (
            arith,
            minor_index_below d c.major_offsets.ensures.valid k i b.0,
            c.major_dim-size.ensures,
            c.requires.square,
          )) (rw c.as_mut_slice-firsts.ensures.value c.in_ok-first_heads.ensures)
          (rw c.as_mut_slice-nexts.ensures.value c.in_ok-next_heads.ensures));
      count = omega (
        arith,
        length-map c.in_ok-zeros.field-0.items f,
        ap length c.in_ok-zeros.ensures,
        length-replicate {A = ℕ} n 0,
      );
      marks = rw c.in_ok-zeros.ensures (λ i. omega (arith, zero_at n i));
      added = counted_later 0 (none_added _ c.args.steps.now)
          (omega (arith, c.major_offsets.ensures.valid.first)) (omega arith);
    }

pub from_offset_and_indices_unchecked-requires : goal.from_offset_and_indices_unchecked-requires
from_offset_and_indices_unchecked-requires g c =
    let l = c.loop-column in
    let whole : l.column ≡ c.major_dim-size.result = omega (
      arith,
      c.loop-column-test.false,
      l.auto.column-end,
    ) in
    rw whole at l.invariant.merged.built.valid

pub append_column-requires-clause-columns : goal.append_column-requires-clause-columns
append_column-requires-clause-columns g c = are_columns c.loop-column.invariant.merged

pub append_column-requires-clause-first : goal.append_column-requires-clause-first
append_column-requires-clause-first g c =
    let l = c.loop-column in
    let are = l.invariant.merged in
    let read = head_at are g.C.Count.number l.firsts refl c.loop-column-test.true
    c.index-firsts-column.is c.get-first.ensures in
    omega (arith, read, are.heads l.column, are.built.valid.count)

pub append_column-requires-clause-inside : goal.append_column-requires-clause-inside
append_column-requires-clause-inside g c =
    rw (c.merge_base.ensures.count, c.loop-column.invariant.count)
    (rows_below c.loop-column.invariant.merged)

pub first_below-parent-requires : goal.first_below-parent-requires
first_below-parent-requires g c =
    let column = appended g (goal.at.first_below-parent-requires g c).After-deref in
    record { rising = column.rising; low = column.low }

pub link_to_parent-requires-clause-parent : goal.link_to_parent-requires-clause-parent
link_to_parent-requires-clause-parent g c =
    let l = c.loop-column in
    let p = c.first_below-parent.result in
    let column = appended g (goal.at.link_to_parent-requires-clause-parent g c).After-deref in
    let inside = λ (some : p ≢ 0). column.within p (c.first_below-parent.ensures.some some).stored in
    let long = length-map l.firsts g.C.Count.number in
    grind (arith, long, l.invariant.merged.first_count, inside, c.loop-column-test.true)

pub loop-column-preserved : goal.loop-column-preserved
loop-column-preserved g c =
    let f = g.C.Count.number in
    let at = goal.at.loop-column-preserved g c in
    let first = c.first_below-parent in
    let linked_column = c.link_to_parent.ensures in
    record {
      merged = merged_next c.loop-column.invariant.merged c.loop-column-test.true
          (appended g at.After-deref) first.result first.ensures.none first.ensures.some
          (λ e. (ap (map f) (linked_column.none e).0, ap (map f) (linked_column.none e).1))
          linked_column.firsts linked_column.nexts;
      count = c.append_column.ensures.count ∙ c.merge_base.ensures.count
          ∙ c.loop-column.invariant.count;
      marks = c.append_column.ensures.marks;
      added = steps_counted g at.After-append_column;
    }

pub returns-in_err-merge_base-clause-no_more : goal.returns-in_err-merge_base-clause-no_more
returns-in_err-merge_base-clause-no_more g c = λ fill all.
    let l = c.loop-column in
    let lane = c.major_offsets.ensures.valid.lanes l.column
    (omega (arith, c.loop-column-test.true, c.major_dim-size.ensures)) in
    omega (
      arith,
      c.in_err-merge_base.ensures.none,
      counted_within_fill l.column l.invariant.added fill all,
      lane.ordered,
      lane.inside,
    )

pub returns-in_err-append_column-clause-no_more : goal.returns-in_err-append_column-clause-no_more
returns-in_err-append_column-clause-no_more g c =
    steps_within g (goal.at.returns-in_err-append_column-clause-no_more g c).After-append_column

pub returns-in_err-push-clause-no_more : goal.returns-in_err-push-clause-no_more
returns-in_err-push-clause-no_more g c =
    steps_within g (goal.at.returns-in_err-push-clause-no_more g c).After-append_column

pub returns-clause-entries : goal.returns-clause-entries
returns-clause-entries g c = λ i j.
    let l = c.loop-column in
    let n = c.major_dim-size.result in
    let are = l.invariant.merged in
    let whole : l.column ≡ n = omega (arith, c.loop-column-test.false, l.auto.column-end) in
    all_built n (λ k i. Filled (LowerBase c.args.base.now) i k) l.column n
    c.from_offset_and_indices_unchecked.result l.columns.offsets.items l.columns.rows.items
    whole c.from_offset_and_indices_unchecked.ensures
    (λ k i f. omega (arith, low_filled _ are.low f, filled_within are i k f)) are.built j i

pub returns-clause-no_more : goal.returns-clause-no_more
returns-clause-no_more g c = λ fill all.
    let d = c.args.base.now in
    let l = c.loop-column in
    let whole : l.column ≡ d.major_dim = omega (
      arith,
      c.loop-column-test.false,
      l.auto.column-end,
      c.major_dim-size.ensures,
    ) in
    omega (
      arith,
      counted_within_fill l.column l.invariant.added fill all,
      ap (start_of d) whole,
      c.major_offsets.ensures.valid.last,
    )
