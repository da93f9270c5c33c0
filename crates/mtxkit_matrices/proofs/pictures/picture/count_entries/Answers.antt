use Rattle.std.proofs.Common.{◌≡◌, ◌+◌, ◌*◌, ◌<◌, ◌∷◌, length, refl, sym, ap, ◌∙◌, rules, arith}
use Rattle.std.proofs.lemmas.List.{length-set}
use Rattle.std.proofs.lemmas.List.Sums.{count_by-le-length}
use Rattle.std.proofs.lemmas.Nat.{mul-add-lt}
use Rattle.mtxkit_matrices.specs.Pictures.{cell_of, lies_in}
use Rattle.sparse_pattern.specs.Raw.{entries_of}
use Rattle.mtxkit_matrices.proofs.CellCounts.{counted_next, counted_beyond, counted_one_more}
use Rattle.mtxkit_matrices.proofs.EntriesLeft.{none_done, next_place, next_done}
use Rattle.mtxkit_matrices.proofs.pictures.picture.count_entries.Goals.{else-row-height-via-then-row-height+else-col-width}
use Rattle.mtxkit_matrices.proofs.pictures.picture.count_entries.Goals.{else-row-height-via-else-row-height}
use Rattle.mtxkit_matrices.proofs.pictures.picture.count_entries.Goals as goal

pub loop-lane-init : goal.loop-lane-init
loop-lane-init c =
    let all : c.into_iter-lane-iterator.result ≡ c.entries-lane-items.result = search rules in
    record {
      half = rw all (none_done c.args.pattern.now c.entries-lane-items.result _
          c.entries-lane-items.ensures.entries);
      cells = refl;
      counted = λ r col down across.
          rw (c.requires.zeros (r * c.args.width + col), all, c.entries-lane-items.ensures.all) (omega arith);
    }

pub cell_of-row-requires : goal.cell_of-row-requires
cell_of-row-requires c =
    let step : c.loop-lane.lane-iterator ≡ (c.in-Some.lane, c.in-Some.index) ∷ c.next.new.self =
    c.in-Some.ensures.steps in
    let place = next_place c.args.pattern.now c.in-Some.lane c.in-Some.index step
    c.loop-lane.invariant.half in
    omega (arith, place.in_lane.lane, c.major_dim.ensures)

pub cell_of-col-requires : goal.cell_of-col-requires
cell_of-col-requires c =
    let step : c.loop-lane.lane-iterator ≡ (c.in-Some.lane, c.in-Some.index) ∷ c.next.new.self =
    c.in-Some.ensures.steps in
    let place = next_place c.args.pattern.now c.in-Some.lane c.in-Some.index step
    c.loop-lane.invariant.half in
    let at = place.in_lane in
    let lane = c.major_offsets.ensures.valid.lanes c.in-Some.lane at.lane in
    omega (arith, lane.bounded place.at at.from at.to, place.index, c.minor_dim.ensures)

pub overflow_add-counts-then-col-width : goal.overflow_add-counts-then-col-width
overflow_add-counts-then-col-width c =
    let p = c.args.pattern.now in
    let i = c.in-Some.lane in
    let j = c.in-Some.index in
    let row = c.cell_of-row.result in
    let col = c.cell_of-col.result in
    let step : c.loop-lane.lane-iterator ≡ (i, j) ∷ c.next.new.self = c.in-Some.ensures.steps in
    let down : row ≡ cell_of p.major_dim c.args.height i =
    c.cell_of-row.ensures ∙ ap (λ n. cell_of n c.args.height i) c.major_dim.ensures in
    let across : col ≡ cell_of p.minor_dim c.args.width j =
    c.cell_of-col.ensures ∙ ap (λ n. cell_of n c.args.width j) c.minor_dim.ensures in
    let counted = counted_one_more p c.args.height c.args.width c.loop-lane.counts i j row col step down
    across (c.loop-lane.invariant.counted row col c.if-row-height.true c.if-col-width.true) in
    let all : length (entries_of p) ≡ length p.indices =
    sym (ap length c.entries-lane-items.ensures.all) ∙ c.entries-lane-items.ensures.count in
    let most = count_by-le-length (lies_in p c.args.height c.args.width row col) (entries_of p) in
    omega (arith, counted, all, most, c.nnz.ensures)

pub loop-lane-preserved-then-col-width : goal.loop-lane-preserved-then-col-width
loop-lane-preserved-then-col-width c =
    let p = c.args.pattern.now in
    let inv = c.loop-lane.invariant in
    let i = c.in-Some.lane in
    let j = c.in-Some.index in
    let row = c.cell_of-row.result in
    let col = c.cell_of-col.result in
    let width = c.args.width in
    let step : c.loop-lane.lane-iterator ≡ (i, j) ∷ c.next.new.self = c.in-Some.ensures.steps in
    let down : row ≡ cell_of p.major_dim c.args.height i =
    c.cell_of-row.ensures ∙ ap (λ n. cell_of n c.args.height i) c.major_dim.ensures in
    let across : col ≡ cell_of p.minor_dim width j =
    c.cell_of-col.ensures ∙ ap (λ n. cell_of n width j) c.minor_dim.ensures in
    let within : row * width + col < length c.loop-lane.counts =
    omega (
      arith,
      mul-add-lt row width col c.args.height c.if-row-height.true c.if-col-width.true,
      c.requires.cells,
      inv.cells,
    ) in
    record {
      half = next_done p i j step (λ a b done. done) tt inv.half;
      cells = length-set c.loop-lane.counts (row * width + col) _ ∙ inv.cells;
      counted = λ r c' lt lt'. counted_next p c.args.height width c.loop-lane.counts i j row col
          step down across c.if-col-width.true within r c' _ lt' (inv.counted r c' lt lt');
    }

pub loop-lane-preserved : goal.loop-lane-preserved
loop-lane-preserved c =
    let p = c.args.pattern.now in
    let inv = c.loop-lane.invariant in
    let i = c.in-Some.lane in
    let j = c.in-Some.index in
    let step : c.loop-lane.lane-iterator ≡ (i, j) ∷ c.next.new.self = c.in-Some.ensures.steps in
    let down : c.cell_of-row.result ≡ cell_of p.major_dim c.args.height i =
    c.cell_of-row.ensures ∙ ap (λ n. cell_of n c.args.height i) c.major_dim.ensures in
    let across : c.cell_of-col.result ≡ cell_of p.minor_dim c.args.width j =
    c.cell_of-col.ensures ∙ ap (λ n. cell_of n c.args.width j) c.minor_dim.ensures in
    record {
      half = next_done p i j step (λ a b done. done) tt inv.half;
      cells = inv.cells;
      counted = λ r c' lt lt'. counted_beyond p c.args.height c.args.width c.loop-lane.counts i j
          step r c' _
          (λ is is'. elim c.else-row-height.branch [
            | else-row-height-via-then-row-height+else-col-width w ↦
                absurd (omega (arith, w.if-col-width.false, across, is', lt'))
            | else-row-height-via-else-row-height w ↦
                absurd (omega (arith, w.if-row-height.false, down, is, lt))
          ]) (inv.counted r c' lt lt');
    }
