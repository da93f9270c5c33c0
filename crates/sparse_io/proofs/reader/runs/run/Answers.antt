use Rattle.std.proofs.Common.{length-drop, refl, sym, ◌∙◌, arith}
use Rattle.sparse_io.proofs.LineRuns.{next_is_read, read_none, read_line, read_both}
use Rattle.sparse_io.proofs.reader.runs.run.Goals as goal

pub lines-init : goal.lines-init
lines-init g c = record {
  inside = omega arith;
  on = read_none g.T.MatrixMarketScalar.scalar c.with_symmetry-header.result _ c.requires.begins;
}

pub overflow_add-read : goal.overflow_add-read
overflow_add-read g c =
    let line = next_is_read g.T.MatrixMarketScalar.scalar c.with_symmetry-header.result
    c.in-Some.ensures.read c.lines.invariant.on.begins in
    omega (arith, line.shorter, c.lines.invariant.on.room, c.requires.room)

pub lines-smaller : goal.lines-smaller
lines-smaller g c =
    let line = next_is_read g.T.MatrixMarketScalar.scalar c.with_symmetry-header.result
    c.in-Some.ensures.read c.lines.invariant.on.begins in
    omega (
      arith,
      line.shorter,
      length-drop c.lines.at c.args.text.now,
      length-drop c.in-Some.next c.args.text.now,
    )

pub lines-preserved : goal.lines-preserved
lines-preserved g c =
    let line = next_is_read g.T.MatrixMarketScalar.scalar c.with_symmetry-header.result
    c.in-Some.ensures.read c.lines.invariant.on.begins in
    record {
      inside = c.in-Some.ensures.inside;
      on = read_both g.T.MatrixMarketScalar.scalar c.with_symmetry-header.result
          c.lines.invariant.on
          (read_line g.T.MatrixMarketScalar.scalar c.with_symmetry-header.result line
          c.in-Some.ensures.read.begins refl c.remove_first.ensures c.in-Some.ensures.read.means
          c.append_all.ensures.rows c.append_all.ensures.cols
          (sym c.if-not-are_inside.false
          ∙ rw (c.nrows.ensures, c.ncols.ensures) at c.are_inside.ensures)
          (λ _. c.append_all.ensures.added));
    }

pub returns : goal.returns
returns g c = rw (
  sym c.with_symmetry-header.ensures,
  sym c.new-list.ensures.matrix,
  c.into_matrix.ensures,
  c.split_at.ensures.back,
) c.lines.invariant.on
