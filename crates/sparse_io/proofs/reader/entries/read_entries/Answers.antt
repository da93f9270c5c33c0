use Rattle.std.proofs.Common.{map, ◌≢◌, length, refl, sym, ap, ◌∙◌, inr, arith}
use Rattle.std.proofs.lemmas.Bool.{eqb-true, eqb-false}
use Rattle.sparse_parser.specs.Errors.{kind_of_cause}
use Rattle.sparse_parser.specs.Reads.{read_as}
use Rattle.sparse_parser.specs.Meaning.{triplets_of, value_triplet, values_of}
use Rattle.sparse_parser.specs.InnerReading.{line_words}
use Rattle.sparse_io.specs.InnerEntries.{both_of}
use Rattle.sparse_io.proofs.EntryLoop.{line_refused}
use Rattle.sparse_io.proofs.LineRuns.{meant_is_read, read_start, read_refused, read_fault, read_line, read_both}
use Rattle.sparse_io.proofs.LineRuns.{read_gives, fault_is}
use Rattle.sparse_io.proofs.reader.entries.read_entries.Goals as goal

pub loop-rest-init : goal.loop-rest-init
loop-rest-init g c =
    read_start g.T.MatrixMarketScalar.scalar c.args.header
    (c.args.size.rows, c.args.size.cols, c.args.size.count) c.next_line-rest.ensures.begins
    c.next_line-rest.ensures.same c.next_line-rest.ensures.len c.new-places.ensures
    (ap (values_of g.T.MatrixMarketScalar.value) (c.reserve.ensures ∙ c.new-matrix.ensures))

pub returns-in_default : goal.returns-in_default
returns-in_default g c =
    let some : length c.loop-rest.rest.now ≢ 0 =
    eqb-false _ _ (sym c.is_empty.ensures ∙ c.loop-rest-test.true) in
    inr (fault_is (read_refused g.T.MatrixMarketScalar.scalar c.args.header
    (c.args.size.rows, c.args.size.cols, c.args.size.count) c.loop-rest.invariant
    (line_refused c.loop-rest.rest.now c.loop-rest.invariant.begins (omega arith)
    c.in_default.ensures)) (ap kind_of_cause c.new.ensures))

pub returns-in-Err : goal.returns-in-Err
returns-in-Err g c =
    let f = ap (λ p. triplets_of g.T.MatrixMarketScalar.scalar c.args.header p
    (line_words c.loop-rest.rest.now)) (sym c.take_first-at.ensures.first)
    ∙ sym c.in-Some.ensures.means
    ∙ ap (λ r. read_as (λ t. map (λ t. value_triplet g.T.MatrixMarketScalar.value t)
    (both_of t)) r) c.in-Err.is in
    inr (fault_is (read_fault g.T.MatrixMarketScalar.scalar c.args.header
    (c.args.size.rows, c.args.size.cols, c.args.size.count) c.loop-rest.invariant
    (meant_is_read g.T.MatrixMarketScalar.scalar c.args.header c.in-Some.ensures
    c.loop-rest.invariant.begins refl (omega arith)) f) c.settled.ensures)

pub loop-rest-smaller : goal.loop-rest-smaller
loop-rest-smaller g c =
    let line = meant_is_read g.T.MatrixMarketScalar.scalar c.args.header c.in-Some.ensures
    c.loop-rest.invariant.begins c.next_line-next.ensures.same c.next_line-next.ensures.len in
    omega (arith, line.shorter, c.common_lines-others.ensures.shorter)

pub loop-rest-preserved : goal.loop-rest-preserved
loop-rest-preserved g c =
    read_both g.T.MatrixMarketScalar.scalar c.args.header c.loop-rest.invariant
    (read_both g.T.MatrixMarketScalar.scalar c.args.header
    (read_line g.T.MatrixMarketScalar.scalar c.args.header
    (meant_is_read g.T.MatrixMarketScalar.scalar c.args.header c.in-Some.ensures
    c.loop-rest.invariant.begins c.next_line-next.ensures.same c.next_line-next.ensures.len)
    c.next_line-next.ensures.begins
    c.take_first-at.ensures.first c.take_first-at.ensures.left
    (sym (ap (λ r. read_as (λ t. map (λ t. value_triplet g.T.MatrixMarketScalar.value t)
    (both_of t)) r) c.in-Ok.is) ∙ c.in-Some.ensures.means)
    c.in_ok-bounds-in-Ok.ensures.rows c.in_ok-bounds-in-Ok.ensures.cols
    c.in_ok-bounds-in-Ok.ensures.inside c.in_ok-bounds-in-Ok.ensures.added)
    c.common_lines-others.ensures)

pub returns : goal.returns
returns g c =
    read_gives g.T.MatrixMarketScalar.scalar c.args.header
    (c.args.size.rows, c.args.size.cols, c.args.size.count) c.loop-rest.invariant
    g.T.MatrixMarketScalar.value _
    (eqb-true _ _ (sym c.is_empty.ensures ∙ c.loop-rest-test.false))
    c.is_count.ensures c.finished.ensures
