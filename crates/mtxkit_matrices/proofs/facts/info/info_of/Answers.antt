use Rattle.mtxkit_matrices.specs.Lanes.{IsHistogram}
use Rattle.mtxkit_matrices.proofs.facts.info.info_of.Goals as goal

pub returns : goal.returns
returns g c =
    let is = c.pattern-pattern.ensures.pattern in
    let band = c.bandwidth.ensures in
    let lines = c.in_ok-counted_lanes.ensures in
    let rows = c.in_ok-counted_lanes.field-0 in
    let histogram : IsHistogram c.pattern-pattern.result.now rows.width rows.counts.items = record {
      exact = lines.width;
      lines = lines.lines;
      each = lines.each;
      total = lines.total;
    } in
    record {
      places = rw is at c.nnz.ensures;
      stored_zeros = rw c.values.ensures.values at c.count_zeros.ensures;
      empty_rows = rw is at c.count_lanes.ensures.count;
      empty_cols = record {
        transposed = c.in_ok-transposed.transposed;
        is = rw is at c.in_ok-transposed.ensures.transposed;
        valid = c.in_ok-transposed.ensures.valid;
        counted = c.count_lanes-2.ensures.count;
      };
      bandwidth = record { bound = rw is at band.bound; reached = rw is at band.reached };
      pattern = rw is at c.in_ok-is_symmetric.ensures;
      values = c.in_ok-has_symmetric_values.ensures;
      rows = rw is at histogram;
    }
