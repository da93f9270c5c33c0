use Rattle.std.proofs.Common.{◌∙◌, refl}
use Rattle.tests_acceptance.proofs.counting.small.Goals as goal

pub returns : goal.returns
returns c =
    let offsets = c.in_ok-offsets.ensures.items in
    let columns = c.in_ok-columns.ensures.items in
    let values = c.in_ok-values.ensures.items in
    record {
      a = c.new.result;
      b = c.new-2.result;
      c = c.new-3.result;
      is = c.in_ok-try_from_csr_data.ensures.ok ∙ rw (offsets, columns, values) refl;
      one = c.new.ensures;
      two = c.new-2.ensures;
      three = c.new-3.ensures;
    }
