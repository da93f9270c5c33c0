use Rattle.std.proofs.Common.{◌≡◌, ◌+◌, ◌≤◌, ◌++◌, length, map, take, get_or}
use Rattle.std.specs.Vec.{vec_capacity}
use Rattle.sparse_products.specs.InnerProducts.{IsExtracted}
use Rattle.sparse_products.proofs.serial.rows.extract_values.Given as goal

abbrev pub invariant-loop-j : goal.invariant-loop-j
invariant-loop-j g l =
    let z = g.T.Zero.zero_value in
    let lane = take l.j-index l.indices in
    record {
      room : l.values.len + length l.indices ≤ vec_capacity l.values + l.j-index;
      extracted : IsExtracted z lane l.initial.row l.row;
      pushed : l.values.items ≡ l.initial.values.items
          ++ map (λ j. get_or l.initial.row j z) lane;
    }
