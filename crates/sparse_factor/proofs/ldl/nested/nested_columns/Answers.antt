use Rattle.std.proofs.Common.{length-append, arith}
use Rattle.sparse_factor.proofs.NestedFlags.{flags_more}
use Rattle.sparse_factor.proofs.ldl.nested.nested_columns.Goals as goal

pub loop-k-preserved : goal.loop-k-preserved
loop-k-preserved c =
    let so_far = c.loop-k.invariant in
    rw c.in_ok-push.ensures.items (record {
      count = rw length-append (omega (arith, so_far.count));
      each = flags_more c.args.pattern.now c.loop-k.nested.items c.is_nested.result c.loop-k.k
          so_far.count so_far.each c.is_nested.ensures;
    })
