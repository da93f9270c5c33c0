use Rattle.std.proofs.Common.{◌≡◌, get_or, arith}
use Rattle.sparse_parser.proofs.FirstLines.{sought_first, sought_more}
use Rattle.sparse_parser.proofs.LineLaws.{head_byte}
use Rattle.sparse_parser.proofs.lines.sought_line.Goals as goal

pub loop-rest-init : goal.loop-rest-init
loop-rest-init c = sought_first _ _ c.after_space-rest.ensures

pub loop-rest-smaller : goal.loop-rest-smaller
loop-rest-smaller c =
    let is : get_or c.loop-rest.rest.now 0 0 ≡ 37 = omega arith in
    (sought_more _ _ _ _ c.loop-rest.invariant (head_byte 37 _ (omega arith) is)
    c.split_line.ensures.rest c.after_space-rest-in-37.ensures).1

pub loop-rest-preserved : goal.loop-rest-preserved
loop-rest-preserved c =
    let is : get_or c.loop-rest.rest.now 0 0 ≡ 37 = omega arith in
    (sought_more _ _ _ _ c.loop-rest.invariant (head_byte 37 _ (omega arith) is)
    c.split_line.ensures.rest c.after_space-rest-in-37.ensures).0
