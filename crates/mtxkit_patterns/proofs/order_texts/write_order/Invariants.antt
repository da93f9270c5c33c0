use Rattle.std.proofs.Common.{◌≡◌, ◌++◌, length, take, string_bytes}
use Rattle.std.specs.List.{flat_map}
use Rattle.mtxkit_patterns.specs.OrderTexts.{order_head, order_line}
use Rattle.mtxkit_patterns.proofs.order_texts.write_order.Given as goal

abbrev pub invariant-loop-index : goal.invariant-loop-index
invariant-loop-index l = string_bytes l.text
    ≡ order_head (length l.order) ++ flat_map order_line (take l.index-index l.order)
