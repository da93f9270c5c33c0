use Rattle.std.proofs.Common.{take}
use Rattle.std.specs.List.{flat_map}
use Rattle.sparse_expr.specs.PostfixWords.{AreFine, texts, postfix}
use Rattle.sparse_expr.proofs.expr.Expr.from_words.Given as goal

abbrev pub invariant-loop-word : goal.invariant-loop-word
invariant-loop-word l = AreFine (take l.word-index (texts l.word-items))
    (flat_map postfix l.stack.items)
