-- An expression as a tree, without the addresses of its boxes.
use Rattle.std.specs.Prelude.{ℕ}
use Rattle.sparse_expr.specs.declared.words.Token.{Token}
use Rattle.sparse_expr.specs.declared.words.Token.TheVariants.{Plus, Minus, Times, Transpose, Negate}
use Rattle.sparse_expr.specs.declared.expr.Expr.{Expr}
use Rattle.sparse_expr.specs.declared.expr.Expr.TheVariants as tree

-- an input, a unary operator with its operand, or a binary one with its two operands
pub data Tree : Type 0 where
  Leaf : ℕ → Tree
  Single : Token → Tree → Tree
  Pair : Token → Tree → Tree → Tree

abbrev pub tree_of : Expr → Tree
tree_of (tree.Input n) = Leaf n
tree_of (tree.Add' p a q b) = Pair Plus (tree_of a) (tree_of b)
tree_of (tree.Sub' p a q b) = Pair Minus (tree_of a) (tree_of b)
tree_of (tree.Mul' p a q b) = Pair Times (tree_of a) (tree_of b)
tree_of (tree.Transpose' p a) = Single Transpose (tree_of a)
tree_of (tree.Neg' p a) = Single Negate (tree_of a)
