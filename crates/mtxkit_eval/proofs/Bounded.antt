-- Values whose bound is below 2 ^ 127.
use Rattle.std.proofs.Common.{◌≡◌, ◌≤◌, ◌<◌, ◌^◌, ◌-◌, ℕ, All, List, map, Ok, arith, ap, ◌∙◌}
use Rattle.std.specs.Int.{w128}
use Rattle.sparse_algebra.specs.Wrapping.{wrapping_ring}
use Rattle.sparse_algebra.specs.declared.scalar.wide.W128.{W128}
use Rattle.sparse_compressed.specs.Compressed.{Compressed, IsSound}
use Rattle.sparse_expr.specs.declared.expr.Expr.{Expr}
use Rattle.mtxkit_eval.specs.Extents.{cap, extent_of, matrix_extent, IsWithin}
use Rattle.mtxkit_eval.specs.Values.{exact_of, exact_value, HasValue}
use Rattle.mtxkit_eval.specs.Rings.{reduced128}
use Rattle.mtxkit_eval.proofs.Bounds.{value-within}
use Rattle.mtxkit_eval.proofs.Magnitudes.{exact, within-extent}

pub uncapped-large : (n : ℕ) → 2 ^ 127 - 1 < cap n → 2 ^ 127 ≤ n
uncapped-large n large = grind arith

pub uncapped-small : (n : ℕ) → cap n ≤ 2 ^ 127 - 1 → n < 2 ^ 127
uncapped-small n small = grind arith

module _ (ms : List (Compressed W128)) (sound : All IsSound ms) (expr : Expr)
    (small : (extent_of (map matrix_extent ms) expr).largest < 2 ^ 127) (m : Compressed W128)
    (has : HasValue (wrapping_ring w128) reduced128 (exact_value ms expr) m) where
  -- the value is that of the matrix
  pub value-exact : has.value ≡ exact_of m
  value-exact =
      let within : IsWithin (extent_of (map matrix_extent ms) expr) has.value =
      value-within exact_of matrix_extent ms expr has.value
      (λ k d lt. within-extent _ (sound k d lt)) has.is in
      exact m has.images.sound has.value has.images.images
      (λ i j. let bound = within.values i j in omega (arith, bound, small))

  pub exact-result : exact_value ms expr ≡ Ok (exact_of m)
  exact-result = has.is ∙ ap Ok value-exact
