-- Cursors of which one or four are moved to the next entry.
use Rattle.std.proofs.Common.{◌≡◌, ℕ, ◌+◌, ◌<◌, List, length, slice_index, ◌∙◌, arith}
use Rattle.std.proofs.Common.{get_or-set_other, length-set}
use Rattle.sparse_factor.specs.InnerNested.{moved}

pub length-moved : (cursors : List ℕ) (k : ℕ) → length (moved cursors k) ≡ length cursors
unfolding moved
length-moved cursors k = length-set cursors k (slice_index cursors k + 1)

-- the cursors of the columns behind stay
pub moved-behind : (cursors : List ℕ) (k i : ℕ) → k < i
    → slice_index (moved cursors k) i ≡ slice_index cursors i
unfolding moved
moved-behind cursors k i lt = get_or-set_other cursors k i (slice_index cursors k + 1) 0
    (λ e. omega (arith, e, lt))

module _ (cursors : List ℕ) (k : ℕ) where
  pub second_behind : slice_index (moved cursors k) (k + 1) ≡ slice_index cursors (k + 1)
  second_behind = moved-behind cursors k (k + 1) (omega arith)

  pub third_behind : slice_index (moved (moved cursors k) (k + 1)) (k + 2)
      ≡ slice_index cursors (k + 2)
  third_behind = moved-behind (moved cursors k) (k + 1) (k + 2) (omega arith)
      ∙ moved-behind cursors k (k + 2) (omega arith)

  pub fourth_behind : slice_index (moved (moved (moved cursors k) (k + 1)) (k + 2)) (k + 3)
      ≡ slice_index cursors (k + 3)
  fourth_behind = moved-behind (moved (moved cursors k) (k + 1)) (k + 2) (k + 3) (omega arith)
      ∙ moved-behind (moved cursors k) (k + 1) (k + 3) (omega arith)
      ∙ moved-behind cursors k (k + 3) (omega arith)
