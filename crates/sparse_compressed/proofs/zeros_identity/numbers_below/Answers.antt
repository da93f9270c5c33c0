use Rattle.std.proofs.Common.{◌≡◌, ◌++◌, [], ◌∷◌, length, arith, ◌∙◌, below_more}
use Rattle.std.proofs.Math.ListN.{get_or, get_or-append}
use Rattle.std.proofs.lemmas.List.{get_or_push, length_push}
use Rattle.sparse_compressed.proofs.zeros_identity.numbers_below.Goals as goal

pub loop-number-preserved : goal.loop-number-preserved
loop-number-preserved c =
    let inv = c.loop-number.invariant in
    let n = c.loop-number.number in
    let xs = c.loop-number.numbers.items in
    let long : length xs ≡ n = omega arith in
    record {
      room = omega arith;
      count = omega arith;
      numbers = rw c.push_reserved.ensures.items
          (λ k lt. below_more (λ i. get_or (xs ++ n ∷ []) i 0 ≡ i) n
          (λ i before. get_or-append xs (n ∷ []) 0 i (omega arith)
          ∙ inv.numbers i (omega arith))
          (get_or_push xs n 0 n long) k (omega (arith, length_push xs n)));
    }
