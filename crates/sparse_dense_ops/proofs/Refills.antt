-- Reading a list of which all or a part was overwritten.
use Rattle.std.proofs.Common.{◌≡◌, ℕ, ◌+◌, ◌<◌, ◌≤◌, List, ◌++◌, length, get_or, take, drop, ap}
use Rattle.std.proofs.Common.{sym, ◌∙◌, arith}
use Rattle.std.proofs.lemmas.Grind.{common_steps}
use Rattle.std.proofs.Math.Seq.{take-append_seam}
use Rattle.sparse_pattern.specs.Refill.{refill, refill_from}

pub refill_whole : {X : Type 0} (xs ws : List X) → length ws ≡ length xs → refill xs ws ≡ ws
refill_whole xs ws e = ap (λ n. take n (ws ++ drop (length ws) xs)) (sym e)
    ∙ take-append_seam ws (drop (length ws) xs)

module _ {X : Type 0} (xs ws : List X) (i : ℕ) (room : i + length ws ≤ length xs) where
  length-parts : length (take i xs ++ (ws ++ drop (length ws) (drop i xs))) ≡ length xs
  length-parts = grind (arith, common_steps, room)

  refill_from-is : refill_from xs i ws ≡ take i xs ++ (ws ++ drop (length ws) (drop i xs))
  refill_from-is = refill_whole xs (take i xs ++ (ws ++ drop (length ws) (drop i xs))) length-parts

  -- an index inside the part reads what was written
  pub refill_from-inside : (q : ℕ) (z : X) → q < length ws
      → get_or (refill_from xs i ws) (i + q) z ≡ get_or ws q z
  refill_from-inside q z lt = ap (λ l. get_or l (i + q) z) refill_from-is
      ∙ grind (arith, common_steps, room, lt)

  pub refill_from-before : (p : ℕ) (z : X) → p < i
      → get_or (refill_from xs i ws) p z ≡ get_or xs p z
  refill_from-before p z lt = ap (λ l. get_or l p z) refill_from-is
      ∙ grind (arith, common_steps, room, lt)

  pub refill_from-after : (p : ℕ) (z : X) → i + length ws ≤ p
      → get_or (refill_from xs i ws) p z ≡ get_or xs p z
  refill_from-after p z le = ap (λ l. get_or l p z) refill_from-is
      ∙ grind (arith, common_steps, room, le)
