-- The pairs that an array lists, collected one at a time.
use Rattle.std.proofs.Common.{◌≡◌, ℕ, zero, suc, ◌+◌, List, [], ◌∷◌, ◌++◌, refl, ap, sym, ◌∙◌}
use Rattle.std.proofs.Common.{arith}
use Rattle.std.specs.List.{flat_map, range_with_len}
use Rattle.std.proofs.lemmas.List.{flat_map_more}

range_push : (a n m j : ℕ) → m ≡ suc n → a + n ≡ j
    → range_with_len a m ≡ range_with_len a n ++ j ∷ []
range_push a zero m j e at = let same : a ≡ j = omega arith in rw (e, same) refl
range_push a (suc n) m j e at =
    ap (range_with_len a) e
    ∙ ap (λ (xs : List ℕ). a ∷ xs) (range_push (a + 1) n (suc n) j refl (omega arith))

pub columns_more : (f : ℕ → List (ℕ × ℕ)) (n : ℕ)
    → flat_map f (range_with_len 0 n) ++ f n ≡ flat_map f (range_with_len 0 (n + 1))
columns_more f n =
    flat_map_more f [] (range_with_len 0 n) n
    ∙ ap (flat_map f) (sym (range_push 0 n (n + 1) n (omega arith) (omega arith)))
