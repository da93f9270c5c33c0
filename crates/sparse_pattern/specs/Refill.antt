-- The value of a list after a part of it was borrowed mutably.
use Rattle.std.specs.Prelude.{ℕ, ◌++◌, List, length, take, drop}

-- xs with its prefix replaced by ws
abbrev pub refill : {X : Type 0} → List X → List X → List X
refill xs ws = take (length xs) (ws ++ drop (length ws) xs)

-- xs with its elements from offset i on replaced by ws
abbrev pub refill_from : {X : Type 0} → List X → ℕ → List X → List X
refill_from xs i ws = refill xs (take i xs ++ (ws ++ drop (length ws) (drop i xs)))
