-- What reading the standard input gives.
use Rattle.std.specs.Prelude.{◌≡◌, ℕ, List, Option, IfSome}
use Rattle.std.specs.Io.KnownBytes.{IsAtEnd}

-- the text is all that was left of the input, and nothing is left, where contracts know its bytes
abbrev pub TakesAll : Option (List ℕ) → Option (List ℕ) → List ℕ → Type 0
TakesAll old new text = IfSome old (λ left. text ≡ left) × IsAtEnd new
